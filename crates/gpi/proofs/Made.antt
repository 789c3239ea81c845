-- What the constructors of statements make.
use Rattle.std.proofs.Common.{◌≡◌, ℕ, List, length, refl, sym, subst, Box, Global}
use Rattle.gpi.specs.declared.acts.Act.{Act}
use Rattle.gpi.specs.declared.acts.Act.TheViews.{Block, Case}
use Rattle.gpi.specs.declared.acts.Act.TheBlock.{hidden-the_row-Act-0}
use Rattle.gpi.specs.declared.acts.Acts.{Acts}
use Rattle.gpi.specs.declared.acts.CaseKind.{CaseKind}
use Rattle.gpi.specs.declared.acts.Label.{Label}
use Rattle.gpi.specs.declared.terms.Term.{Term}
use Rattle.gpi.specs.Terms as term
use Rattle.gpi.specs.Terms.{value, width, read}
use Rattle.gpi.specs.Cases.{first_match, AreLabels, AreItems}
use Rattle.gpi.specs.Activation.{Run, acts_of, activation, activation_at, by_item, run_at, row_length, IsSound, AreSound, SoundList, MakesBlock, MakesCase}
use Rattle.gpi.proofs.Rows.{list_runs, list_at, list_long, list_sound, by_item_same}

pub block_made : (x : Acts) → MakesBlock x (Block x)
block_made x = record {
  runs = λ r. list_runs x r;
  sound = λ ws h. subst (λ (S : Type 0). S) (sym (list_sound x ws)) h;
}

pub block_back : (x : Acts) (ws : List ℕ) → IsSound (Block x) ws → SoundList (acts_of x) ws
block_back x ws h = subst (λ (S : Type 0). S) (list_sound x ws) h

pub case_runs : (kind : CaseKind) (t : Term) (labels : List Label) (items : Acts) (a : Act) (r : Run) →
    by_item (first_match kind (value t (read r.signals)) labels (read r.signals)) (λ k. activation_at (hidden-the_row-Act-0 items.list) k r) (activation a r)
    ≡ by_item (first_match kind (value t (read r.signals)) labels (read r.signals)) (λ k. run_at (acts_of items) k r) (activation a r)
case_runs kind t labels items a r =
    by_item_same (first_match kind (value t (read r.signals)) labels (read r.signals)) (λ k. activation_at (hidden-the_row-Act-0 items.list) k r) (λ k. run_at (acts_of items) k r)
    (activation a r) (activation a r) (λ k. list_at items k r) refl

pub case_sound : (t : Term) (labels : List Label) (items : Acts) (a : Act) (ws : List ℕ) →
    term.IsSound t ws × AreLabels labels (width t) ws × AreItems labels (length (acts_of items)) × SoundList (acts_of items) ws × IsSound a ws →
    term.IsSound t ws × AreLabels labels (width t) ws × AreItems labels (row_length (hidden-the_row-Act-0 items.list)) × AreSound (hidden-the_row-Act-0 items.list) ws × IsSound a ws
case_sound t labels items a ws h =
    (h.0, h.1, subst (λ (n : ℕ). AreItems labels n) (sym (list_long items)) h.2, subst (λ (S : Type 0). S) (sym (list_sound items ws)) h.3, h.4)

pub case_back : (t : Term) (labels : List Label) (items : Acts) (a : Act) (ws : List ℕ) →
    term.IsSound t ws × AreLabels labels (width t) ws × AreItems labels (row_length (hidden-the_row-Act-0 items.list)) × AreSound (hidden-the_row-Act-0 items.list) ws × IsSound a ws →
    term.IsSound t ws × AreLabels labels (width t) ws × AreItems labels (length (acts_of items)) × SoundList (acts_of items) ws × IsSound a ws
case_back t labels items a ws h =
    (h.0, h.1, subst (λ (n : ℕ). AreItems labels n) (list_long items) h.2, subst (λ (S : Type 0). S) (list_sound items ws) h.3, h.4)

pub case_made : (kind : CaseKind) (t : Term) (labels : List Label) (items : Acts) (other : Box Act Global) → MakesCase kind t labels items other.value (Case kind t labels items other)
case_made kind t labels items other = record {
  runs = λ r. case_runs kind t labels items other.value r;
  sound = λ ws h. case_sound t labels items other.value ws h;
}
