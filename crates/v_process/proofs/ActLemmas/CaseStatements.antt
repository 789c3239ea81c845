-- Case statements.
use Rattle.std.specs.Prelude.{unwrap_or}
use Rattle.std.proofs.Common.{◌≡◌, ℕ, zero, suc, ◌+◌, ◌<◌, ◌≤◌, max, List, [], ◌∷◌, ◌++◌, length, Option, Some, None, Bool, true, false, ◌||◌, if◌then◌else◌, Result, Ok, Err, IfOk, refl, sym, ap, ◌∙◌, subst, arith}
use Rattle.four_value.specs.declared.Digit.{Digit}
use Rattle.four_value.specs.Limits.{most_digits}
use Rattle.gpi.specs.declared.acts.Act.{Act, Empty}
use Rattle.gpi.specs.declared.acts.Acts.{Acts}
use Rattle.gpi.specs.declared.acts.Label.{Label}
use Rattle.gpi.specs.declared.acts.CaseKind.{CaseKind as Agreement}
use Rattle.gpi.specs.declared.terms.Term.{Term}
use Rattle.gpi.specs.Terms.{value, IsWidth, IsSound}
use Rattle.gpi.specs.Terms as term
use Rattle.gpi.specs.Cases.{all_agree, first_match, AreItems, AreLabels}
use Rattle.gpi.specs.Activation.{Run, SoundList, MakesCase, acts_of, by_item, run_at}
use Rattle.gpi.specs.Activation as act
use Rattle.gpi.proofs.Steps.{match_inside}
use Rattle.v_syntax.specs.declared.statement.CaseKind.{CaseKind}
use Rattle.v_syntax.specs.ExpressionTrees.{Tree}
use Rattle.v_syntax.specs.StatementTrees.{Case, CaseTrees}
use Rattle.v_flat.specs.declared.scope.found.Found.{Found}
use Rattle.v_flat.specs.Scope.Found.{both}
use Rattle.v_flat.specs.Scope.Limits.{counted_width}
use Rattle.v_flat.specs.Scope.Scope.{Scope}
use Rattle.v_check.specs.declared.contextual.contextual.Contextual.{Contextual}
use Rattle.v_check.specs.Contextual.Contexts.{value_in, IsLowered}
use Rattle.v_check.specs.Contextual.Contexts as context
use Rattle.v_flat.specs.Checks.{checked}
use Rattle.v_flat.specs.Expressions.{Values, width, meaning}
use Rattle.v_flat.specs.declared.timing.Timing.{Timing}
use Rattle.v_flat.specs.Statements.{agreement_of, case_width, values_of, either_run, chosen, default_run}
use Rattle.v_flat.proofs.Holds.{holds_both}
use Rattle.v_check.specs.declared.constants.checked.Checked.{Checked}
use Rattle.v_check.specs.Constants.Checked.{StandsFor}
use Rattle.v_check.proofs.ConstantsLemmas.Combined.{made_holds}
use Rattle.v_process.specs.declared.act.cases.LabeledItem.{LabeledItem}
use Rattle.v_process.specs.declared.act.cases.CaseParts.{CaseParts}
use Rattle.v_process.specs.Act.Statements.{DoesAs}
use Rattle.v_process.specs.Act.Cases.{any_form_agrees, SoundForms, choose_back, SoundItems, run_some, SoundSome, DoAsCases, ChecksCase}
use Rattle.v_process.specs.Act.MadeCases.{item_or, AddsLabels, AddsItem, AreNumbered, FitTogether, MakesCaseStatement, AreCaseStatements}
use Rattle.v_process.proofs.ActLemmas.Done.{done_unit, done_as, two_done, done_made}
use Rattle.v_process.proofs.ActLemmas.CaseItems.{any_last, forms_split, choose_last, items_split}

-- ---- the first label that agrees

item_if : (b : Bool) (n : ℕ) → (if b then Some n else None) ≡ item_or None b n
item_if true n = refl
item_if false n = refl

match_if : (t b : Bool) (i n : ℕ) (o p : Option ℕ) → p ≡ item_or o b n → (if t then Some i else p) ≡ item_or (if t then Some i else o) b n
match_if true b i n o p h = refl
match_if false b i n o p h = h

match_last : (k : Agreement) (v : List Digit) (ls : List Label) (l : Label) (m : Values)
    → first_match k v (ls ++ (l ∷ [])) m ≡ item_or (first_match k v ls m) (all_agree k v (value l.value m)) l.item
match_last k v [] l m = item_if (all_agree k v (value l.value m)) l.item
match_last k v (x ∷ ls) l m = match_if (all_agree k v (value x.value m)) (all_agree k v (value l.value m)) x.item l.item (first_match k v ls m)
    (first_match k v (ls ++ (l ∷ [])) m) (match_last k v ls l m)

item_either : (o : Option ℕ) (a b : Bool) (n : ℕ) → item_or (item_or o a n) b n ≡ item_or o (a || b) n
item_either (Some i) a b n = refl
item_either None true b n = refl
item_either None false b n = refl

item_none : (o : Option ℕ) (n : ℕ) → item_or o false n ≡ o
item_none (Some i) n = refl
item_none None n = refl

labels_last : (ls : List Label) (l : Label) (w : ℕ) (ws : List ℕ) → AreLabels ls w ws → term.IsSound l.value ws → term.width l.value ≡ w
    → AreLabels (ls ++ (l ∷ [])) w ws
labels_last [] l w ws h k e = (k, e, tt)
labels_last (x ∷ ls) l w ws h k e = (h.0, h.1, labels_last ls l w ws h.2 k e)

numbers_last : (ls : List Label) (l : Label) (n : ℕ) → AreItems ls n → l.item < n → AreItems (ls ++ (l ∷ [])) n
numbers_last [] l n h k = (k, tt)
numbers_last (x ∷ ls) l n h k = (h.0, numbers_last ls l n h.1 k)

numbers_more : (ls : List Label) (n : ℕ) → AreItems ls n → AreItems ls (suc n)
numbers_more [] n h = tt
numbers_more (x ∷ ls) n h = (let k = h.0 in omega arith, numbers_more ls n h.1)

-- ---- the labels of an item

-- those that are added and those that are left are all labels
pub record Adding (w n : ℕ) (all left : List Contextual) (old now : List Label) : Type 0 where
  pub matches : (k : Agreement) (v : List Digit) (m : Values)
      → item_or (first_match k v now m) (any_form_agrees k v w left m) n ≡ item_or (first_match k v old m) (any_form_agrees k v w all m) n
  pub items : (c : ℕ) → n < c → AreItems old c → AreItems now c
  pub sound : (ws : List ℕ) → IsWidth w → SoundForms all ws → AreLabels old w ws → SoundForms left ws × AreLabels now w ws

pub adding_none : (w n : ℕ) (all : List Contextual) (old : List Label) → Adding w n all all old old
adding_none w n all old = record {
  matches = λ k v m. refl;
  items = λ c h g. g;
  sound = λ ws h k g. (k, g);
}

adding_matches : (w n : ℕ) (all left rest : List Contextual) (c : Contextual) (t : Term) (old now after : List Label) → left ≡ rest ++ (c ∷ [])
    → after ≡ now ++ ((record { value = t; item = n }) ∷ []) → IsLowered c w t → Adding w n all left old now
    → (k : Agreement) (v : List Digit) (m : Values)
    → item_or (first_match k v after m) (any_form_agrees k v w rest m) n ≡ item_or (first_match k v old m) (any_form_agrees k v w all m) n
adding_matches w n all left rest c t old now after e f h b k v m =
    ap (λ (ls : List Label). item_or (first_match k v ls m) (any_form_agrees k v w rest m) n) f
    ∙ ap (λ (o : Option ℕ). item_or o (any_form_agrees k v w rest m) n) (match_last k v now (record { value = t; item = n }) m)
    ∙ item_either (first_match k v now m) (all_agree k v (value t m)) (any_form_agrees k v w rest m) n
    ∙ ap (λ (ds : List Digit). item_or (first_match k v now m) (all_agree k v ds || any_form_agrees k v w rest m) n) (h.value_is m)
    ∙ ap (λ (t : Bool). item_or (first_match k v now m) t n) (sym (any_last k v w rest c m))
    ∙ ap (λ (cs : List Contextual). item_or (first_match k v now m) (any_form_agrees k v w cs m) n) (sym e)
    ∙ b.matches k v m

pub adding_more : (w n : ℕ) (all left rest : List Contextual) (c : Contextual) (t : Term) (old now after : List Label) → left ≡ rest ++ (c ∷ [])
    → after ≡ now ++ ((record { value = t; item = n }) ∷ []) → IsLowered c w t → Adding w n all left old now → Adding w n all rest old after
adding_more w n all left rest c t old now after e f h b = record {
  matches = λ k v m. adding_matches w n all left rest c t old now after e f h b k v m;
  items = λ d k g. subst (λ (ls : List Label). AreItems ls d) (sym f) (numbers_last now (record { value = t; item = n }) d (b.items d k g) k);
  sound = λ ws k g i.
      let j = b.sound ws k g i in
      let l = forms_split rest c ws (subst (λ (cs : List Contextual). SoundForms cs ws) e j.0) in
      (l.0, subst (λ (ls : List Label). AreLabels ls w ws) (sym f) (labels_last now (record { value = t; item = n }) w ws j.1 (h.sound ws (l.1, k)) h.width_is));
}

pub adding_all : (w n : ℕ) (all left : List Contextual) (old now : List Label) → left ≡ [] → Adding w n all left old now → AddsLabels w n all old now
adding_all w n all left old now e b = record {
  matches = λ k v m. sym (item_none (first_match k v now m) n)
      ∙ ap (λ (cs : List Contextual). item_or (first_match k v now m) (any_form_agrees k v w cs m) n) (sym e) ∙ b.matches k v m;
  items = b.items;
  sound = λ ws h k g. (b.sound ws h k g).1;
}

-- ---- all items

-- those that have numbers stand before those that are left
pub record Numbering (w : ℕ) (all left : List LabeledItem) (ls : List Label) (acts : List Act) : Type 0 where
  pub runs : (k : Agreement) (v : List Digit) (r other : Run)
      → by_item (first_match k v ls (values_of r)) (λ n. run_at acts n r) (choose_back k v w left r other) ≡ choose_back k v w all r other
  pub items : AreItems ls (length acts)
  pub sound : (ws : List ℕ) → IsWidth w → SoundItems all ws → SoundItems left ws × (AreLabels ls w ws × SoundList acts ws)

pub numbering_none : (w : ℕ) (all : List LabeledItem) (ls : List Label) (acts : List Act) → ls ≡ [] → acts ≡ [] → Numbering w all all ls acts
numbering_none w all ls acts e f = record {
  runs = λ k v r other. ap (λ (xs : List Label). by_item (first_match k v xs (values_of r)) (λ n. run_at acts n r) (choose_back k v w all r other)) e;
  items = subst (λ (xs : List Label). AreItems xs (length acts)) (sym e) tt;
  sound = λ ws h k. (k, (subst (λ (xs : List Label). AreLabels xs w ws) (sym e) tt, subst (λ (xs : List Act). SoundList xs ws) (sym f) tt));
}

run_before : (acts : List Act) (a : Act) (i : ℕ) (r : Run) → i < length acts → run_at (acts ++ (a ∷ [])) i r ≡ run_at acts i r
run_before [] a i r h = absurd (omega (arith, h))
run_before (x ∷ acts) a zero r h = refl
run_before (x ∷ acts) a (suc i) r h = run_before acts a i r (omega (arith, h))

run_last : (acts : List Act) (a : Act) (r : Run) → run_at (acts ++ (a ∷ [])) (length acts) r ≡ act.activation a r
run_last [] a r = refl
run_last (x ∷ acts) a r = run_last acts a r

acts_last : (acts : List Act) (a : Act) (ws : List ℕ) → SoundList acts ws → act.IsSound a ws → SoundList (acts ++ (a ∷ [])) ws
acts_last [] a ws h k = (k, tt)
acts_last (x ∷ acts) a ws h k = (h.0, acts_last acts a ws h.1 k)

length_last : (acts : List Act) (a : Act) → length (acts ++ (a ∷ [])) ≡ suc (length acts)
length_last [] a = refl
length_last (x ∷ acts) a = ap (λ (n : ℕ). suc n) (length_last acts a)

chosen_last : (o : Option ℕ) (b : Bool) (acts : List Act) (a : Act) (r q : Run) → ((i : ℕ) → o ≡ Some i → i < length acts)
    → by_item (item_or o b (length acts)) (λ i. run_at (acts ++ (a ∷ [])) i r) q ≡ by_item o (λ i. run_at acts i r) (either_run b (act.activation a r) q)
chosen_last (Some i) b acts a r q h = run_before acts a i r (h i refl)
chosen_last None true acts a r q h = run_last acts a r
chosen_last None false acts a r q h = refl

numbering_runs : (w : ℕ) (all left rest : List LabeledItem) (x : LabeledItem) (ls more : List Label) (acts after : List Act) → left ≡ rest ++ (x ∷ [])
    → AddsLabels w (length acts) x.labels.forms.items ls more → after ≡ acts ++ (x.statement ∷ []) → Numbering w all left ls acts
    → (k : Agreement) (v : List Digit) (r other : Run)
    → by_item (first_match k v more (values_of r)) (λ n. run_at after n r) (choose_back k v w rest r other) ≡ choose_back k v w all r other
numbering_runs w all left rest x ls more acts after e h f b k v r other =
    ap (λ (xs : List Act). by_item (first_match k v more (values_of r)) (λ n. run_at xs n r) (choose_back k v w rest r other)) f
    ∙ ap (λ (o : Option ℕ). by_item o (λ n. run_at (acts ++ (x.statement ∷ [])) n r) (choose_back k v w rest r other)) (h.matches k v (values_of r))
    ∙ chosen_last (first_match k v ls (values_of r)) (any_form_agrees k v w x.labels.forms.items (values_of r)) acts x.statement r (choose_back k v w rest r other)
    (λ i g. match_inside k v ls (values_of r) i (length acts) b.items g)
    ∙ ap (λ (q : Run). by_item (first_match k v ls (values_of r)) (λ n. run_at acts n r) q) (sym (choose_last k v w rest x r other))
    ∙ ap (λ (xs : List LabeledItem). by_item (first_match k v ls (values_of r)) (λ n. run_at acts n r) (choose_back k v w xs r other)) (sym e)
    ∙ b.runs k v r other

pub numbering_more : (w : ℕ) (all left rest : List LabeledItem) (x : LabeledItem) (ls more : List Label) (acts after : List Act) → left ≡ rest ++ (x ∷ [])
    → AddsItem w x ls acts more after → Numbering w all left ls acts → Numbering w all rest more after
numbering_more w all left rest x ls more acts after e k b =
    let h = k.labels in
    let f = k.statements in
    record {
      runs = λ l v r other. numbering_runs w all left rest x ls more acts after e h f b l v r other;
      items = subst (λ (xs : List Act). AreItems more (length xs)) (sym f) (subst (λ (i : ℕ). AreItems more i) (sym (length_last acts x.statement))
          (h.items (suc (length acts)) (omega arith) (numbers_more ls (length acts) b.items)));
      sound = λ ws p q.
          let j = b.sound ws p q in
          let l = items_split rest x ws (subst (λ (xs : List LabeledItem). SoundItems xs ws) e j.0) in
          (l.0, (h.sound ws p l.1.0 j.1.0, subst (λ (xs : List Act). SoundList xs ws) (sym f) (acts_last acts x.statement ws j.1.1 l.1.1)));
    }

pub item_added : (w n : ℕ) (x y : LabeledItem) (a : Act) (ls more : List Label) (acts after : List Act) → y ≡ x → a ≡ y.statement → n ≡ length acts
    → AddsLabels w n y.labels.forms.items ls more → after ≡ acts ++ (a ∷ []) → AddsItem w x ls acts more after
item_added w n x y a ls more acts after e f g h k = record {
  labels = subst (λ (z : LabeledItem). AddsLabels w (length acts) z.labels.forms.items ls more) e
      (subst (λ (i : ℕ). AddsLabels w i y.labels.forms.items ls more) g h);
  statements = k ∙ ap (λ (b : Act). acts ++ (b ∷ [])) (f ∙ ap (λ (z : LabeledItem). z.statement) e);
}

pub numbering_all : (w : ℕ) (all left : List LabeledItem) (ls : List Label) (acts : Acts) → left ≡ [] → Numbering w all left ls (acts_of acts)
    → AreNumbered w all ls acts
numbering_all w all left ls acts e b = record {
  runs = λ k v r other. ap (λ (xs : List LabeledItem). by_item (first_match k v ls (values_of r)) (λ n. run_at (acts_of acts) n r) (choose_back k v w xs r other)) (sym e)
      ∙ b.runs k v r other;
  items = b.items;
  sound = λ ws h k. (b.sound ws h k).1;
}

-- ---- the whole

widest_proper : (a b : ℕ) → IsWidth a → b ≤ most_digits → IsWidth (max a b)
widest_proper a b h k = (let l = h.0 in omega arith, let l = h.1 in omega (arith, k))

-- b does what a does, where a is there
pub record Stands (a : Option Act) (b : Act) : Type 0 where
  pub runs : (r : Run) → act.activation b r ≡ run_some a r
  pub sound : (ws : List ℕ) → SoundSome a ws → act.IsSound b ws

statement_runs : (kind : CaseKind) (c : Checked) (x : CaseParts) (t : Term) (ls : List Label) (all : Acts) (b a : Act)
    → IsLowered c.form (max c.width x.width) t → AreNumbered (max c.width x.width) x.items.items ls all → Stands x.other b
    → MakesCase (agreement_of kind) t ls all b a → (r : Run)
    → act.activation a r
    ≡ choose_back (agreement_of kind) (value_in c.form (max c.width x.width) (values_of r)) (max c.width x.width) x.items.items r (run_some x.other r)
statement_runs kind c x t ls all b a low numbers other made r =
    made.runs r ∙ numbers.runs (agreement_of kind) (value t (values_of r)) r (act.activation b r)
    ∙ ap (λ (ds : List Digit). choose_back (agreement_of kind) ds (max c.width x.width) x.items.items r (act.activation b r)) (low.value_is (values_of r))
    ∙ ap (λ (q : Run). choose_back (agreement_of kind) (value_in c.form (max c.width x.width) (values_of r)) (max c.width x.width) x.items.items r q) (other.runs r)

pub statement_made : (kind : CaseKind) (c : Checked) (x : CaseParts) (t : Term) (ls : List Label) (all : Acts) (b a : Act)
    → IsLowered c.form (max c.width x.width) t → AreNumbered (max c.width x.width) x.items.items ls all → Stands x.other b
    → MakesCase (agreement_of kind) t ls all b a → MakesCaseStatement kind c x a
statement_made kind c x t ls all b a low numbers other made = record {
  runs = λ r. statement_runs kind c x t ls all b a low numbers other made r;
  sound = λ ws h.
      let w = widest_proper c.width x.width h.value_width h.width in
      let k = numbers.sound ws w h.items in
      made.sound ws (low.sound ws (h.value, w), subst (λ (n : ℕ). AreLabels ls n ws) (sym low.width_is) k.0, numbers.items, k.1, other.sound ws h.other);
}

pub stands_or : (o : Option Act) → Stands o (unwrap_or o Empty)
stands_or (Some a) = record { runs = λ r. refl; sound = λ ws h. h }
stands_or None = record { runs = λ r. refl; sound = λ ws h. tt }

pub statement_result : {E : Type 0} (kind : CaseKind) (c : Checked) (x : CaseParts) (k : Agreement) (w : ℕ) (t : Term) (ls : List Label) (all : Acts) (b : Act)
    (r : Result Act E) → k ≡ agreement_of kind → w ≡ max c.width x.width → IsLowered c.form w t → AreNumbered w x.items.items ls all
    → b ≡ unwrap_or x.other Empty → IfOk r (MakesCase k t ls all b) → IfOk r (MakesCaseStatement kind c x)
statement_result kind c x k w t ls all b (Ok a) d e low numbers f made =
    statement_made kind c x t ls all b a (subst (λ (n : ℕ). IsLowered c.form n t) e low) (subst (λ (n : ℕ). AreNumbered n x.items.items ls all) e numbers)
    (subst (λ (q : Act). Stands x.other q) (sym f) (stands_or x.other)) (subst (λ (q : Agreement). MakesCase q t ls all b a) d made)
statement_result kind c x k w t ls all b (Err e) d g low numbers f made = tt

case_runs : (timing : Timing) (s : Scope) (kind : CaseKind) (e : Tree) (cs : CaseTrees) (v : Checked) (x : CaseParts) → StandsFor s e v → DoAsCases timing s cs x → (r : Run)
    → choose_back (agreement_of kind) (value_in v.form (max v.width x.width) (values_of r)) (max v.width x.width) x.items.items r (run_some x.other r)
    ≡ chosen timing (agreement_of kind) (meaning s e (max (width s e) (case_width s cs)) (values_of r)) (max (width s e) (case_width s cs)) s cs r (default_run timing s cs r)
case_runs timing s kind e cs v x h k r =
    k.runs (agreement_of kind) (value_in v.form (max v.width x.width) (values_of r)) (max v.width x.width) r (run_some x.other r)
    ∙ ap (λ (ds : List Digit). chosen timing (agreement_of kind) ds (max v.width x.width) s cs r (run_some x.other r)) (h.means (max v.width x.width) (values_of r))
    ∙ ap (λ (q : Run). chosen timing (agreement_of kind) (meaning s e (max v.width x.width) (values_of r)) (max v.width x.width) s cs r q) (k.otherwise r)
    ∙ ap (λ (n : ℕ). chosen timing (agreement_of kind) (meaning s e (max n x.width) (values_of r)) (max n x.width) s cs r (default_run timing s cs r)) (sym h.own)
    ∙ ap (λ (n : ℕ). chosen timing (agreement_of kind) (meaning s e (max (width s e) n) (values_of r)) (max (width s e) n) s cs r (default_run timing s cs r)) (sym k.width)

case_does : (timing : Timing) (s : Scope) (kind : CaseKind) (e : Tree) (cs : CaseTrees) (v : Checked) (x : CaseParts) (a : Act) → MakesCaseStatement kind v x a
    → StandsFor s e v → DoAsCases timing s cs x → DoesAs timing s (Case kind e cs) a
case_does timing s kind e cs v x a made h k = record {
  runs = λ r. made.runs r ∙ case_runs timing s kind e cs v x h k r;
  sound = λ ws names.
      let p = k.sound ws names.1 in
      made.sound ws (record { value = h.sound ws names.0; value_width = h.proper; width = k.proper; items = p.0; other = p.1 });
}

case_is : (kind : CaseKind) (x : Found Checked) (y : Found CaseParts) (f : Found Act) → AreCaseStatements kind (both x y) f → ChecksCase kind x y f
case_is kind x y f made = λ timing s e cs b h k. record {
  finds = done_made (λ (p : Checked × CaseParts) (a : Act). MakesCaseStatement kind p.0 p.1 a) (both x y) f made
      ∙ two_done x y (checked s e) b (done_as (λ (c : Checked). c.width) counted_width x (checked s e) h.finds) (k.finds ∙ sym (done_unit b));
  holds = made_holds (λ (p : Checked × CaseParts) (a : Act). MakesCaseStatement kind p.0 p.1 a)
      (λ (p : Checked × CaseParts). StandsFor s e p.0 × DoAsCases timing s cs p.1) (λ (a : Act). DoesAs timing s (Case kind e cs) a) (both x y) f made
      (holds_both (λ (c : Checked). StandsFor s e c) (λ (z : CaseParts). DoAsCases timing s cs z) x y h.holds k.holds)
      (λ p a q st. case_does timing s kind e cs p.0 p.1 a q st.0 st.1);
}

pub case_result : {E : Type 0} (kind : CaseKind) (x : Found Checked) (y : Found CaseParts) (r : Result (Found Act) E)
    → IfOk r (AreCaseStatements kind (both x y)) → IfOk r (ChecksCase kind x y)
case_result kind x y (Ok f) made = case_is kind x y f made
case_result kind x y (Err e) made = tt
