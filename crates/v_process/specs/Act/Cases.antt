-- A means of proof: what it means that the items of a case statement were checked (IEEE 1364-2005, clause 9.5), and what is found in the
-- whole, for the proofs of elaboration.
use Rattle.std.specs.Prelude.{◌≡◌, ℕ, ◌≤◌, List, [], ◌∷◌, Option, None, Some, Bool, false, ◌||◌}
use Rattle.four_value.specs.declared.Digit.{Digit}
use Rattle.four_value.specs.Limits.{most_digits}
use Rattle.gpi.specs.declared.acts.Act.{Act}
use Rattle.gpi.specs.declared.acts.CaseKind.{CaseKind as Agreement}
use Rattle.gpi.specs.Cases.{all_agree}
use Rattle.gpi.specs.Activation.{Run}
use Rattle.gpi.specs.Activation as act
use Rattle.v_syntax.specs.declared.statement.CaseKind.{CaseKind}
use Rattle.v_syntax.specs.ExpressionTrees.{Tree}
use Rattle.v_syntax.specs.StatementTrees.{StatementTree, Case, CaseTree, Match, Default, CaseTrees, no_case, more_cases}
use Rattle.v_flat.specs.declared.scope.found.Found.{Found}
use Rattle.v_flat.specs.Scope.Found.{fine, both, Holds}
use Rattle.v_flat.specs.Scope.Scope.{Scope}
use Rattle.v_check.specs.declared.contextual.contextual.Contextual.{Contextual}
use Rattle.v_check.specs.Contextual.Contexts.{value_in}
use Rattle.v_check.specs.Contextual.Contexts as context
use Rattle.v_flat.specs.Expressions.{Values}
use Rattle.v_flat.specs.Checks.{checked}
use Rattle.v_flat.specs.declared.timing.Timing.{Timing}
use Rattle.v_flat.specs.Statements.{done, labels_checked, any_agrees, widest, case_width, values_of, either_run, chosen, default_run}
use Rattle.v_check.specs.declared.constants.checked.Checked.{Checked}
use Rattle.v_check.specs.Constants.Checked.{IsChecked}
use Rattle.v_process.specs.declared.act.cases.CaseLabels.{CaseLabels}
use Rattle.v_process.specs.declared.act.cases.LabeledItem.{LabeledItem}
use Rattle.v_process.specs.declared.act.cases.CaseParts.{CaseParts}
use Rattle.v_process.specs.Act.Statements.{LabelsNamesOf, CasesNamesOf, IsStatement}

-- ---- labels

-- one of them agrees with the value v in a context of w digits
abbrev pub any_form_agrees : Agreement → List Digit → ℕ → List Contextual → Values → Bool
any_form_agrees k v w [] m = false
any_form_agrees k v w (c ∷ cs) m = all_agree k v (value_in c w m) || any_form_agrees k v w cs m

abbrev pub SoundForms : List Contextual → List ℕ → Type 0
SoundForms [] ws = Unit {0}
SoundForms (c ∷ cs) ws = context.IsSound c ws × SoundForms cs ws

-- the greatest width of the labels; in each context one of them agrees where one of these expressions does; and they are sound wherever
-- the names are signals of the design
pub record DoAsLabels (s : Scope) (es : List Tree) (x : CaseLabels) : Type 0 where
  pub width : widest s es ≡ x.width
  pub proper : x.width ≤ most_digits
  pub agree : (k : Agreement) (v : List Digit) (w : ℕ) (m : Values) → any_form_agrees k v w x.forms.items m ≡ any_agrees k v w s es m
  pub sound : (ws : List ℕ) → LabelsNamesOf s es ws → SoundForms x.forms.items ws

-- the same rule is broken first as in the definition; and where none is, they do what the labels do
pub record AreLabels (s : Scope) (es : List Tree) (f : Found CaseLabels) : Type 0 where
  pub finds : done f ≡ labels_checked s es
  pub holds : Holds (λ (x : CaseLabels). DoAsLabels s es x) f

-- ---- items

-- what the first item with a label that agrees does, else other; the first one is the last of the list
abbrev pub choose_back : Agreement → List Digit → ℕ → List LabeledItem → Run → Run → Run
choose_back k v w [] r other = other
choose_back k v w (x ∷ xs) r other =
    choose_back k v w xs r (either_run (any_form_agrees k v w x.labels.forms.items (values_of r)) (act.activation x.statement r) other)

abbrev pub SoundItems : List LabeledItem → List ℕ → Type 0
SoundItems [] ws = Unit {0}
SoundItems (x ∷ xs) ws = (SoundForms x.labels.forms.items ws × act.IsSound x.statement ws) × SoundItems xs ws

-- a statement that may be missing
abbrev pub run_some : Option Act → Run → Run
run_some (Some a) r = act.activation a r
run_some None r = r

abbrev pub SoundSome : Option Act → List ℕ → Type 0
SoundSome (Some a) ws = act.IsSound a ws
SoundSome None ws = Unit {0}

-- the greatest width of the labels; the same item runs for each value in each context, and the same default; and all is sound wherever
-- the names are signals of the design
pub record DoAsCases (timing : Timing) (s : Scope) (cs : CaseTrees) (x : CaseParts) : Type 0 where
  pub width : case_width s cs ≡ x.width
  pub proper : x.width ≤ most_digits
  pub runs : (k : Agreement) (v : List Digit) (w : ℕ) (r other : Run) → choose_back k v w x.items.items r other ≡ chosen timing k v w s cs r other
  pub otherwise : (r : Run) → run_some x.other r ≡ default_run timing s cs r
  pub sound : (ws : List ℕ) → CasesNamesOf s cs ws → SoundItems x.items.items ws × SoundSome x.other ws

-- the same rule is broken first as in what the definition finds, which is b; and where none is, they do what the items do
pub record AreCases (timing : Timing) (s : Scope) (cs : CaseTrees) (b : Found (Unit {0})) (f : Found CaseParts) : Type 0 where
  pub finds : done f ≡ b
  pub holds : Holds (λ (x : CaseParts). DoAsCases timing s cs x) f

-- ---- what is found in the whole, from what was found in the parts

abbrev pub ChecksNoLabel : Found CaseLabels → Type 0
ChecksNoLabel f = (s : Scope) → AreLabels s [] f

abbrev pub ChecksMoreLabels : Found Checked → Found CaseLabels → Found CaseLabels → Type 0
ChecksMoreLabels x y f = (s : Scope) (e : Tree) (es : List Tree) → IsChecked s e x → AreLabels s es y → AreLabels s (e ∷ es) f

abbrev pub ChecksNoCase : Found CaseParts → Type 0
ChecksNoCase f = (timing : Timing) (s : Scope) → AreCases timing s no_case fine f

abbrev pub ChecksItem : Found CaseLabels → Found Act → Found CaseParts → Found CaseParts → Type 0
ChecksItem x y z f =
    (timing : Timing) (s : Scope) (es : List Tree) (a : StatementTree) (cs : CaseTrees) (b c : Found (Unit {0})) → AreLabels s es x → IsStatement timing s a b y
    → AreCases timing s cs c z → AreCases timing s (more_cases (Match es a) cs) (done (both (done (both (labels_checked s es) b)) c)) f

abbrev pub ChecksDefault : Found Act → Found CaseParts → Found CaseParts → Type 0
ChecksDefault y z f =
    (timing : Timing) (s : Scope) (a : StatementTree) (cs : CaseTrees) (b c : Found (Unit {0})) → IsStatement timing s a b y → AreCases timing s cs c z
    → AreCases timing s (more_cases (Default a) cs) (done (both b c)) f

abbrev pub ChecksCase : CaseKind → Found Checked → Found CaseParts → Found Act → Type 0
ChecksCase kind x y f =
    (timing : Timing) (s : Scope) (e : Tree) (cs : CaseTrees) (b : Found (Unit {0})) → IsChecked s e x → AreCases timing s cs b y
    → IsStatement timing s (Case kind e cs) (done (both (checked s e) b)) f
