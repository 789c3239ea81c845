-- A means of proof: what is made of the parts of a case statement.
use Rattle.std.specs.Prelude.{◌≡◌, ℕ, ◌<◌, ◌≤◌, max, List, [], ◌∷◌, ◌++◌, length, Option, None, Some, Bool, true, false}
use Rattle.four_value.specs.declared.Digit.{Digit}
use Rattle.four_value.specs.Limits.{most_digits}
use Rattle.gpi.specs.declared.acts.Act.{Act}
use Rattle.gpi.specs.declared.acts.Acts.{Acts}
use Rattle.gpi.specs.declared.acts.Label.{Label}
use Rattle.gpi.specs.declared.acts.CaseKind.{CaseKind as Agreement}
use Rattle.gpi.specs.Terms.{IsWidth}
use Rattle.gpi.specs.Cases.{first_match, AreItems}
use Rattle.gpi.specs.Cases as gpi_cases
use Rattle.gpi.specs.Activation.{Run, MakesAct, SoundList, acts_of, by_item, run_at}
use Rattle.v_syntax.specs.declared.statement.CaseKind.{CaseKind}
use Rattle.v_flat.specs.declared.scope.found.Found.{Found}
use Rattle.v_flat.specs.Scope.Found.{EachIs}
use Rattle.v_check.specs.declared.contextual.contextual.Contextual.{Contextual}
use Rattle.v_check.specs.Contextual.Contexts.{value_in, IsSound}
use Rattle.v_flat.specs.Expressions.{Values}
use Rattle.v_flat.specs.Statements.{agreement_of, values_of}
use Rattle.v_check.specs.declared.constants.checked.Checked.{Checked}
use Rattle.v_process.specs.declared.act.cases.CaseLabels.{CaseLabels}
use Rattle.v_process.specs.declared.act.cases.LabeledItem.{LabeledItem}
use Rattle.v_process.specs.declared.act.cases.CaseParts.{CaseParts}
use Rattle.v_process.specs.Act.Cases.{any_form_agrees, SoundForms, choose_back, SoundItems, run_some, SoundSome}

-- y is x with the label c before it
pub record HasLabel (c : Checked) (x y : CaseLabels) : Type 0 where
  pub width : y.width ≡ max c.width x.width
  pub forms : y.forms.items ≡ x.forms.items ++ (c.form ∷ [])

abbrev pub AreMoreLabels : Found (Checked × CaseLabels) → Found CaseLabels → Type 0
AreMoreLabels x f = EachIs (λ (p : Checked × CaseLabels) (y : CaseLabels). HasLabel p.0 p.1 y) x f

-- y is x with an item before it
pub record HasItem (l : CaseLabels) (a : Act) (x y : CaseParts) : Type 0 where
  pub width : y.width ≡ max l.width x.width
  pub items : y.items.items ≡ x.items.items ++ ((record { labels = l; statement = a }) ∷ [])
  pub other : y.other ≡ x.other

abbrev pub AreMoreItems : Found ((CaseLabels × Act) × CaseParts) → Found CaseParts → Type 0
AreMoreItems x f = EachIs (λ (p : (CaseLabels × Act) × CaseParts) (y : CaseParts). HasItem p.0.0 p.0.1 p.1 y) x f

-- y is x with a default before it
pub record HasDefault (a : Act) (x y : CaseParts) : Type 0 where
  pub width : y.width ≡ x.width
  pub items : y.items.items ≡ x.items.items
  pub other : y.other ≡ Some a

abbrev pub AreMoreDefaults : Found (Act × CaseParts) → Found CaseParts → Type 0
AreMoreDefaults x f = EachIs (λ (p : Act × CaseParts) (y : CaseParts). HasDefault p.0 p.1 y) x f

-- the item that was matched before, or else the item n where one of its labels agrees
abbrev pub item_or : Option ℕ → Bool → ℕ → Option ℕ
item_or (Some i) b n = Some i
item_or None true n = Some n
item_or None false n = None

-- new are the labels of old and behind them those of the item n, in a context of w digits
pub record AddsLabels (w n : ℕ) (cs : List Contextual) (old new : List Label) : Type 0 where
  pub matches : (k : Agreement) (v : List Digit) (m : Values)
      → first_match k v new m ≡ item_or (first_match k v old m) (any_form_agrees k v w cs m) n
  pub items : (c : ℕ) → n < c → AreItems old c → AreItems new c
  pub sound : (ws : List ℕ) → IsWidth w → SoundForms cs ws → gpi_cases.AreLabels old w ws → gpi_cases.AreLabels new w ws

-- more are the labels ls and behind them those of the item x, with its number, in a context of w digits; and after are the statements
-- before and behind them its own
pub record AddsItem (w : ℕ) (x : LabeledItem) (ls : List Label) (before : List Act) (more : List Label) (after : List Act) : Type 0 where
  pub labels : AddsLabels w (length before) x.labels.forms.items ls more
  pub statements : after ≡ before ++ (x.statement ∷ [])

-- the labels of the items, the first one first, in a context of w digits, and the items' statements by number
pub record AreNumbered (w : ℕ) (xs : List LabeledItem) (ls : List Label) (all : Acts) : Type 0 where
  pub runs : (k : Agreement) (v : List Digit) (r other : Run) →
      by_item (first_match k v ls (values_of r)) (λ n. run_at (acts_of all) n r) other ≡ choose_back k v w xs r other
  pub items : AreItems ls (length (acts_of all))
  pub sound : (ws : List ℕ) → IsWidth w → SoundItems xs ws → gpi_cases.AreLabels ls w ws × SoundList (acts_of all) ws

-- all parts are sound, and have widths
pub record FitTogether (v : Checked) (x : CaseParts) (ws : List ℕ) : Type 0 where
  pub value : IsSound v.form ws
  pub value_width : IsWidth v.width
  pub width : x.width ≤ most_digits
  pub items : SoundItems x.items.items ws
  pub other : SoundSome x.other ws

-- at the greatest width
abbrev pub run_case : CaseKind → Checked → CaseParts → Run → Run
run_case kind v x r =
    choose_back (agreement_of kind) (value_in v.form (max v.width x.width) (values_of r)) (max v.width x.width) x.items.items r (run_some x.other r)

abbrev pub MakesCaseStatement : CaseKind → Checked → CaseParts → Act → Type 0
MakesCaseStatement kind v x a = MakesAct a (run_case kind v x) (FitTogether v x)

abbrev pub AreCaseStatements : CaseKind → Found (Checked × CaseParts) → Found Act → Type 0
AreCaseStatements kind x f = EachIs (λ (p : Checked × CaseParts) (a : Act). MakesCaseStatement kind p.0 p.1 a) x f
