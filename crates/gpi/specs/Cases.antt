-- Which item of a case statement is taken (IEEE 1364-2005, clause 9.5).
use Rattle.std.specs.Prelude.{◌≡◌, ℕ, ◌<◌, ◌&&◌, Bool, true, List, [], ◌∷◌, Option, Some, None, if◌then◌else◌}
use Rattle.four_value.specs.declared.Digit.{Digit}
use Rattle.four_value.specs.declared.Digit.TheVariants.{X, Z}
use Rattle.four_value.specs.Vector.{same_digit}
use Rattle.gpi.specs.declared.acts.CaseKind.{CaseKind}
use Rattle.gpi.specs.declared.acts.CaseKind.TheVariants.{Exact, AnyZ, AnyXz}
use Rattle.gpi.specs.declared.acts.Label.{Label}
use Rattle.gpi.specs.Terms.{value, width, IsSound}
use Rattle.gpi.specs.Made.{IsCopy}

-- in casez a z on either side agrees with any digit
abbrev pub z_agrees : Digit → Digit → Bool
z_agrees Z _ = true
z_agrees _ Z = true
z_agrees x y = same_digit x y

-- in casex x does too
abbrev pub xz_agrees : Digit → Digit → Bool
xz_agrees Z _ = true
xz_agrees X _ = true
xz_agrees _ Z = true
xz_agrees _ X = true
xz_agrees x y = same_digit x y

abbrev pub digits_agree : CaseKind → Digit → Digit → Bool
digits_agree Exact x y = same_digit x y
digits_agree AnyZ x y = z_agrees x y
digits_agree AnyXz x y = xz_agrees x y

-- digit by digit
abbrev pub all_agree : CaseKind → List Digit → List Digit → Bool
all_agree kind [] ys = true
all_agree kind (x ∷ xs) [] = true
all_agree kind (x ∷ xs) (y ∷ ys) = digits_agree kind x y && all_agree kind xs ys

-- the item of the first label that agrees; none where no label does
abbrev pub first_match : CaseKind → List Digit → List Label → (ℕ → List Digit) → Option ℕ
first_match kind xs [] m = None
first_match kind xs (l ∷ ls) m = if all_agree kind xs (value l.value m) then Some l.item else first_match kind xs ls m

-- each label has this width; ws are the widths of the signals
abbrev pub AreLabels : List Label → ℕ → List ℕ → Type 0
AreLabels [] w ws = Unit {0}
AreLabels (l ∷ ls) w ws = IsSound l.value ws × (width l.value ≡ w) × AreLabels ls w ws

-- the item of each label is one of so many
abbrev pub AreItems : List Label → ℕ → Type 0
AreItems [] n = Unit {0}
AreItems (l ∷ ls) n = (l.item < n) × AreItems ls n

-- the label means the same
pub record IsLabelCopy (a b : Label) : Type 0 where
  pub value : IsCopy a.value b.value
  pub item : b.item ≡ a.item

-- the labels mean the same, one by one
abbrev pub AreLabelCopies : List Label → List Label → Type 0
AreLabelCopies [] [] = Unit {0}
AreLabelCopies (k ∷ ks) (l ∷ ls) = IsLabelCopy k l × AreLabelCopies ks ls
AreLabelCopies [] (l ∷ ls) = ⊥
AreLabelCopies (k ∷ ks) [] = ⊥
