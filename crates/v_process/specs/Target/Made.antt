-- A means of proof: what is made of selects, by what they select from.
use Rattle.std.specs.Prelude.{◌≡◌, ℕ, Option, None, Some}
use Rattle.gpi.specs.declared.selects.Range.{Range}
use Rattle.gpi.specs.declared.selects.Words.{Words}
use Rattle.gpi.specs.declared.terms.Term.{Term}
use Rattle.gpi.specs.declared.targets.Object.{Object}
use Rattle.gpi.specs.declared.targets.Object.TheVariants.{Signal, Word}
use Rattle.gpi.specs.declared.targets.Target.TheVariants as target
use Rattle.gpi.specs.Targets.{object_width}
use Rattle.v_flat.specs.declared.scope.rule.ElabRule.TheVariants as rule
use Rattle.v_flat.specs.declared.scope.found.Found.{Found}
use Rattle.v_flat.specs.declared.scope.found.Found.TheVariants.{Sound}
use Rattle.v_flat.specs.Scope.Found.{each, followed, broken}
use Rattle.v_flat.specs.declared.scope.meaning.Bounds.{Bounds}
use Rattle.v_flat.specs.declared.scope.meaning.DataObject.{DataObject}
use Rattle.v_flat.specs.Scope.Scope.{width_of}
use Rattle.v_flat.specs.Objects.{range_of, words_of}
use Rattle.v_check.specs.declared.names.choice.Choice.{Choice}
use Rattle.v_check.specs.declared.names.selects.CheckedSelect.{CheckedSelect}
use Rattle.v_check.specs.declared.names.selects.CheckedSelect.TheVariants as code
use Rattle.v_check.specs.declared.names.selects.CheckedSelects.{CheckedSelects}
use Rattle.v_check.specs.declared.names.selects.CheckedSelects.TheVariants as code_selects
use Rattle.v_check.specs.Names.Selects.{ChecksChoice, place_of, twice_at}
use Rattle.v_process.specs.declared.target.checked.CheckedTarget.{CheckedTarget}

abbrev pub whole_target : Object → CheckedTarget
whole_target o = record { width = object_width o; target = target.Whole o }

abbrev pub part_target : Object → Range → Choice → CheckedTarget
part_target o r x = record { width = x.width; target = target.Select o r x.index x.width }

-- ---- p is the place of the name, and b the range that is selected from

-- what is made of a choice that is what the select chooses
abbrev pub OfChoice : ℕ → Bounds → CheckedSelect → (Found Choice → Found CheckedTarget) → Found CheckedTarget → Type 0
OfChoice p b x make f = (y : Found Choice) × (ChecksChoice p b x y × (f ≡ make y))

abbrev pub VectorMade : ℕ → Object → Bounds → CheckedSelects → Found CheckedTarget → Type 0
VectorMade p o b code_selects.Whole f = f ≡ Sound (whole_target o)
VectorMade p o b (code_selects.One x) f = OfChoice p b x (λ (y : Found Choice). each (λ (z : Choice). part_target o (range_of b) z) y) f
VectorMade p o b (code_selects.OfWord i x) f = f ≡ twice_at i (place_of x)

-- w is the width of a word
abbrev pub word_target : Words → ℕ → CheckedSelect → Found CheckedTarget
word_target words w (code.Bit q i) = each (λ (t : Term). whole_target (Word words t w)) i
word_target words w (code.Part q x y) = broken rule.BadRange q
word_target words w (code.IndexedPart q x y) = broken rule.BadRange q

-- digits of a word
abbrev pub word_part_target : Words → ℕ → Bounds → Term × Choice → CheckedTarget
word_part_target words w b y = part_target (Word words y.0 w) (range_of b) y.1

abbrev pub MemoryMade : ℕ → Words → ℕ → Bounds → CheckedSelects → Found CheckedTarget → Type 0
MemoryMade p words w b code_selects.Whole f = f ≡ broken rule.BadRange p
MemoryMade p words w b (code_selects.One x) f = f ≡ word_target words w x
MemoryMade p words w b (code_selects.OfWord i x) f =
    OfChoice p b x (λ (y : Found Choice). each (λ (z : Term × Choice). word_part_target words w b z) (followed i y)) f

abbrev pub ObjectMade : ℕ → DataObject → Option Bounds → CheckedSelects → Found CheckedTarget → Type 0
ObjectMade p o None x f = VectorMade p (Signal (record { 0 = o.first }) (width_of o.bounds)) o.bounds x f
ObjectMade p o (Some r) x f = MemoryMade p (words_of o.first r) (width_of o.bounds) o.bounds x f
