-- A means of proof: the digits of a net that a target drives, whose indices are constants (IEEE 1364-2005, clause 6.1), for the proofs of
-- elaboration.
use Rattle.std.specs.Prelude.{◌≡◌, ℕ, ◌≤◌, [], Option, Some}
use Rattle.four_value.specs.Limits.{most_digits}
use Rattle.four_value.specs.Vector.{number}
use Rattle.gpi.specs.declared.selects.Range.{Range}
use Rattle.gpi.specs.declared.targets.Object.{Object}
use Rattle.gpi.specs.declared.targets.Object.TheVariants.{Signal, Word}
use Rattle.gpi.specs.declared.targets.Target.{Target}
use Rattle.gpi.specs.declared.targets.Target.TheVariants.{Whole, Select, Join'}
use Rattle.gpi.specs.Selects.{overlap_of}
use Rattle.gpi.specs.Targets.{object_width}
use Rattle.gpi.specs.Terms.{value, IsSound}
use Rattle.v_syntax.specs.ExpressionTrees.{SelectsTree}
use Rattle.v_flat.specs.declared.scope.meaning.DataObject.{DataObject}
use Rattle.v_flat.specs.declared.scope.meaning.Meaning.{Meaning}
use Rattle.v_flat.specs.declared.scope.meaning.Meaning.TheVariants as meant
use Rattle.v_flat.specs.Scope.Scope.{Scope}
use Rattle.v_flat.specs.Objects.{range_of}
use Rattle.v_flat.specs.Expressions.{no_signals}
use Rattle.v_flat.specs.Targets.{Drive, inside_drive, selected_drive}

abbrev pub no_digits : DataObject → Drive
no_digits o = record { signal = o.first; low = 0; count = 0 }

abbrev pub whole_digits : DataObject → Object → Drive
whole_digits o (Signal s w) = record { signal = o.first; low = 0; count = w }
whole_digits o (Word words i w) = inside_drive o.first (overlap_of (range_of o.bounds) w (number (value i no_signals)) 1)

abbrev pub select_digits : DataObject → Object → Range → Option ℕ → ℕ → Drive
select_digits o (Signal s w) range base n = inside_drive o.first (overlap_of range w base n)
select_digits o (Word words i w) range base n = no_digits o

-- o is what the name means; nets have no words, so that a part of one is no digit of a net, and braces have the digits of their parts
abbrev pub digits_of : DataObject → Target → Drive
digits_of o (Whole x) = whole_digits o x
digits_of o (Select x range i n) = select_digits o x range (number (value i no_signals)) n
digits_of o (Join' p a q b) = no_digits o

-- the index of a whole word names no signal, and no width is more than a vector's
abbrev pub IsFixedObject : Object → Type 0
IsFixedObject (Signal s w) = w ≤ most_digits
IsFixedObject (Word words i w) = IsSound i [] × (w ≤ most_digits)

-- nor does that of a select; the target is no braces
abbrev pub IsFixedTarget : Target → Type 0
IsFixedTarget (Whole x) = IsFixedObject x
IsFixedTarget (Select x range i n) = IsSound i [] × (object_width x ≤ most_digits) × (n ≤ most_digits)
IsFixedTarget (Join' p a q b) = ⊥

-- the digits are those that the selects choose
abbrev pub DrivesAs : Scope → SelectsTree → Option Meaning → Target → Type 0
DrivesAs s sel (Some (meant.Object o)) t = digits_of o t ≡ selected_drive s o sel
DrivesAs s sel _ t = Unit {0}
