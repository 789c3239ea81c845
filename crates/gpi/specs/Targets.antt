-- The updates of an assignment (IEEE 1364-2005, clauses 6 and 9.2).
use Rattle.std.specs.Prelude.{◌≡◌, ℕ, ◌+◌, ◌<◌, ◌≤◌, List, [], ◌∷◌, ◌++◌, length, Option, Some, None, slice_index}
use Rattle.four_value.specs.declared.Digit.{Digit}
use Rattle.four_value.specs.Limits.{most_digits}
use Rattle.four_value.specs.Vector.{slice, number}
use Rattle.gpi.specs.declared.types.Update.{Update}
use Rattle.gpi.specs.declared.selects.Overlap.{Overlap}
use Rattle.gpi.specs.declared.targets.Object.{Object}
use Rattle.gpi.specs.declared.targets.Object.TheVariants.{Signal, Word}
use Rattle.gpi.specs.declared.targets.Target.{Target}
use Rattle.gpi.specs.declared.targets.Target.TheVariants.{Whole, Select, Join'}
use Rattle.gpi.specs.Selects.{word_at, overlap_of}
use Rattle.gpi.specs.Terms as term
use Rattle.gpi.specs.Terms.{value, AreWords, IsWidth}

-- the signal that is meant; none where the index of a word is unknown or outside
abbrev pub object_at : Object → (ℕ → List Digit) → Option ℕ
object_at (Signal s w) m = Some s.0
object_at (Word words i w) m = word_at words (number (value i m))

abbrev pub object_width : Object → ℕ
object_width (Signal s w) = w
object_width (Word words i w) = w

-- all digits of an object
abbrev pub whole_update : Option ℕ → List Digit → List Update
whole_update (Some s) ds = record { sig = record { 0 = s }; low = 0; bits = ds; delay = 0 } ∷ []
whole_update None ds = []

-- those digits of a select that lie inside; none where no one does
abbrev pub part_update : Option ℕ → Option Overlap → List Digit → List Update
part_update (Some s) (Some o) ds = record { sig = record { 0 = s }; low = o.place; bits = slice ds o.skip o.count; delay = 0 } ∷ []
part_update (Some s) None ds = []
part_update None o ds = []

abbrev pub target_width : Target → ℕ
target_width (Whole o) = object_width o
target_width (Select o range i w) = w
target_width (Join' p a q b) = target_width a + target_width b

-- the updates that give the target these digits, from left to right; the leftmost part gets the highest digits, and all
-- indices are those on one map
abbrev pub updates_of : Target → (ℕ → List Digit) → List Digit → List Update
updates_of (Whole o) m ds = whole_update (object_at o m) ds
updates_of (Select o range i w) m ds = part_update (object_at o m) (overlap_of range (object_width o) (number (value i m)) w) ds
updates_of (Join' p a q b) m ds =
    updates_of a m (slice ds (target_width b) (target_width a)) ++ updates_of b m (slice ds 0 (target_width b))

-- the object has its width; ws are the widths of the signals
abbrev pub IsSoundObject : Object → List ℕ → Type 0
IsSoundObject (Signal s w) ws = (s.0 < length ws) × (slice_index ws s.0 ≡ w) × IsWidth w
IsSoundObject (Word words i w) ws = term.IsSound i ws × AreWords words w ws

abbrev pub IsSoundTarget : Target → List ℕ → Type 0
IsSoundTarget (Whole o) ws = IsSoundObject o ws
IsSoundTarget (Select o range i w) ws = IsSoundObject o ws × term.IsSound i ws × IsWidth w
IsSoundTarget (Join' p a q b) ws = IsSoundTarget a ws × IsSoundTarget b ws × (target_width a + target_width b ≤ most_digits)

-- the update lies in its signal; ws are the widths of the signals
abbrev pub IsFitting : Update → List ℕ → Type 0
IsFitting u ws = (u.sig.0 < length ws) × (u.low + length u.bits ≤ slice_index ws u.sig.0)

abbrev pub AreFitting : List Update → List ℕ → Type 0
AreFitting [] ws = Unit {0}
AreFitting (u ∷ us) ws = IsFitting u ws × AreFitting us ws

-- b means the same object as a
pub record IsObjectCopy (a b : Object) : Type 0 where
  pub at : (m : ℕ → List Digit) → object_at b m ≡ object_at a m
  pub width : object_width b ≡ object_width a
  pub sound : (ws : List ℕ) → IsSoundObject a ws → IsSoundObject b ws

-- t has these updates, this width and soundness
pub record MakesTarget (t : Target) (updates : (ℕ → List Digit) → List Digit → List Update) (w : ℕ)
    (Sound : List ℕ → Type 0) : Type 0 where
  pub updates_are : (m : ℕ → List Digit) (ds : List Digit) → updates_of t m ds ≡ updates m ds
  pub width_is : target_width t ≡ w
  pub sound : (ws : List ℕ) → Sound ws → IsSoundTarget t ws

abbrev pub MakesJoin : Target → Target → Target → Type 0
MakesJoin a b t = MakesTarget t
    (λ m ds. updates_of a m (slice ds (target_width b) (target_width a)) ++ updates_of b m (slice ds 0 (target_width b)))
    (target_width a + target_width b)
    (λ ws. IsSoundTarget a ws × IsSoundTarget b ws × (target_width a + target_width b ≤ most_digits))

-- b means the same as a
abbrev pub IsTargetCopy : Target → Target → Type 0
IsTargetCopy a b = MakesTarget b (updates_of a) (target_width a) (IsSoundTarget a)
