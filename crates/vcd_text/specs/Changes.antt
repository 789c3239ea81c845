-- The changes of a run that a VCD text tells.
use Rattle.std.specs.Prelude.{◌≡◌, ℕ, ◌<◌, ◌^◌, ◌&&◌, nat_le, Bool, true, false, IsTrue, List, [], ◌∷◌, length, Some, slice_get}
use Rattle.std.specs.List.{AllByRecursion, list_all}
use Rattle.gpi.specs.declared.design.Signal.{Signal}
use Rattle.gpi.specs.declared.design.Flat.{Flat}
use Rattle.vcd_text.specs.Spelling.{is_digit}
use Rattle.vcd_text.specs.Hierarchy.{is_word}

-- a signal has these digits, which are written the highest first, from this time on, which is in steps
pub record ValueChange : Type 0 where
  pub time : ℕ
  pub signal : ℕ
  pub digits : List ℕ

-- a change of a signal of the design, which is no word of a memory, with digits of the signal's width
pub record IsChangeOf (flat : Flat) (change : ValueChange) : Type 0 where
  pub time : change.time < 2 ^ 64
  pub signal : Signal
  pub there : slice_get flat.signals change.signal ≡ Some signal
  pub traced : is_word flat.nodes change.signal ≡ false
  pub width : length change.digits ≡ signal.width
  pub digits : IsTrue (list_all is_digit change.digits)

-- no change has a time before this one, or before that of a change in front of it
abbrev pub times_rise : ℕ → List ValueChange → Bool
times_rise least [] = true
times_rise least (change ∷ changes) = nat_le least change.time && times_rise change.time changes

-- changes of a run: each is one of a signal, and their times don't fall. One may repeat the value that its signal has.
pub record AreChangesOf (flat : Flat) (changes : List ValueChange) : Type 0 where
  pub each : AllByRecursion (IsChangeOf flat) changes
  pub times : IsTrue (times_rise 0 changes)
