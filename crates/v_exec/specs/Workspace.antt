-- A means of proof: what running needs, and what it tells of the signals that were written.
use Rattle.std.specs.Prelude.{◌≡◌, ℕ, ◌<◌, ◌≤◌, Bool, false, true, List, [], ◌∷◌, length, map, slice_get, Some, vec_capacity}
use Rattle.gpi.specs.Keys.{holds}
use Rattle.gpi.specs.Activation.{Map}
use Rattle.v_exec.specs.declared.code.Code.{Code}
use Rattle.v_exec.specs.declared.workspace.Touched.{Touched}
use Rattle.v_exec.specs.Stack.{stack_room}
use Rattle.v_exec.specs.declared.workspace.Workspace.{Workspace}

-- the numbers of the touched signals
abbrev pub sigs_of : List Touched → List ℕ
sigs_of ts = map (λ t. t.sig.0) ts

-- each is a signal with the value that it showed before, and none stands there twice
abbrev pub AreEarlier : Map → List Touched → Type 0
AreEarlier before [] = Unit {0}
AreEarlier before (t ∷ ts) = (slice_get before t.sig.0 ≡ Some t.before) × (holds t.sig.0 (sigs_of ts) ≡ false) × AreEarlier before ts

-- each signal whose shown value was written is touched, with the value before; all others show what they showed
pub record AreTouched (before after : Map) (touched : List Touched) : Type 0 where
  pub earlier : AreEarlier before touched
  pub others : (s : ℕ) → holds s (sigs_of touched) ≡ false → slice_get after s ≡ slice_get before s

-- the flags tell which signals are touched
pub record AreMarks (flags : List Bool) (touched : List Touched) : Type 0 where
  pub inside : (s : ℕ) → holds s (sigs_of touched) ≡ true → s < length flags
  pub each : (s : ℕ) → s < length flags → slice_get flags s ≡ Some (holds s (sigs_of touched))

-- there is room for each activation, over n signals
pub record IsWorkspace (code : Code) (n : ℕ) (work : Workspace) : Type 0 where
  pub depth : code.depth ≤ stack_room work.stack
  pub noted : code.most_stores ≤ vec_capacity work.noted
  pub touched : code.most_stores ≤ vec_capacity work.touched
  pub count : length work.flags.items ≡ n
  pub marks : AreMarks work.flags.items work.touched.items

-- and no signal is touched
pub record IsReady (code : Code) (n : ℕ) (work : Workspace) : Type 0 where
  pub workspace : IsWorkspace code n work
  pub untouched : work.touched.items ≡ []
