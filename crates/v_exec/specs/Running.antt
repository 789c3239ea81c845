-- A means of proof: the machine as the code keeps it.
use Rattle.std.specs.Prelude.{◌≡◌, ℕ, ◌+◌, ◌-◌, ◌<◌, ◌≤◌, Bool, true, false, List, [], ◌∷◌, length, min, Option, Some, None, vec_capacity}
use Rattle.four_value.specs.declared.Digit.{Digit}
use Rattle.gpi.specs.declared.types.Update.{Update}
use Rattle.gpi.specs.Limits.{most_elements}
use Rattle.gpi.specs.Terms.{widths_of}
use Rattle.gpi.specs.Targets.{AreFitting}
use Rattle.gpi.specs.Activation.{Map, Hidden, AreHidden}
use Rattle.v_exec.specs.declared.instruction.Instruction.{Instruction}
use Rattle.v_exec.specs.declared.instruction.Instruction.TheVariants as code
use Rattle.v_exec.specs.declared.workspace.Workspace.{Workspace}
use Rattle.v_exec.specs.Machine.{Machine, passes}
use Rattle.v_exec.specs.Fits.{Room, Shape, Fits}
use Rattle.v_exec.specs.declared.code.Code.{Code}
use Rattle.v_exec.specs.Code.{code_at, room_of}
use Rattle.v_exec.specs.Stack.{stack_of, stack_room}
use Rattle.v_exec.specs.Workspace.{AreMarks, AreTouched}

-- the machine that these stand for
abbrev pub machine_of : Workspace → Map → Hidden → List Update → Machine
machine_of work shown hidden later =
    record { stack = stack_of work.stack; run = record { signals = shown; hidden = hidden; updates = later }; noted = work.noted.items }

-- the updates of a store, of which there is one at most
abbrev pub listed : Option Update → List Update
listed None = []
listed (Some u) = u ∷ []

-- how many instructions are passed over behind one; None at the end
abbrev pub goes_to : Instruction → Machine → Option ℕ
goes_to code.Stop m = None
goes_to i m = Some (passes i m)

abbrev pub goes_by : Option ℕ → (ℕ → Machine → Machine) → Machine → Machine
goes_by None rest m = m
goes_by (Some n) rest m = rest n m

-- whether an instruction changes the stack alone, and no jump is made behind it
abbrev pub computes : Instruction → Bool
computes (code.Unless n) = false
computes (code.Skip n) = false
computes (code.Match kind n) = false
computes (code.Store place mode) = false
computes code.WriteNoted = false
computes code.Stop = false
computes _ = true

-- whether it is an operator
abbrev pub operates : Instruction → Bool
operates (code.Unary op) = true
operates (code.Arith op) = true
operates (code.Compare op) = true
operates (code.Logic op) = true
operates (code.Reduce op) = true
operates (code.Shift op) = true
operates code.Choose = true
operates code.Concat = true
operates (code.Repeat n) = true
operates (code.Resize w) = true
operates _ = false

-- whether it is one on two operands or more
abbrev pub operates_more : Instruction → Bool
operates_more (code.Arith op) = true
operates_more (code.Compare op) = true
operates_more (code.Logic op) = true
operates_more (code.Shift op) = true
operates_more code.Choose = true
operates_more code.Concat = true
operates_more _ = false

-- the shape of a stack, with no store so far
abbrev pub shape_of : List (List Digit) → Shape
shape_of st = record { stack = widths_of st; stores = 0 }

-- ---- the workspace in the midst of an activation, which began with the values `before`

pub record IsRunning (before shown : Map) (hidden : Hidden) (work : Workspace) : Type 0 where
  pub few : length shown ≤ most_elements
  pub hidden_fit : AreHidden hidden (widths_of shown)
  pub noted_fit : AreFitting work.noted.items (widths_of shown)
  pub count : length work.flags.items ≡ length shown
  pub marks : AreMarks work.flags.items work.touched.items
  pub touched : AreTouched before shown work.touched.items
  pub space : length work.touched.items + length work.noted.items ≤ vec_capacity work.touched

-- one more store fits; the list of later updates has this length and this room
pub record HasSpace (work : Workspace) (later room : ℕ) : Type 0 where
  pub waits : later < room
  pub notes : length work.noted.items < vec_capacity work.noted
  pub writes : length work.touched.items + length work.noted.items < vec_capacity work.touched

-- so many stores were done at most, and the room is the same
pub record Grows (n : ℕ) (before after : Workspace) : Type 0 where
  pub counts : length after.touched.items + length after.noted.items ≤ n + (length before.touched.items + length before.noted.items)
  pub stack_space : stack_room after.stack ≡ stack_room before.stack
  pub noted_space : vec_capacity after.noted ≡ vec_capacity before.noted
  pub touched_space : vec_capacity after.touched ≡ vec_capacity before.touched

-- how many more stores fit; the list of later updates has this length and this room
abbrev pub spare : Workspace → ℕ → ℕ → ℕ
spare work later room =
    min (room - later) (min (vec_capacity work.noted - length work.noted.items)
    (vec_capacity work.touched - (length work.touched.items + length work.noted.items)))

abbrev pub room_left : Workspace → ℕ → ℕ → Room
room_left work later room = record { depth = stack_room work.stack; stores = spare work later room }

-- the instructions from a place on fit, so many stores are done at most, and there is room for the others; the list of later updates had
-- the length base at the start, and has this length and this room
pub record IsAt (code : Code) (ws : List ℕ) (at : ℕ) (work : Workspace) (base later room done : ℕ) : Type 0 where
  pub fit : Fits (room_of code) ws (code_at code at) 0 (record { stack = widths_of (stack_of work.stack); stores = done })
  pub bounded : done ≤ code.most_stores
  pub waits : later ≤ done + base
  pub counts : length work.touched.items + length work.noted.items ≤ done
  pub depth : code.depth ≤ stack_room work.stack
  pub noted_space : code.most_stores ≤ vec_capacity work.noted
  pub touched_space : code.most_stores ≤ vec_capacity work.touched
  pub later_space : base + code.most_stores ≤ room

abbrev pub IsSomewhere : Code → List ℕ → ℕ → Workspace → ℕ → ℕ → ℕ → Type 0
IsSomewhere code ws at work base later room = (done : ℕ) × IsAt code ws at work base later room done
