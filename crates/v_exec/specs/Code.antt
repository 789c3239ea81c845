-- A means of proof: what packed processes stand for.
use Rattle.std.specs.Prelude.{◌≡◌, ℕ, ◌≤◌, ◌++◌, List, [], length, drop, slice_get, slice_index_or, Some}
use Rattle.gpi.specs.Limits.{most_elements}
use Rattle.gpi.specs.declared.types.Update.{Update}
use Rattle.gpi.specs.declared.design.Process.{Process}
use Rattle.gpi.specs.declared.design.Flat.{Flat}
use Rattle.gpi.specs.Activation.{Map, Hidden, Run}
use Rattle.gpi.specs.Design.{proc_of}
use Rattle.v_exec.specs.declared.instruction.Instruction.{Instruction}
use Rattle.v_exec.specs.declared.code.Code.{Code}
use Rattle.v_exec.specs.Machine.{Machine, exec}
use Rattle.v_exec.specs.Fits.{Room, Shape, Fits}

-- an activation begins with no operand and no update
abbrev pub begun : Map → Hidden → Machine
begun m h = record { stack = []; run = record { signals = m; hidden = h; updates = [] }; noted = [] }

abbrev pub begun_shape : Shape
begun_shape = record { stack = []; stores = 0 }

-- the instructions of a process and all behind them
abbrev pub code_at : Code → ℕ → List Instruction
code_at code start = drop start code.instructions.items

-- what an activation of a process leaves
abbrev pub run_of : Code → ℕ → Map → Hidden → Run
run_of code p m h = (exec (code_at code (slice_index_or code.starts.items p 0)) 0 (begun m h)).run

abbrev pub room_of : Code → Room
room_of code = record { depth = code.depth; stores = code.most_stores }

-- each process is packed, and an activation of its code leaves what one of the process leaves
pub record StandsFor (code : Code) (flat : Flat) : Type 0 where
  pub count : length code.starts.items ≡ length flat.processes
  pub runs : (p : ℕ) (x : Process) → slice_get flat.processes p ≡ Some x → (m : Map) (h : Hidden) → run_of code p m h ≡ (proc_of x).run m h

-- each process fits; ws are the widths of the signals
pub record IsSoundCode (code : Code) (ws : List ℕ) : Type 0 where
  pub few : length ws ≤ most_elements
  pub each : (p start : ℕ) → slice_get code.starts.items p ≡ Some start → Fits (room_of code) ws (code_at code start) 0 begun_shape

-- the values are those of this run, and its updates were appended
pub record HasRun (r : Run) (later : List Update) (shown : Map) (hidden : Hidden) (later_after : List Update) : Type 0 where
  pub shown_are : shown ≡ r.signals
  pub hidden_are : hidden ≡ r.hidden
  pub appended : later_after ≡ later ++ r.updates
