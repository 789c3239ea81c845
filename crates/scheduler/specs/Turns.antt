-- A means of proof: what the answers to a turn say of its steps and of what was put, for the proofs of the runner's turns.
use Rattle.std.specs.Prelude.{◌≡◌, ℕ, Bool, true, false, List, [], ◌∷◌, Option, None, Some, Result, Ok, Err, is_some}
use Rattle.port_io.specs.PutsPart.{PutsPart}
use Rattle.port_io.specs.Means.{SinkMeans, PutsTo}
use Rattle.port_io.specs.declared.ports.NoMemory.{NoMemory}
use Rattle.port_io.specs.declared.ports.SinkFault.{SinkFault}
use Rattle.port_io.specs.declared.ports.SinkFault.TheVariants.{Failed, OutOfMemory}
use Rattle.py_value.specs.declared.trigger.TaskNo.{TaskNo}
use Rattle.py_value.specs.declared.value.Value.TheVariants.{Absent}
use Rattle.await_tree.specs.declared.cause.Given.TheVariants as given
use Rattle.rig_model.specs.declared.task.task.Turned.{Turned}
use Rattle.test_meaning.specs.Body.BodyTrees.{Case}
use Rattle.rig_model.specs.Run.Rig.{Rig, Setup}
use Rattle.rig_model.specs.Run.Effect.{effect, goes_on}
use Rattle.rig_model.specs.Run.Case.{test_begun}
use Rattle.rig_model.specs.Run.Line.{test_line}
use Rattle.rig_model.specs.Parts.Steps.{Moves, Short, Begins}
use Rattle.scheduler.specs.declared.turned.Turn.{Turn}
use Rattle.scheduler.specs.declared.turned.Turn.TheVariants.{Went, Due, Over, Spent, WriteFault}
use Rattle.scheduler.specs.declared.turned.Next.{Next}
use Rattle.scheduler.specs.declared.turned.Next.TheVariants.{GoesOn, Ends}

-- the test goes on after this answer
abbrev pub has_gone : Result Turn NoMemory → Bool
has_gone (Ok Went) = true
has_gone (Ok Due) = false
has_gone (Ok (Over outcome)) = false
has_gone (Ok Spent) = false
has_gone (Ok WriteFault) = false
has_gone (Err no_memory) = false

-- ---- turns

-- From c, steps of this kind write these lines and lead to e. A start that was planned is still to come after `Went`, and is not after `Due`. After a
-- failed put, and where memory was short, the steps are those whose lines were being put.
abbrev pub TurnsTo : (ℕ → ℕ → Rig → List (List ℕ) → ℕ → Rig → Type 0) → Setup
    → ℕ → Rig → List (List ℕ) → Result Turn NoMemory → ℕ → Rig → Type 0
TurnsTo kind setup fuel c lines (Ok Went) fuel' e = Moves kind fuel c lines fuel' e × (is_some e.planned ≡ is_some c.planned)
TurnsTo kind setup fuel c lines (Ok Due) fuel' e = Moves kind fuel c lines fuel' e × (is_some c.planned ≡ true) × (e.planned ≡ None)
TurnsTo kind setup fuel c lines (Ok (Over outcome)) fuel' e = Moves kind fuel c lines fuel' (record e { outcome = Some outcome })
TurnsTo kind setup fuel c lines (Ok Spent) fuel' e = Short kind setup fuel c lines fuel' e
TurnsTo kind setup fuel c lines (Ok WriteFault) fuel' e = Begins kind fuel c lines
TurnsTo kind setup fuel c lines (Err no_memory) fuel' e = Begins kind fuel c lines

-- why a put failed, by the answer to a turn
abbrev pub turn_fault : Result Turn NoMemory → Option SinkFault
turn_fault (Ok Went) = None
turn_fault (Ok Due) = None
turn_fault (Ok (Over outcome)) = None
turn_fault (Ok Spent) = None
turn_fault (Ok WriteFault) = Some Failed
turn_fault (Err no_memory) = Some OutOfMemory

-- From c and out, steps of this kind and the puts of their lines come to this answer, to e and out'.
pub record Turning {O : Type 0} (sink : SinkMeans O) (kind : ℕ → ℕ → Rig → List (List ℕ) → ℕ → Rig → Type 0) (setup : Setup)
    (fuel : ℕ) (c : Rig) (out : O) (r : Result Turn NoMemory) (fuel' : ℕ) (e : Rig) (out' : O) : Type 0 where
  pub lines : List (List ℕ)
  pub turns : TurnsTo kind setup fuel c lines r fuel' e
  pub puts : PutsTo sink out lines (turn_fault r) out'

-- ---- what a task wants

-- What a task wanted leads here: its effect, once the turn is taken from the task. No start is planned while a test runs.
abbrev pub LeadsTo : Setup → TaskNo → Turned → Rig → Next → Rig → Type 0
LeadsTo setup task turned c (GoesOn given) e = (effect setup task turned c).rig ≡ goes_on task (Some given) e
LeadsTo setup task turned c (Ends Went) e = (effect setup task turned c).rig ≡ e
LeadsTo setup task turned c (Ends Due) e = ⊥
LeadsTo setup task turned c (Ends (Over outcome)) e = (effect setup task turned c).rig ≡ record e { outcome = Some outcome }
LeadsTo setup task turned c (Ends Spent) e = ⊥
LeadsTo setup task turned c (Ends WriteFault) e = Unit {0}

-- why a put failed, by what becomes of the turn after something that its task wanted
abbrev pub next_fault : Result Next NoMemory → Option SinkFault
next_fault (Ok (GoesOn given)) = None
next_fault (Ok (Ends turn)) = turn_fault (Ok turn)
next_fault (Err no_memory) = Some OutOfMemory

-- a line was put: the task goes on with None, or the put broke
abbrev pub IsLogged : Next → Type 0
IsLogged (GoesOn g) = g ≡ given.Value Absent
IsLogged (Ends Went) = ⊥
IsLogged (Ends Due) = ⊥
IsLogged (Ends (Over outcome)) = ⊥
IsLogged (Ends Spent) = ⊥
IsLogged (Ends WriteFault) = Unit {0}

-- ---- begins of tests

-- From c a test begins, and its line is put or breaks: its own task is ready, or it has ended already.
abbrev pub BeginsTo : {O : Type 0} → SinkMeans O → Setup → Case → Rig → Result Turn NoMemory → Rig → O → O → Type 0
BeginsTo sink setup case c (Ok Went) e out out' = (e ≡ test_begun setup case c) × sink.takes out (test_line c.sim.time case.name) out'
BeginsTo sink setup case c (Ok Due) e out out' = ⊥
BeginsTo sink setup case c (Ok (Over outcome)) e out out' =
    (record e { outcome = Some outcome } ≡ test_begun setup case c) × sink.takes out (test_line c.sim.time case.name) out'
BeginsTo sink setup case c (Ok Spent) e out out' = ⊥
BeginsTo sink setup case c (Ok WriteFault) e out out' = sink.breaks out (test_line c.sim.time case.name) out'
BeginsTo sink setup case c (Err no_memory) e out out' = PutsPart sink.takes sink.told out (test_line c.sim.time case.name ∷ []) out'
