-- The begin and the end of a test (cocotb 1.8, `cocotb.test`).
use Rattle.std.specs.Prelude.{ℕ, ◌+◌, nat_lt, List, [], ◌∷◌, Option, None, Some, Ok, Err, if◌then◌else◌}
use Rattle.gpi.specs.State.{State}
use Rattle.gpi.specs.declared.types.Counts.{Counts}
use Rattle.py_syntax.specs.declared.constant.Const.{Const}
use Rattle.py_syntax.specs.declared.fault_kind.FaultKind.{FaultKind}
use Rattle.py_value.specs.Answer.{Answer, and_then, plain_fault}
use Rattle.py_value.specs.declared.value.Value.{Value}
use Rattle.py_value.specs.declared.value.Value.TheVariants.{Place}
use Rattle.py_value.specs.Time.Times.{unit_of, steps_of}
use Rattle.py_evaluate.specs.Eval.{constant_value}
use Rattle.await_tree.specs.Check.{last_time}
use Rattle.await_tree.specs.SyncObjects.States.{none}
use Rattle.run_view.specs.RandomStream.Generator.{Generator}
use Rattle.test_meaning.specs.Body.BodyTrees.{Limit, Case}
use Rattle.rig_model.specs.Task.Frame.{function_at}
use Rattle.rig_model.specs.Run.Rig.{Rig, Setup}
use Rattle.rig_model.specs.Run.Counts.{counted}
use Rattle.rig_model.specs.Run.Effect.{with_new_task}
use Rattle.rig_model.specs.declared.run.outcome.Outcome.TheVariants.{Raised}

-- ---- the begin

-- the values of some constants
abbrev pub values_of : List Const → Answer (List Value)
values_of [] = Ok []
values_of (c ∷ cs) = and_then (constant_value c) (λ v. and_then (values_of cs) (λ vs. Ok (v ∷ vs)))

-- the steps of a limit of time, where a step has so many femtoseconds
abbrev pub limit_steps : ℕ → Limit → Answer ℕ
limit_steps step_fs limit =
    and_then (constant_value limit.number) (λ number. and_then (constant_value limit.unit) (λ unit. steps_of step_fs number (unit_of step_fs unit)))

-- the test ends with this fault
abbrev pub refused : FaultKind → Rig → Rig
refused kind c = record c { outcome = Some (Raised (plain_fault kind)) }

-- a time that can't come is no deadline
abbrev pub deadline_at : ℕ → Option ℕ
deadline_at due = if nat_lt last_time due then None else Some due

abbrev pub with_deadline : Answer ℕ → Rig → Rig
with_deadline (Ok steps) c = record c { deadline = deadline_at (c.sim.time + steps) }
with_deadline (Err kind) c = refused kind c

-- `timeout_time` and `timeout_unit`, from now on
abbrev pub with_limit : ℕ → Option Limit → Rig → Rig
with_limit step_fs None c = c
with_limit step_fs (Some limit) c = with_deadline (limit_steps step_fs limit) c

-- the test's own task is ready; it is given the top of the design and these values
abbrev pub with_test : Setup → Case → Answer (List Value) → Rig → Rig
with_test setup case (Ok values) c =
    with_limit setup.flat.step_fs case.time (with_new_task (function_at setup.functions case.function) (Place 0 ∷ values) c)
with_test setup case (Err kind) c = refused kind c

-- A test begins: its own task, number 0, is ready, and its deadline is set: one effect. A value that none can hold, or a time that is refused, ends the
-- test with that fault before its first statement.
abbrev pub test_begun : Setup → Case → Rig → Rig
test_begun setup case c = counted [] c (with_test setup case (values_of case.arguments) c)

-- ---- the end

-- nothing of a test is left: the simulator, the random numbers and the counts alone stay
abbrev pub emptied : State → Generator → Counts → Rig
emptied sim random counts = record {
  sim = sim;
  tasks = [];
  endings = [];
  running = None;
  ready = [];
  waiting = [];
  objects = none;
  queues = [];
  staged = [];
  fired = [];
  deadline = None;
  planned = None;
  random = random;
  counts = counts;
  outcome = None;
}

-- all of a test is dropped: one effect
abbrev pub ended : Rig → Rig
ended c = counted [] c (emptied c.sim c.random c.counts)

-- the next test is to begin in the next time step: one effect
abbrev pub start_planned : Rig → Rig
start_planned c = counted [] c (record c { planned = Some (c.sim.time + 1) })
