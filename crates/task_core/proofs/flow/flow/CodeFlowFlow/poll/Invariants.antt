use Rattle.std.proofs.Common.{◌≤◌, ℕ, Some}
use Rattle.std.specs.Prelude.{IfSome}
use Rattle.rig_model.specs.Task.Frame.{Task}
use Rattle.rig_model.specs.Task.Known.{KnowsGiven, KnowsWhole}
use Rattle.rig_model.specs.Task.Poll.{Polled}
use Rattle.rig_model.specs.declared.task.task.Turned.{Turned}
use Rattle.task_core.specs.Flow.Flow.{IsSame, functions_in, task_in}
use Rattle.task_core.proofs.FlowLemmas.Counts.{poll_count}
use Rattle.task_core.proofs.flow.flow.CodeFlowFlow.poll.Given as goal

-- what a poll from here gives is what the whole poll gives
abbrev pub invariant-steps : goal.invariant-steps
invariant-steps g l = record {
  same : IsSame l.fn.self l.self;
  falls : l.fuel ≤ l.fn.fuel;
  known : KnowsWhole (functions_in g.C.Code.reads l.self) (g.V.Look.view l.view) (task_in g.C.Code.reads l.self);
  given : IfSome l.next (KnowsGiven (g.V.Look.view l.view));
  polls : (turned : Turned) (fuel : ℕ) (task : Task)
      → Polled (functions_in g.C.Code.reads l.self) (g.V.Look.view l.view) l.fuel (task_in g.C.Code.reads l.self) l.next turned fuel task
      → Polled (functions_in g.C.Code.reads l.fn.self) (g.V.Look.view l.view) l.fn.fuel (task_in g.C.Code.reads l.fn.self) (Some l.fn.given) turned fuel task;
}

abbrev pub decreases-steps : goal.decreases-steps
decreases-steps g l = poll_count (functions_in g.C.Code.reads l.self) (g.V.Look.view l.view) l.fuel (task_in g.C.Code.reads l.self) l.next
