-- The new task lives.
use Rattle.std.proofs.Common.{ap, ◌∙◌}
use Rattle.run_state.specs.LiveTasks.Flows.{meanings}
use Rattle.rig_model.specs.Task.Frame.{Task}
use Rattle.run_state.proofs.TestTasksLemmas.Whole.{whole_started}
use Rattle.run_state.proofs.test_tasks.tasks.TestTasks.start.Goals as goal

pub returns-clause-whole : goal.returns-clause-whole
returns-clause-whole g c =
    whole_started (meanings g.M.Flow.Flow.functions g.M.Flow.Flow.meaning) (g.M.FlowMaker.functions c.args.self.now.maker) c.args.self.now.live c.start.new.self
    c.args.self.now.ended c.add.new.self c.in_ok-flow.flow (g.M.Flow.Flow.meaning c.in_ok-flow.flow) c.requires.whole
    (ap (λ (t : Task). t.number.0) c.in_ok-flow.ensures.task ∙ c.count.ensures) c.in_ok-start.ensures.ok c.in_ok-start.ensures.tasks
    (c.in_ok-start.ensures.file _ c.in_ok-flow.ensures.file c.requires.whole.file_is) c.in_ok-add.ensures.ok
