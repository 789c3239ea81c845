-- The other tasks live on, and this one has ended.
use Rattle.std.proofs.Common.{List, length, None, ap, ◌∙◌}
use Rattle.run_state.specs.LiveTasks.Flows.{meanings}
use Rattle.run_state.proofs.TestTasksLemmas.Numbers.{set_long}
use Rattle.run_state.proofs.TestTasksLemmas.Whole.{whole_ended}
use Rattle.run_state.proofs.test_tasks.tasks.TestTasks.end.Goals as goal

pub returns-clause-whole : goal.returns-clause-whole
returns-clause-whole g c =
    whole_ended (meanings g.M.Flow.Flow.functions g.M.Flow.Flow.meaning) (g.M.FlowMaker.functions c.args.self.now.maker) c.args.self.now.live c.end.new.self
    c.args.self.now.ended c.end-2.new.self c.args.task c.args.ending c.requires.whole
    (ap (λ (fs : List _). length fs) c.end.ensures.is ∙ set_long c.args.self.now.live c.args.task.0 None) c.end.ensures.tasks
    (c.end.ensures.file _ c.requires.whole.file_is) c.end-2.ensures
