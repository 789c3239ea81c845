-- A poll of a flow is a poll of a task of the file.
use Rattle.std.proofs.lemmas.Result.{IfOk-weaker}
use Rattle.run_state.specs.LiveTasks.Flows.{meanings}
use Rattle.run_view.specs.View.{view_of}
use Rattle.run_state.proofs.TestTasksLemmas.Whole.{flow_known, polls_one, whole_left}
use Rattle.run_state.proofs.test_tasks.tasks.TestTasks.poll.Goals as goal

pub poll-requires-clause-known : goal.poll-requires-clause-known
poll-requires-clause-known g c =
    rw c.new-view.ensures (flow_known (meanings g.M.Flow.Flow.functions g.M.Flow.Flow.meaning) (g.M.FlowMaker.functions c.args.self.now.maker)
    (view_of c.args.flat.now (g.K.Gpi.content c.args.kernel.now).state c.args.objects.now c.args.queues.now c.args.self.now.ended) c.args.self.now.live c.args.task.0
    c.requires.whole.file_is c.requires.known)

pub returns-clause-polls : goal.returns-clause-polls
returns-clause-polls g c =
    IfOk-weaker c.poll.result _ _
    (λ turned p. polls_one (meanings g.M.Flow.Flow.functions g.M.Flow.Flow.meaning) (g.M.FlowMaker.functions c.args.self.now.maker) c.args.self.now.live
    c.poll.new.self c.args.task _ _ _ turned _ c.requires.whole.file_is p) (rw c.new-view.ensures at c.poll.ensures.polls)

pub returns-clause-whole : goal.returns-clause-whole
returns-clause-whole g c =
    whole_left (meanings g.M.Flow.Flow.functions g.M.Flow.Flow.meaning) (g.M.FlowMaker.functions c.args.self.now.maker) c.args.self.now.live c.poll.new.self
    c.args.task c.args.self.now.ended c.requires.whole (c.poll.ensures.file _ c.requires.whole.file_is) c.poll.ensures.left
