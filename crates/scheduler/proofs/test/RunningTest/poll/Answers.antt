-- There is room still.
use Rattle.std.proofs.Common.{ap, arith, List, length}
use Rattle.rig_model.specs.Task.Frame.{Task}
use Rattle.scheduler.proofs.EffectLawsLemmas.Effects.{stored_long}
use Rattle.run_state.specs.TestTasks.Tasks.{live_in}
use Rattle.scheduler.proofs.test.RunningTest.poll.Goals as goal

pub returns-clause-room : goal.returns-clause-room
returns-clause-room g c = record {
  whole = c.poll.ensures.whole;
  room_is = omega (
    arith,
    ap (λ (ts : List Task). length ts) c.poll.ensures.left.left.stored_is,
    stored_long c.args.task c.poll.ensures.left.rest (live_in g.M.Flow.Flow.meaning c.args.self.now.tasks),
    c.requires.room.room_is,
  );
}
