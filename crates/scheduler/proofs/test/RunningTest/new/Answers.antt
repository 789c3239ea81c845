-- No task lives.
use Rattle.std.proofs.Common.{ap, arith, length, List}
use Rattle.rig_model.specs.Task.Frame.{Task}
use Rattle.scheduler.proofs.test.RunningTest.new.Goals as goal

pub returns-clause-room : goal.returns-clause-room
returns-clause-room g c = record {
  whole = c.new-2.ensures.whole;
  room_is = omega (arith, ap (λ (ts : List Task). length ts) c.new-2.ensures.live);
}
