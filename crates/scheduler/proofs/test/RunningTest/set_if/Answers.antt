-- An event is set where it is so.
use Rattle.std.proofs.Common.{◌≡◌, true, rules}
use Rattle.gpi.specs.Content.{Content}
use Rattle.rig_model.specs.Parts.Queue.{Queue}
use Rattle.run_state.specs.Queue.Fits.{queue_of}
use Rattle.scheduler.specs.Parts.{Parts, means, parts_of}
use Rattle.scheduler.proofs.Nexts.{has_places}
use Rattle.scheduler.proofs.QueueLaws.{set_so}
use Rattle.scheduler.proofs.test.RunningTest.set_if.Goals as goal

pub wake-requires-clause-room : goal.wake-requires-clause-room
wake-requires-clause-room g c = has_places (means g.M.FlowMaker g.M.Flow.Flow g.W.Awaits) c.args.self.now c.requires.turn.room (g.K.Gpi.content c.args.kernel.now) c.args.task c.requires.turn.stands

pub returns-clause-sets : goal.returns-clause-sets
returns-clause-sets g c =
    let m = means g.M.FlowMaker g.M.Flow.Flow g.W.Awaits in
    let p : Parts = parts_of m c.args.self.now in
    let q : Queue = queue_of g.W.Awaits.waiting c.args.self.now.queue in
    let k : Content = g.K.Gpi.content c.args.kernel.now in
    let so : c.args.is_so ≡ true = search rules in
    set_so c.args.is_so c.args.event p q k c.set_event.new.self (queue_of g.W.Awaits.waiting c.wake.new.self) (g.K.Gpi.content c.wake.new.kernel)
    so c.set_event.ensures c.wake.ensures.leads
