-- An event that is set leads on.
use Rattle.std.proofs.Common.{refl}
use Rattle.gpi.specs.Content.{Content}
use Rattle.rig_model.specs.Parts.Queue.{Queue}
use Rattle.run_state.specs.Queue.Fits.{queue_of}
use Rattle.scheduler.specs.Parts.{Parts, means, parts_of}
use Rattle.scheduler.proofs.Nexts.{has_places, room_same}
use Rattle.scheduler.proofs.Leading.{set_leads}
use Rattle.scheduler.proofs.test.RunningTest.set_event.Goals as goal

pub wake-requires-clause-room : goal.wake-requires-clause-room
wake-requires-clause-room g c = has_places (means g.M.FlowMaker g.M.Flow.Flow g.W.Awaits) c.args.self.now c.requires.turn.room (g.K.Gpi.content c.args.kernel.now) c.args.task c.requires.turn.stands

pub returns-clause-leads : goal.returns-clause-leads
returns-clause-leads g c =
    let m = means g.M.FlowMaker g.M.Flow.Flow g.W.Awaits in
    let p : Parts = parts_of m c.args.self.now in
    let q : Queue = queue_of g.W.Awaits.waiting c.args.self.now.queue in
    let k : Content = g.K.Gpi.content c.args.kernel.now in
    record {
      effect = λ setup. set_leads setup c.args.task p q k c.args.event c.set_event.new.self (queue_of g.W.Awaits.waiting c.wake.new.self) (g.K.Gpi.content c.wake.new.kernel)
          c.set_event.ensures c.wake.ensures.leads;
      fine = refl;
      room = room_same m c.args.self.now c.requires.turn.room _ refl c.wake.ensures.room;
    }
