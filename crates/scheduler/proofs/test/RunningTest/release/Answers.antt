-- A lock that is released goes to the first who waits for it, or is free.
use Rattle.std.proofs.Common.{◌≡◌, true, rules, sym, ◌∙◌, refl}
use Rattle.await_tree.specs.SyncObjects.States.{is_held}
use Rattle.gpi.specs.Content.{Content}
use Rattle.rig_model.specs.Parts.Queue.{Queue}
use Rattle.run_state.specs.Queue.Fits.{queue_of}
use Rattle.scheduler.specs.Parts.{Parts, means, parts_of}
use Rattle.scheduler.proofs.Nexts.{has_places, room_same}
use Rattle.scheduler.proofs.Leading.{release_granted, release_freed}
use Rattle.scheduler.proofs.test.RunningTest.release.Goals as goal

pub grant-requires-clause-room : goal.grant-requires-clause-room
grant-requires-clause-room g c = has_places (means g.M.FlowMaker g.M.Flow.Flow g.W.Awaits) c.args.self.now c.requires.turn.room (g.K.Gpi.content c.args.kernel.now) c.args.task c.requires.turn.stands

pub returns-then-grant-clause-leads : goal.returns-then-grant-clause-leads
returns-then-grant-clause-leads g c =
    let m = means g.M.FlowMaker g.M.Flow.Flow g.W.Awaits in
    let p : Parts = parts_of m c.args.self.now in
    let q : Queue = queue_of g.W.Awaits.waiting c.args.self.now.queue in
    let k : Content = g.K.Gpi.content c.args.kernel.now in
    let held : is_held c.args.lock c.args.self.now.objects ≡ true = search rules in
    record {
      effect = λ setup. release_granted setup c.args.task p q k c.args.lock (queue_of g.W.Awaits.waiting c.grant.new.self) (g.K.Gpi.content c.grant.new.kernel) held
          (sym c.grant.ensures.answer ∙ c.if-grant.true) c.grant.ensures.leads;
      fine = refl;
      room = room_same m c.args.self.now c.requires.turn.room _ refl c.grant.ensures.room;
    }

pub returns-clause-leads : goal.returns-clause-leads
returns-clause-leads g c =
    let m = means g.M.FlowMaker g.M.Flow.Flow g.W.Awaits in
    let p : Parts = parts_of m c.args.self.now in
    let q : Queue = queue_of g.W.Awaits.waiting c.args.self.now.queue in
    let k : Content = g.K.Gpi.content c.args.kernel.now in
    let held : is_held c.args.lock c.args.self.now.objects ≡ true = search rules in
    record {
      effect = λ setup. release_freed setup c.args.task p q k c.args.lock c.free.new.self (queue_of g.W.Awaits.waiting c.grant.new.self) (g.K.Gpi.content c.grant.new.kernel) held
          (sym c.grant.ensures.answer ∙ c.if-grant.false) c.free.ensures (c.grant.ensures.none c.if-grant.false).0 c.grant.ensures.stays.state
          (c.grant.ensures.none c.if-grant.false).1;
      fine = refl;
      room = room_same m c.args.self.now c.requires.turn.room _ refl c.grant.ensures.room;
    }
