-- A staged write leads on.
use Rattle.std.proofs.Common.{◌≡◌, false, rules, refl}
use Rattle.gpi.specs.State.{is_end}
use Rattle.gpi.specs.Content.{Content}
use Rattle.rig_model.specs.Parts.Queue.{Queue}
use Rattle.run_state.specs.Queue.Fits.{queue_of}
use Rattle.scheduler.specs.Parts.{Parts, means, parts_of}
use Rattle.scheduler.proofs.Leading.{stage_leads}
use Rattle.scheduler.proofs.Nexts.{room_same}
use Rattle.scheduler.proofs.test.RunningTest.stage_write.Goals as goal

pub returns-clause-leads : goal.returns-clause-leads
returns-clause-leads g c =
    let m = means g.M.FlowMaker g.M.Flow.Flow g.W.Awaits in
    let p : Parts = parts_of m c.args.self.now in
    let q : Queue = queue_of g.W.Awaits.waiting c.args.self.now.queue in
    let k : Content = g.K.Gpi.content c.args.kernel.now in
    let unended : is_end k.state.region ≡ false = search rules in
    λ task. record {
      effect = λ setup. stage_leads setup task p q k (queue_of g.W.Awaits.waiting c.stage.new.self) (g.K.Gpi.content c.stage.new.kernel) c.args.sig c.args.act unended
          c.in_ok-stage.ensures.leads;
      fine = refl;
      room = room_same m c.args.self.now c.requires.room _ refl c.stage.ensures.room;
    }
