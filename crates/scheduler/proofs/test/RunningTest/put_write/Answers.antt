-- A write that is done at once leads on.
use Rattle.std.proofs.Common.{◌≡◌, false, rules}
use Rattle.std.proofs.lemmas.Result.{IfOk-weaker}
use Rattle.gpi.specs.State.{is_end}
use Rattle.port_io.specs.Means.{sink_means}
use Rattle.rig_model.specs.declared.task.task.Turned.TheVariants as turned
use Rattle.gpi.specs.Content.{Content}
use Rattle.rig_model.specs.Parts.Queue.{Queue}
use Rattle.run_state.specs.Queue.Fits.{queue_of}
use Rattle.scheduler.specs.Parts.{Parts, means, parts_of}
use Rattle.scheduler.specs.Setups.{setup_of}
use Rattle.scheduler.specs.Parts.{rig_by}
use Rattle.scheduler.proofs.Nexts.{logged_leads, same_put}
use Rattle.scheduler.proofs.Leading.{put_leads, put_lines}
use Rattle.scheduler.proofs.test.RunningTest.put_write.Goals as goal

pub returns-clause-leads : goal.returns-clause-leads
returns-clause-leads g c =
    let m = means g.M.FlowMaker g.M.Flow.Flow g.W.Awaits in
    let p : Parts = parts_of m c.args.self.now in
    let q : Queue = queue_of g.W.Awaits.waiting c.args.self.now.queue in
    let k : Content = g.K.Gpi.content c.args.kernel.now in
    let unended : is_end k.state.region ≡ false = search rules in
    let q' : Queue = queue_of g.W.Awaits.waiting c.put_now.new.queue in
    let k' : Content = g.K.Gpi.content c.put_now.new.kernel in
    IfOk-weaker c.after_put.result _ _
    (λ next logged. λ functions task. logged_leads (setup_of functions c.args.teller.now) task (turned.Put c.args.write.sig c.args.write.act) (rig_by p q k) (rig_by p q' k') next
    (put_leads (setup_of functions c.args.teller.now) task p q k q' k' c.args.write.sig c.args.write.act unended (c.put_now.ensures.done.leads functions)) logged)
    c.after_put.ensures.next

pub returns-clause-puts : goal.returns-clause-puts
returns-clause-puts g c =
    let m = means g.M.FlowMaker g.M.Flow.Flow g.W.Awaits in
    let p : Parts = parts_of m c.args.self.now in
    let q : Queue = queue_of g.W.Awaits.waiting c.args.self.now.queue in
    let k : Content = g.K.Gpi.content c.args.kernel.now in
    let unended : is_end k.state.region ≡ false = search rules in
    λ functions task. same_put (sink_means g.O.Sink) c.args.out.now c.put_now.new.out _ _ _ _
    (put_lines (setup_of functions c.args.teller.now) task p q k c.args.write.sig c.args.write.act unended) c.after_put.ensures.fault
    (c.put_now.ensures.done.puts functions (rig_by p q k))
