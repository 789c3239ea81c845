-- A task that starts another.
use Rattle.std.proofs.Common.{sym, ap, ◌∙◌}
use Rattle.gpi.specs.Content.{no_design}
use Rattle.rig_model.specs.Task.Frame.{function_at}
use Rattle.rig_model.specs.Parts.Queue.{Queue}
use Rattle.run_state.specs.Queue.Fits.{queue_of}
use Rattle.scheduler.specs.Parts.{Parts, means, parts_of, rig_by, rig_of}
use Rattle.scheduler.proofs.Nexts.{has_place, keeps_ready, started_stands}
use Rattle.scheduler.proofs.Leading.{start_on, start_way}
use Rattle.scheduler.proofs.Waiting.{few_most}
use Rattle.scheduler.proofs.test.RunningTest.start_task.Goals as goal

pub add_task-requires-clause-few : goal.add_task-requires-clause-few
add_task-requires-clause-few g c = few_most c.args.task (rig_of (means g.M.FlowMaker g.M.Flow.Flow g.W.Awaits) c.args.self.now no_design) (c.requires.stands no_design)

pub put-requires : goal.put-requires
put-requires g c =
    let m = means g.M.FlowMaker g.M.Flow.Flow g.W.Awaits in
    record {
      room = has_place m c.add_task.new.self c.in_ok-number.ensures.room no_design c.args.task
          (started_stands c.args.task (function_at (g.M.FlowMaker.functions c.args.self.now.tasks.maker) c.args.func) c.args.args (rig_of m c.args.self.now no_design) (rig_of m c.add_task.new.self no_design) (sym c.is_full.ensures ∙ c.if-is_full.false)
          (c.requires.stands no_design) (c.in_ok-number.ensures.added no_design));
    }

pub returns-then-give_way-clause-leads : goal.returns-then-give_way-clause-leads
returns-then-give_way-clause-leads g c =
    let m = means g.M.FlowMaker g.M.Flow.Flow g.W.Awaits in
    let p : Parts = parts_of m c.args.self.now in
    let q : Queue = queue_of g.W.Awaits.waiting c.args.self.now.queue in
    λ setup content own. start_way setup c.args.task p q content (g.M.FlowMaker.functions c.args.self.now.tasks.maker) own c.args.func c.args.args c.in_ok-number.number
    (rig_of m c.add_task.new.self content) (sym c.is_full.ensures ∙ c.if-is_full.false) c.in_ok-number.ensures.number (c.in_ok-number.ensures.added content) c.args.give_way
    _ c.if-give_way.true (ap (λ (x : Queue). rig_by (parts_of m c.add_task.new.self) x content) c.put.ensures.is)

pub returns-then-give_way-clause-stays : goal.returns-then-give_way-clause-stays
returns-then-give_way-clause-stays g c = record {
  fits = λ content flat fits. c.put.ensures.fits flat content (c.add_task.ensures.stays.fits content flat fits);
  keeps = λ content keeps. keeps_ready g.W.Awaits.waiting g.W.Awaits.held c.add_task.new.self.queue c.put.new.self c.args.task _ content c.put.ensures.awaits
      c.put.ensures.is (c.add_task.ensures.stays.keeps content keeps);
  maker = c.add_task.ensures.stays.maker;
}

pub returns-else-give_way-clause-leads : goal.returns-else-give_way-clause-leads
returns-else-give_way-clause-leads g c =
    let m = means g.M.FlowMaker g.M.Flow.Flow g.W.Awaits in
    let p : Parts = parts_of m c.args.self.now in
    let q : Queue = queue_of g.W.Awaits.waiting c.args.self.now.queue in
    λ setup content own. start_on setup c.args.task p q content (g.M.FlowMaker.functions c.args.self.now.tasks.maker) own c.args.func c.args.args c.in_ok-number.number
    (rig_of m c.add_task.new.self content) (sym c.is_full.ensures ∙ c.if-is_full.false) c.in_ok-number.ensures.number (c.in_ok-number.ensures.added content) c.args.give_way c.if-give_way.false
