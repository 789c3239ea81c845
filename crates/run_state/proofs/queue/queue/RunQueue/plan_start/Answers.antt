use Rattle.std.proofs.Common.{sym, ap, subst}
use Rattle.rig_model.specs.Parts.Queue.{Queue}
use Rattle.await_tree.specs.WaitList.Ring.{Ring}
use Rattle.run_state.specs.Queue.Fits.{queue_of}
use Rattle.run_state.specs.Queue.Still.{AreStill}
use Rattle.run_state.proofs.QueueLemmas.ClearLaws.{planned_fits, planned_keeps, planned_leads}
use Rattle.run_state.proofs.queue.queue.RunQueue.plan_start.Goals as goal

pub returns-clause-leads : goal.returns-clause-leads
returns-clause-leads g c = planned_leads (queue_of g.W.Awaits.waiting c.args.self.now) (queue_of g.W.Awaits.waiting c.hold_time.new.self) c.args.due _ _ (g.K.Gpi.content c.args.kernel.now) _
    c.requires.keeps c.hold_time.ensures.is c.in_ok-hold_time.ensures.held c.in_ok-hold_time.ensures.keys c.requires.new

pub returns-clause-keeps : goal.returns-clause-keeps
returns-clause-keeps g c = planned_keeps (queue_of g.W.Awaits.waiting c.args.self.now) (queue_of g.W.Awaits.waiting c.hold_time.new.self) c.args.due _ _ (g.K.Gpi.content c.args.kernel.now) _
    c.requires.keeps c.hold_time.ensures.is c.in_ok-hold_time.ensures.held c.in_ok-hold_time.ensures.keys c.requires.new

pub returns-clause-fits : goal.returns-clause-fits
returns-clause-fits g c = λ flat f. record {
  queue = planned_fits (queue_of g.W.Awaits.waiting c.args.self.now) (queue_of g.W.Awaits.waiting c.hold_time.new.self) c.args.due _ _ (g.K.Gpi.content c.args.kernel.now) _
      c.requires.keeps c.hold_time.ensures.is c.in_ok-hold_time.ensures.held c.in_ok-hold_time.ensures.keys c.requires.new flat _ _
      (ap (λ (r : Ring). r.room) c.hold_time.ensures.ready) f.queue;
  still = subst AreStill (sym (ap (λ (o : Queue). o.waiting) c.hold_time.ensures.is)) f.still;
}
