use Rattle.std.proofs.Common.{◌∙◌, sym, ap, subst}
use Rattle.std.specs.Prelude.{nat_lt}
use Rattle.await_tree.specs.Fire.{awaits, reach_of}
use Rattle.await_tree.specs.WaitList.Waiting.{Waiting}
use Rattle.run_state.specs.Queue.Fits.{queue_of}
use Rattle.run_state.specs.Queue.Still.{AreStill}
use Rattle.run_state.proofs.QueueLemmas.CallLaws.{wake_fits, wake_keeps, wake_leads, wake_none}
use Rattle.run_state.proofs.QueueLemmas.FitLaws.{fits_room}
use Rattle.run_state.proofs.QueueLemmas.StillLaws.{any_counted, woken_still}
use Rattle.run_state.proofs.queue.queue.RunQueue.wake.Goals as goal

pub returns-clause-answer : goal.returns-clause-answer
returns-clause-answer g c = ap (nat_lt 0) c.wake.ensures.answer
    ∙ any_counted (λ (w : Waiting). awaits (reach_of c.args.cause) w.tree) (g.W.Awaits.waiting c.args.self.now.awaits)

pub returns-clause-leads : goal.returns-clause-leads
returns-clause-leads g c = wake_leads (queue_of g.W.Awaits.waiting c.args.self.now) _ _ c.args.cause _ _ (g.K.Gpi.content c.args.kernel.now) _
    c.requires.keeps c.wake.ensures.waiting c.wake.ensures.ready c.wake.ensures.held c.wake.ensures.keys

pub returns-clause-none : goal.returns-clause-none
returns-clause-none g c = λ still n. wake_none (queue_of g.W.Awaits.waiting c.args.self.now) _ _ c.args.cause _ _ (g.K.Gpi.content c.args.kernel.now) _
    c.requires.keeps c.wake.ensures.waiting c.wake.ensures.ready c.wake.ensures.held c.wake.ensures.keys still
    (sym (any_counted (λ (w : Waiting). awaits (reach_of c.args.cause) w.tree) (g.W.Awaits.waiting c.args.self.now.awaits)) ∙ sym (ap (nat_lt 0) c.wake.ensures.answer) ∙ n)

pub returns-clause-keeps : goal.returns-clause-keeps
returns-clause-keeps g c = wake_keeps (queue_of g.W.Awaits.waiting c.args.self.now) _ _ c.args.cause _ _ (g.K.Gpi.content c.args.kernel.now) _
    c.requires.keeps c.wake.ensures.waiting c.wake.ensures.ready c.wake.ensures.held c.wake.ensures.keys

pub returns-clause-fits : goal.returns-clause-fits
returns-clause-fits g c = λ flat f. record {
  queue = fits_room flat _ _ _ _ _ c.wake.ensures.room
      (wake_fits (queue_of g.W.Awaits.waiting c.args.self.now) _ _ c.args.cause _ _ (g.K.Gpi.content c.args.kernel.now) _
      c.requires.keeps c.wake.ensures.waiting c.wake.ensures.ready c.wake.ensures.held c.wake.ensures.keys flat _ f.queue);
  still = subst AreStill (sym c.wake.ensures.waiting) (woken_still c.args.cause _ f.still);
}
