use Rattle.std.proofs.Common.{◌∙◌, sym, subst}
use Rattle.await_tree.specs.declared.cause.Cause.TheVariants.{Ended}
use Rattle.std.specs.Prelude.{false, not}
use Rattle.await_tree.specs.WaitList.Waiting.{Waiting, is_of}
use Rattle.run_state.specs.Queue.Fits.{queue_of}
use Rattle.run_state.specs.Queue.Still.{AreStill}
use Rattle.run_state.proofs.QueueLemmas.CallLaws.{dropped_few, dropped_keeps, kill_fits, kill_keeps, kill_leads}
use Rattle.run_state.proofs.QueueLemmas.FitLaws.{few_room, fits_room, keeps_but}
use Rattle.run_state.proofs.QueueLemmas.StillLaws.{filter_still, woken_still}
use Rattle.run_state.proofs.queue.queue.RunQueue.kill.Goals as goal

pub wake-requires-clause-room : goal.wake-requires-clause-room
wake-requires-clause-room g c = few_room _ _ _ c.take_out.ensures.room
    (dropped_few (queue_of g.W.Awaits.waiting c.args.self.now) _ _ c.args.task _ _ (g.K.Gpi.content c.args.kernel.now) _
    c.requires.keeps c.take_out.ensures.entries c.drop_task.ensures.waiting c.drop_task.ensures.held c.drop_task.ensures.keys _ c.requires.room)

pub wake-requires-clause-keys : goal.wake-requires-clause-keys
wake-requires-clause-keys g c = keeps_but _ _ _
    (dropped_keeps (queue_of g.W.Awaits.waiting c.args.self.now) _ _ c.args.task _ _ (g.K.Gpi.content c.args.kernel.now) _
    c.requires.keeps c.take_out.ensures.entries c.drop_task.ensures.waiting c.drop_task.ensures.held c.drop_task.ensures.keys)

pub returns-clause-leads : goal.returns-clause-leads
returns-clause-leads g c = kill_leads (queue_of g.W.Awaits.waiting c.args.self.now) _ _ _ _ c.args.task _ _ _ (g.K.Gpi.content c.args.kernel.now) _ _
    c.requires.keeps c.take_out.ensures.entries c.drop_task.ensures.waiting c.drop_task.ensures.held c.drop_task.ensures.keys
    c.wake.ensures.waiting c.wake.ensures.ready c.wake.ensures.held c.wake.ensures.keys

pub returns-clause-keeps : goal.returns-clause-keeps
returns-clause-keeps g c = kill_keeps (queue_of g.W.Awaits.waiting c.args.self.now) _ _ _ _ c.args.task _ _ _ (g.K.Gpi.content c.args.kernel.now) _ _
    c.requires.keeps c.take_out.ensures.entries c.drop_task.ensures.waiting c.drop_task.ensures.held c.drop_task.ensures.keys
    c.wake.ensures.waiting c.wake.ensures.ready c.wake.ensures.held c.wake.ensures.keys

pub returns-clause-fits : goal.returns-clause-fits
returns-clause-fits g c = λ flat f. record {
  queue = fits_room flat _ _ _ _ _ (c.wake.ensures.room ∙ c.take_out.ensures.room)
      (kill_fits (queue_of g.W.Awaits.waiting c.args.self.now) _ _ _ _ c.args.task _ _ _ (g.K.Gpi.content c.args.kernel.now) _ _
      c.requires.keeps c.take_out.ensures.entries c.drop_task.ensures.waiting c.drop_task.ensures.held c.drop_task.ensures.keys
      c.wake.ensures.waiting c.wake.ensures.ready c.wake.ensures.held c.wake.ensures.keys flat _ f.queue);
  still = subst AreStill (sym c.wake.ensures.waiting)
      (woken_still (Ended c.args.task false) _ (subst AreStill (sym c.drop_task.ensures.waiting) (filter_still (λ (w : Waiting). not (is_of c.args.task w)) _ f.still)));
}
