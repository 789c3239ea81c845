use Rattle.std.proofs.Common.{sym, subst}
use Rattle.await_tree.specs.Whole.{tree_in}
use Rattle.run_state.specs.Queue.Fits.{queue_of}
use Rattle.run_state.specs.Queue.Still.{AreStill}
use Rattle.run_state.proofs.QueueLemmas.CallLaws.{wait_fits, wait_keeps, wait_leads}
use Rattle.run_state.proofs.QueueLemmas.FitLaws.{fits_kept, keeps_kept}
use Rattle.run_state.proofs.QueueLemmas.StillLaws.{begun_still}
use Rattle.run_state.proofs.queue.queue.RunQueue.wait.Goals as goal

pub returns-in_err-begin-clause-keeps : goal.returns-in_err-begin-clause-keeps
returns-in_err-begin-clause-keeps g c = keeps_kept _ _ (queue_of g.W.Awaits.waiting c.args.self.now) (g.K.Gpi.content c.args.kernel.now) _ _
    c.in_err-begin.ensures.err c.begin.ensures.held c.in_err-begin.ensures.kept.keys c.requires.keeps

pub returns-in_err-begin-clause-fits : goal.returns-in_err-begin-clause-fits
returns-in_err-begin-clause-fits g c = λ flat f. record {
  queue = fits_kept flat _ _ _ (queue_of g.W.Awaits.waiting c.args.self.now) (g.K.Gpi.content c.args.kernel.now) _ _
      c.in_err-begin.ensures.err (record { procs = c.in_err-begin.ensures.kept.procs; nets = c.in_err-begin.ensures.kept.nets; state = c.in_err-begin.ensures.kept.state })
      (keeps_kept _ _ (queue_of g.W.Awaits.waiting c.args.self.now) (g.K.Gpi.content c.args.kernel.now) _ _
      c.in_err-begin.ensures.err c.begin.ensures.held c.in_err-begin.ensures.kept.keys c.requires.keeps) f.queue;
  still = subst AreStill (sym c.in_err-begin.ensures.err) f.still;
}

pub returns-clause-leads : goal.returns-clause-leads
returns-clause-leads g c = wait_leads (queue_of g.W.Awaits.waiting c.args.self.now) _ c.args.task (tree_in c.args.tree) _ _ (g.K.Gpi.content c.args.kernel.now) _
    c.requires.keeps c.in_ok-begin.ensures.ok c.begin.ensures.held c.in_ok-begin.ensures.keys

pub returns-clause-keeps : goal.returns-clause-keeps
returns-clause-keeps g c = wait_keeps (queue_of g.W.Awaits.waiting c.args.self.now) _ c.args.task (tree_in c.args.tree) _ _ (g.K.Gpi.content c.args.kernel.now) _
    c.requires.keeps c.in_ok-begin.ensures.ok c.begin.ensures.held c.in_ok-begin.ensures.keys

pub returns-clause-fits : goal.returns-clause-fits
returns-clause-fits g c = λ flat f. record {
  queue = wait_fits (queue_of g.W.Awaits.waiting c.args.self.now) _ c.args.task (tree_in c.args.tree) _ _ (g.K.Gpi.content c.args.kernel.now) _
      c.requires.keeps c.in_ok-begin.ensures.ok c.begin.ensures.held c.in_ok-begin.ensures.keys flat _ f.queue c.requires.room;
  still = subst AreStill (sym c.in_ok-begin.ensures.ok) (begun_still c.args.task (tree_in c.args.tree) _ c.requires.begun f.still);
}
