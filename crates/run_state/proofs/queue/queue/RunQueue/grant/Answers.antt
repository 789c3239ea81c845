use Rattle.std.proofs.Common.{◌∙◌, sym, subst}
use Rattle.run_state.specs.Queue.Fits.{queue_of}
use Rattle.run_state.specs.Queue.Still.{AreStill}
use Rattle.run_state.proofs.QueueLemmas.CallLaws.{grant_fits, grant_keeps, grant_leads, grant_none}
use Rattle.run_state.proofs.QueueLemmas.FitLaws.{fits_room}
use Rattle.run_state.proofs.QueueLemmas.StillLaws.{granted_still}
use Rattle.run_state.proofs.queue.queue.RunQueue.grant.Goals as goal

pub returns-clause-leads : goal.returns-clause-leads
returns-clause-leads g c = grant_leads (queue_of g.W.Awaits.waiting c.args.self.now) _ _ c.args.lock _ _ (g.K.Gpi.content c.args.kernel.now) _
    c.requires.keeps c.grant.ensures.waiting c.grant.ensures.ready c.grant.ensures.held c.grant.ensures.keys

pub returns-clause-none : goal.returns-clause-none
returns-clause-none g c = λ n. grant_none (queue_of g.W.Awaits.waiting c.args.self.now) _ _ c.args.lock _ _ (g.K.Gpi.content c.args.kernel.now) _
    c.requires.keeps c.grant.ensures.waiting c.grant.ensures.ready c.grant.ensures.held c.grant.ensures.keys (sym c.grant.ensures.answer ∙ n)

pub returns-clause-keeps : goal.returns-clause-keeps
returns-clause-keeps g c = grant_keeps (queue_of g.W.Awaits.waiting c.args.self.now) _ _ c.args.lock _ _ (g.K.Gpi.content c.args.kernel.now) _
    c.requires.keeps c.grant.ensures.waiting c.grant.ensures.ready c.grant.ensures.held c.grant.ensures.keys

pub returns-clause-fits : goal.returns-clause-fits
returns-clause-fits g c = λ flat f. record {
  queue = fits_room flat _ _ _ _ _ c.grant.ensures.room
      (grant_fits (queue_of g.W.Awaits.waiting c.args.self.now) _ _ c.args.lock _ _ (g.K.Gpi.content c.args.kernel.now) _
      c.requires.keeps c.grant.ensures.waiting c.grant.ensures.ready c.grant.ensures.held c.grant.ensures.keys flat _ f.queue);
  still = subst AreStill (sym c.grant.ensures.waiting) (granted_still c.args.lock _ f.still);
}
