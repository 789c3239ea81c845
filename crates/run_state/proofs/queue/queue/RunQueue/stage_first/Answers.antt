use Rattle.std.proofs.Common.{◌∙◌, sym, ap, subst}
use Rattle.gpi.specs.Content.{Content}
use Rattle.gpi.specs.Keys.{has}
use Rattle.run_state.specs.Queue.Fits.{queue_of}
use Rattle.run_state.specs.Queue.Still.{AreStill}
use Rattle.run_state.proofs.QueueLemmas.ClearLaws.{again_fits, again_keeps, first_fits, first_keeps, first_leads, phase_free, phase_keys, phase_registered}
use Rattle.run_state.proofs.QueueLemmas.FitLaws.{fits_kept, keeps_kept}
use Rattle.run_state.proofs.QueueLemmas.Rekeys.{are_but}
use Rattle.run_state.proofs.queue.queue.RunQueue.stage_first.Goals as goal

pub returns-in_err-hold-clause-keeps : goal.returns-in_err-hold-clause-keeps
returns-in_err-hold-clause-keeps g c = keeps_kept _ _ (queue_of g.W.Awaits.waiting c.args.self.now) (g.K.Gpi.content c.args.kernel.now) _ _
    c.hold.ensures.waiting c.in_err-hold.ensures.err (λ x. ap (λ (k : Content). has x k.keys) c.in_err-hold.ensures.kept) c.requires.keeps

pub returns-in_err-hold-clause-fits : goal.returns-in_err-hold-clause-fits
returns-in_err-hold-clause-fits g c = λ flat sound f. record {
  queue = fits_kept flat _ _ _ (queue_of g.W.Awaits.waiting c.args.self.now) (g.K.Gpi.content c.args.kernel.now) _ _ c.hold.ensures.waiting
      (record { procs = ap (λ (k : Content). k.procs) c.in_err-hold.ensures.kept; nets = ap (λ (k : Content). k.nets) c.in_err-hold.ensures.kept; state = ap (λ (k : Content). k.state) c.in_err-hold.ensures.kept })
      (keeps_kept _ _ (queue_of g.W.Awaits.waiting c.args.self.now) (g.K.Gpi.content c.args.kernel.now) _ _
      c.hold.ensures.waiting c.in_err-hold.ensures.err (λ x. ap (λ (k : Content). has x k.keys) c.in_err-hold.ensures.kept) c.requires.keeps) f.queue;
  still = subst AreStill (sym c.hold.ensures.waiting) f.still;
}

pub release-requires-clause-registered : goal.release-requires-clause-registered
release-requires-clause-registered g c = phase_registered (queue_of g.W.Awaits.waiting c.args.self.now) _ _ _ (g.K.Gpi.content c.args.kernel.now) _
    c.requires.keeps c.hold.ensures.waiting c.in_ok-hold.ensures.ok c.in_ok-hold.ensures.keys

pub release-requires-clause-keys : goal.release-requires-clause-keys
release-requires-clause-keys g c = are_but (g.K.Gpi.content c.hold.new.kernel) _ _ (phase_keys (queue_of g.W.Awaits.waiting c.args.self.now) _ _ _ (g.K.Gpi.content c.args.kernel.now) _
    c.requires.keeps c.hold.ensures.waiting c.in_ok-hold.ensures.ok c.in_ok-hold.ensures.keys)

pub returns-in-Ok-clause-leads : goal.returns-in-Ok-clause-leads
returns-in-Ok-clause-leads g c = first_leads (queue_of g.W.Awaits.waiting c.args.self.now) _ _ c.args.sig c.args.act _ _ (g.K.Gpi.content c.args.kernel.now) _
    c.requires.keeps c.requires.empty c.in-Ok.ensures.ok c.hold.ensures.waiting c.in_ok-hold.ensures.ok c.in_ok-hold.ensures.keys

pub returns-in-Ok-clause-keeps : goal.returns-in-Ok-clause-keeps
returns-in-Ok-clause-keeps g c = first_keeps (queue_of g.W.Awaits.waiting c.args.self.now) _ _ c.args.sig c.args.act _ _ (g.K.Gpi.content c.args.kernel.now) _
    c.requires.keeps c.requires.empty c.in-Ok.ensures.ok c.hold.ensures.waiting c.in_ok-hold.ensures.ok c.in_ok-hold.ensures.keys

pub returns-in-Ok-clause-fits : goal.returns-in-Ok-clause-fits
returns-in-Ok-clause-fits g c = λ flat sound f. record {
  queue = first_fits (queue_of g.W.Awaits.waiting c.args.self.now) _ _ c.args.sig c.args.act _ _ (g.K.Gpi.content c.args.kernel.now) _
      c.requires.keeps c.requires.empty c.in-Ok.ensures.ok c.hold.ensures.waiting c.in_ok-hold.ensures.ok c.in_ok-hold.ensures.keys flat _ sound f.queue;
  still = subst AreStill (sym c.hold.ensures.waiting) f.still;
}

pub returns-in-Err-clause-keeps : goal.returns-in-Err-clause-keeps
returns-in-Err-clause-keeps g c = again_keeps (queue_of g.W.Awaits.waiting c.args.self.now) _ _ _ (g.K.Gpi.content c.args.kernel.now) _
    c.requires.keeps c.hold.ensures.waiting c.in_ok-hold.ensures.ok c.in_ok-hold.ensures.keys _ _ _ _
    (phase_free _ (queue_of g.W.Awaits.waiting c.args.self.now) (g.K.Gpi.content c.args.kernel.now) c.requires.keeps c.requires.empty)
    c.in-Err.ensures.err c.release.ensures.waiting c.release.ensures.held c.release.ensures.keys

pub returns-in-Err-clause-fits : goal.returns-in-Err-clause-fits
returns-in-Err-clause-fits g c = λ flat sound f. record {
  queue = again_fits (queue_of g.W.Awaits.waiting c.args.self.now) _ _ _ (g.K.Gpi.content c.args.kernel.now) _
      c.requires.keeps c.hold.ensures.waiting c.in_ok-hold.ensures.ok c.in_ok-hold.ensures.keys _ _ _ _
      (phase_free _ (queue_of g.W.Awaits.waiting c.args.self.now) (g.K.Gpi.content c.args.kernel.now) c.requires.keeps c.requires.empty)
      c.in-Err.ensures.err c.release.ensures.waiting c.release.ensures.held c.release.ensures.keys flat _ f.queue;
  still = subst AreStill (sym (c.release.ensures.waiting ∙ c.hold.ensures.waiting)) f.still;
}
