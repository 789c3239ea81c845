use Rattle.std.proofs.Common.{◌∙◌, sym}
use Rattle.run_state.specs.Queue.Fits.{queue_of}
use Rattle.run_state.proofs.QueueLemmas.ClearLaws.{more_fits, more_leads}
use Rattle.run_state.proofs.QueueLemmas.HeldLaws.{some_staged}
use Rattle.run_state.proofs.queue.queue.RunQueue.stage.Goals as goal

pub returns-in_ok-stage-clause-leads : goal.returns-in_ok-stage-clause-leads
returns-in_ok-stage-clause-leads g c = more_leads (queue_of g.W.Awaits.waiting c.args.self.now) _ c.args.sig c.args.act _ (g.K.Gpi.content c.args.kernel.now)
    c.requires.keeps (some_staged _ (sym c.is_empty.ensures ∙ c.if-is_empty.false)) c.in_ok-stage.ensures.ok

pub returns-in_ok-stage-clause-fits : goal.returns-in_ok-stage-clause-fits
returns-in_ok-stage-clause-fits g c = λ flat sound f. record {
  queue = more_fits (queue_of g.W.Awaits.waiting c.args.self.now) _ c.args.sig c.args.act _ (g.K.Gpi.content c.args.kernel.now)
      c.requires.keeps (some_staged _ (sym c.is_empty.ensures ∙ c.if-is_empty.false)) c.in_ok-stage.ensures.ok flat _ sound f.queue;
  still = f.still;
}
