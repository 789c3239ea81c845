-- All is dropped.
use Rattle.std.proofs.Common.{subst}
use Rattle.rig_model.specs.Parts.Queue.{Queue, Leads}
use Rattle.run_state.specs.Queue.Effects.{dropping}
use Rattle.run_state.specs.Queue.Fits.{queue_of}
use Rattle.scheduler.proofs.test.RunningTest.clear.Goals as goal

pub returns-clause-leads : goal.returns-clause-leads
returns-clause-leads g c =
    subst (λ (x : Queue). Leads dropping (queue_of g.W.Awaits.waiting c.args.self.now.queue) (g.K.Gpi.content c.args.kernel.now) x (g.K.Gpi.content c.clear.new.kernel))
    c.clear.ensures.is c.clear.ensures.leads
