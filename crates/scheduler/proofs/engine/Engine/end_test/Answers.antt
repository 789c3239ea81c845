use Rattle.std.proofs.Common.{false}
use Rattle.scheduler.specs.Parts.{means}
use Rattle.scheduler.proofs.Fitting.{cleared_fits, cleared_is}
use Rattle.scheduler.proofs.engine.Engine.end_test.Goals as goal

pub returns-clause-ended : goal.returns-clause-ended
returns-clause-ended g c =
    let m = means g.M.FlowMaker g.M.Flow.Flow g.W.Awaits in
    cleared_is m c.args.self.now (g.K.Gpi.content c.args.kernel.now) (g.K.Gpi.content c.clear.new.kernel) c.clear.new.self c.clear.ensures.parts c.clear.ensures.queue c.clear.ensures.leads

pub returns-clause-fits : goal.returns-clause-fits
returns-clause-fits g c = λ f.
    let m = means g.M.FlowMaker g.M.Flow.Flow g.W.Awaits in
    cleared_fits m c.args.self.now (g.K.Gpi.content c.args.kernel.now) (g.K.Gpi.content c.clear.new.kernel) c.clear.new.self c.clear.ensures.parts c.clear.ensures.queue false f
    c.clear.ensures.maker (c.clear.ensures.fits c.args.self.now.teller.flat.now f.test.queue) c.clear.ensures.room c.clear.ensures.stays.state
