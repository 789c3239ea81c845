use Rattle.std.specs.Prelude.{◌+◌, ◌≤◌, ℕ}
use Rattle.std.proofs.Common.{ap, arith}
use Rattle.gpi.specs.Limits.{latest_time}
use Rattle.scheduler.specs.Parts.{means}
use Rattle.scheduler.proofs.Begins.{by_answer, on_err, on_ok, planned_fits, planned_is, unplanned_fits, unplanned_is}
use Rattle.scheduler.proofs.engine.Engine.plan_start.Goals as goal

pub returns-clause-planned : goal.returns-clause-planned
returns-clause-planned g c =
    let m = means g.M.FlowMaker g.M.Flow.Flow g.W.Awaits in
    let k = g.K.Gpi.content c.args.kernel.now in
    on_ok c.plan_start.result _ _ (planned_is m c.args.self.now k (g.K.Gpi.content c.plan_start.new.kernel) c.requires.fits c.plan_start.new.self (c.now-due.result + 1) (ap (λ (n : ℕ). n + 1) c.now-due.ensures))
    c.plan_start.ensures.leads

pub returns-clause-kept : goal.returns-clause-kept
returns-clause-kept g c =
    let m = means g.M.FlowMaker g.M.Flow.Flow g.W.Awaits in
    on_err c.plan_start.result _ _
    (unplanned_is m c.args.self.now (g.K.Gpi.content c.args.kernel.now) (g.K.Gpi.content c.plan_start.new.kernel) c.requires.fits c.plan_start.new.self c.plan_start.ensures.stays.state)
    c.plan_start.ensures.kept

pub returns-clause-fits : goal.returns-clause-fits
returns-clause-fits g c =
    let m = means g.M.FlowMaker g.M.Flow.Flow g.W.Awaits in
    let k = g.K.Gpi.content c.args.kernel.now in
    let k' = g.K.Gpi.content c.plan_start.new.kernel in
    let late : c.now-due.result + 1 ≤ latest_time = omega (arith, c.now-due.ensures, c.requires.early) in
    by_answer c.plan_start.result _ _ _
    (planned_fits m c.args.self.now k k' c.requires.fits c.plan_start.new.self (c.now-due.result + 1) late (c.plan_start.ensures.fits c.args.self.now.teller.flat.now c.requires.fits.test.queue) c.plan_start.ensures.room c.plan_start.ensures.stays.state)
    (unplanned_fits m c.args.self.now k k' c.requires.fits c.plan_start.new.self (c.plan_start.ensures.fits c.args.self.now.teller.flat.now c.requires.fits.test.queue) c.plan_start.ensures.room c.plan_start.ensures.stays.state)
    c.plan_start.ensures.leads c.plan_start.ensures.kept
