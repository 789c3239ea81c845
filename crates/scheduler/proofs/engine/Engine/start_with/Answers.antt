use Rattle.std.specs.Prelude.{option_map}
use Rattle.std.proofs.Common.{ap, refl}
use Rattle.test_meaning.specs.Body.Views.{view_limit}
use Rattle.scheduler.specs.Parts.{means}
use Rattle.scheduler.specs.Setups.{setup_of}
use Rattle.scheduler.proofs.Fitting.{keeps_all}
use Rattle.scheduler.proofs.Begins.{if_ok, own_awaits, own_begins, own_deadline, own_fits, own_limited}
use Rattle.scheduler.proofs.engine.Engine.start_with.Goals as goal

pub set_limit-requires-clause-fits : goal.set_limit-requires-clause-fits
set_limit-requires-clause-fits g c =
    let m = means g.M.FlowMaker g.M.Flow.Flow g.W.Awaits in
    own_fits m c.args.self.now (g.K.Gpi.content c.args.kernel.now) c.requires.fits c.args.self.now.test.random c.requires.empty c.begin.new.self c.args.case.now.func c.args.values c.begin.ensures.stays.maker (c.in_ok-begin.ensures.added (g.K.Gpi.content c.args.kernel.now)) (c.begin.ensures.stays.fits (g.K.Gpi.content c.args.kernel.now) c.args.self.now.teller.flat.now c.requires.fits.test.queue) c.in_ok-begin.ensures.room c.requires.known

pub set_limit-requires-clause-none : goal.set_limit-requires-clause-none
set_limit-requires-clause-none g c =
    let m = means g.M.FlowMaker g.M.Flow.Flow g.W.Awaits in
    own_awaits m c.args.self.now (g.K.Gpi.content c.args.kernel.now) c.requires.fits c.args.self.now.test.random c.requires.empty c.begin.new.self c.args.case.now.func c.args.values c.begin.ensures.stays.maker (c.in_ok-begin.ensures.added (g.K.Gpi.content c.args.kernel.now))

pub set_limit-requires-clause-new : goal.set_limit-requires-clause-new
set_limit-requires-clause-new g c =
    let m = means g.M.FlowMaker g.M.Flow.Flow g.W.Awaits in
    own_deadline m c.args.self.now (g.K.Gpi.content c.args.kernel.now) c.requires.fits c.args.self.now.test.random c.requires.empty c.begin.new.self c.args.case.now.func c.args.values c.begin.ensures.stays.maker (c.in_ok-begin.ensures.added (g.K.Gpi.content c.args.kernel.now))

pub returns-in-None-clause-begins : goal.returns-in-None-clause-begins
returns-in-None-clause-begins g c =
    let m = means g.M.FlowMaker g.M.Flow.Flow g.W.Awaits in
    own_begins m c.args.self.now (g.K.Gpi.content c.args.kernel.now) c.requires.fits c.args.self.now.test.random c.requires.empty c.begin.new.self c.args.case.now.func c.args.values c.begin.ensures.stays.maker (c.in_ok-begin.ensures.added (g.K.Gpi.content c.args.kernel.now)) c.args.self.now.teller.flat.now.step_fs (option_map view_limit c.args.case.now.time) (ap (option_map view_limit) c.in-None.is)

pub returns-in-None-clause-stays : goal.returns-in-None-clause-stays
returns-in-None-clause-stays g c =
    let m = means g.M.FlowMaker g.M.Flow.Flow g.W.Awaits in
    let self = c.args.self.now in
    let k = g.K.Gpi.content c.args.kernel.now in
    record {
      fits = own_fits m c.args.self.now (g.K.Gpi.content c.args.kernel.now) c.requires.fits c.args.self.now.test.random c.requires.empty c.begin.new.self c.args.case.now.func c.args.values c.begin.ensures.stays.maker (c.in_ok-begin.ensures.added (g.K.Gpi.content c.args.kernel.now)) (c.begin.ensures.stays.fits (g.K.Gpi.content c.args.kernel.now) c.args.self.now.teller.flat.now c.requires.fits.test.queue) c.in_ok-begin.ensures.room c.requires.known;
      keeps = keeps_all m g.K.Gpi self.teller.flat.now self _ c.args.kernel.now (ap (λ x. setup_of (g.M.FlowMaker.functions x) self.teller) c.begin.ensures.stays.maker)
          c.requires.loaded (c.begin.ensures.stays.fits k self.teller.flat.now c.requires.fits.test.queue);
      runs = refl;
    }

pub returns-in-Some-clause-begins : goal.returns-in-Some-clause-begins
returns-in-Some-clause-begins g c =
    let m = means g.M.FlowMaker g.M.Flow.Flow g.W.Awaits in
    if_ok c.set_limit.result _ _ (λ fault h.
    own_limited m c.args.self.now (g.K.Gpi.content c.args.kernel.now) c.requires.fits c.args.self.now.test.random c.requires.empty c.begin.new.self c.args.case.now.func c.args.values c.begin.ensures.stays.maker (c.in_ok-begin.ensures.added (g.K.Gpi.content c.args.kernel.now)) c.args.self.now.teller.flat.now.step_fs
    (option_map view_limit c.args.case.now.time) (view_limit c.in-Some.limit) _ (ap (option_map view_limit) c.in-Some.is) h) c.set_limit.ensures.limited
