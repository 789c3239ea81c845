use Rattle.std.proofs.Common.{[], ap, sym, subst, arith, ◌∙◌}
use Rattle.await_tree.specs.SyncObjects.States.{none}
use Rattle.gpi.specs.Content.{opening}
use Rattle.run_view.specs.RandomStream.Generator.{seeded}
use Rattle.rig_model.specs.Task.Known.{AreSoundFunctions}
use Rattle.rig_model.specs.Parts.Queue.{Queue}
use Rattle.run_state.specs.Queue.Fits.{queue_of}
use Rattle.scheduler.specs.Parts.{Parts, means, rig_by}
use Rattle.scheduler.proofs.Fitting.{bare_fits, opening_bare}
use Rattle.scheduler.proofs.engine.Engine.new.Goals as goal

pub returns-clause-empty : goal.returns-clause-empty
returns-clause-empty g c = λ content.
    let test = c.in_ok-new-2.ensures in
    ap (λ (p : Parts). rig_by p (queue_of g.W.Awaits.waiting c.in_ok-new-2.field-0.queue) content) test.parts
    ∙ ap (λ (q : Queue). rig_by (record { tasks = []; endings = []; objects = none; queues = []; random = seeded c.args.seed }) q content) test.queue

pub returns-clause-fits : goal.returns-clause-fits
returns-clause-fits g c = λ sound functions.
    let m = means g.M.FlowMaker g.M.Flow.Flow g.W.Awaits in
    let test = c.in_ok-new-2.ensures in
    let k = opening c.args.flat.now in
    bare_fits m _ k (seeded c.args.seed) sound c.in_ok-new.ensures (subst (λ x. AreSoundFunctions (g.M.FlowMaker.functions x)) (sym test.maker) functions)
    (test.fits c.args.flat.now k (opening_bare c.args.flat.now)) test.room (record { time = omega arith; updates = tt })
    (ap (λ (p : Parts). rig_by p (queue_of g.W.Awaits.waiting c.in_ok-new-2.field-0.queue) k) test.parts ∙ ap (λ (q : Queue). rig_by (record { tasks = []; endings = []; objects = none; queues = []; random = seeded c.args.seed }) q k) test.queue)
