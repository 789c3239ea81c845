use Rattle.std.specs.Prelude.{◌≡◌, ◌+◌, ◌≤◌}
use Rattle.std.proofs.Common.{sym, refl}
use Rattle.await_tree.specs.Check.{last_time}
use Rattle.run_state.specs.Queue.Fits.{queue_of}
use Rattle.scheduler.specs.Parts.{means, parts_of}
use Rattle.scheduler.proofs.Begins.{deadline_fits, due_is, on_ok, some_deadline}
use Rattle.scheduler.proofs.engine.Engine.set_steps.Goals as goal

pub returns-in-Some-clause-limited : goal.returns-in-Some-clause-limited
returns-in-Some-clause-limited g c =
    let m = means g.M.FlowMaker g.M.Flow.Flow g.W.Awaits in
    let self = c.args.self.now in
    on_ok c.set_deadline.result _ _
    (some_deadline (parts_of m self.test) (queue_of m.waiting self.test.queue) (queue_of m.waiting c.set_deadline.new.self) (g.K.Gpi.content c.args.kernel.now) (g.K.Gpi.content c.set_deadline.new.kernel)
    c.args.after c.now.result c.in-Some.due c.now.ensures (sym c.in-Some.ensures))
    c.set_deadline.ensures.leads

pub returns-in-Some-clause-stays : goal.returns-in-Some-clause-stays
returns-in-Some-clause-stays g c =
    let m = means g.M.FlowMaker g.M.Flow.Flow g.W.Awaits in
    let self = c.args.self.now in
    let due : (c.in-Some.due ≡ c.now.result + c.args.after) × (c.in-Some.due ≤ last_time) = due_is (c.now.result + c.args.after) c.in-Some.due (sym c.in-Some.ensures) in
    record {
      fits = on_ok c.set_deadline.result _ _
          (deadline_fits m self (g.K.Gpi.content c.args.kernel.now) (g.K.Gpi.content c.set_deadline.new.kernel) c.requires.fits c.set_deadline.new.self c.in-Some.due due.1
          (c.set_deadline.ensures.fits self.teller.flat.now c.requires.fits.test.queue) c.set_deadline.ensures.room c.set_deadline.ensures.stays.state)
          c.set_deadline.ensures.leads;
      keeps = record { setup = refl; loaded = c.set_deadline.ensures.loaded; keys = c.set_deadline.ensures.keeps };
      runs = refl;
    }
