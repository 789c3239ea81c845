-- A fault leads to the end of the task, and of the test where no task joins this one.
use Rattle.std.proofs.Common.{sym, ap, ◌∙◌, refl, rules}
use Rattle.py_value.specs.declared.value.Fault.{Fault}
use Rattle.await_tree.specs.EndedTasks.Endings.{with_ending}
use Rattle.await_tree.specs.declared.ended_tasks.ending.Ending.TheVariants.{Failed}
use Rattle.run_state.specs.TestTasks.Tasks.{live_in}
use Rattle.gpi.specs.Content.{Content}
use Rattle.rig_model.specs.Parts.Queue.{Queue}
use Rattle.run_state.specs.Queue.Fits.{queue_of}
use Rattle.scheduler.specs.Parts.{Parts, means, parts_of}
use Rattle.scheduler.proofs.Nexts.{has_places, room_ended}
use Rattle.scheduler.proofs.Leading.{ended_is, fail_joined}
use Rattle.scheduler.proofs.test.RunningTest.fail.Goals as goal

pub wake-requires-clause-room : goal.wake-requires-clause-room
wake-requires-clause-room g c = has_places (means g.M.FlowMaker g.M.Flow.Flow g.W.Awaits) c.args.self.now c.requires.turn.room (g.K.Gpi.content c.args.kernel.now) c.args.task c.requires.turn.stands

pub returns-then-wake-clause-leads : goal.returns-then-wake-clause-leads
returns-then-wake-clause-leads g c =
    let m = means g.M.FlowMaker g.M.Flow.Flow g.W.Awaits in
    let p : Parts = parts_of m c.args.self.now in
    let q : Queue = queue_of g.W.Awaits.waiting c.args.self.now.queue in
    let k : Content = g.K.Gpi.content c.args.kernel.now in
    let p' : Parts = record p { tasks = live_in g.M.Flow.Flow.meaning c.end.new.self; endings = c.end.new.self.ended } in
    record {
      effect = λ setup. fail_joined setup c.args.task p q k p' (queue_of g.W.Awaits.waiting c.wake.new.self) (g.K.Gpi.content c.wake.new.kernel) c.args.fault
          (sym c.wake.ensures.answer ∙ c.if-wake.true)
          (ended_is p c.args.task (Failed c.args.fault) (live_in g.M.Flow.Flow.meaning c.end.new.self) c.end.new.self.ended c.end.ensures.live
          (c.end.ensures.ended ∙ ap (λ (f : Fault). with_ending c.args.task (Failed f) c.args.self.now.tasks.ended) c.in_ok-own.ensures)) c.wake.ensures.leads;
      fine = refl;
      room = room_ended m c.args.self.now c.requires.turn.room _ c.args.task c.end.ensures.whole c.end.ensures.live c.wake.ensures.room;
    }

pub returns-else-wake-clause-leads : goal.returns-else-wake-clause-leads
returns-else-wake-clause-leads g c =
    let m = means g.M.FlowMaker g.M.Flow.Flow g.W.Awaits in
    record {
      effect = search rules;
      fine = refl;
      room = room_ended m c.args.self.now c.requires.turn.room _ c.args.task c.end.ensures.whole c.end.ensures.live c.wake.ensures.room;
    }
