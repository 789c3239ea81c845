-- A return leads to the end of the task, and of the test where the task is its own.
use Rattle.std.proofs.Common.{eq-eqb, refl}
use Rattle.std.proofs.lemmas.Bool.{ne_eqb}
use Rattle.await_tree.specs.declared.ended_tasks.ending.Ending.TheVariants.{Returned}
use Rattle.run_state.specs.TestTasks.Tasks.{live_in}
use Rattle.gpi.specs.Content.{Content}
use Rattle.rig_model.specs.Parts.Queue.{Queue}
use Rattle.run_state.specs.Queue.Fits.{queue_of}
use Rattle.scheduler.specs.Parts.{Parts, means, parts_of}
use Rattle.scheduler.proofs.Nexts.{has_places, room_ended}
use Rattle.scheduler.proofs.Leading.{ended_is, return_over, return_went}
use Rattle.scheduler.proofs.test.RunningTest.finish.Goals as goal

pub wake-requires-clause-room : goal.wake-requires-clause-room
wake-requires-clause-room g c = has_places (means g.M.FlowMaker g.M.Flow.Flow g.W.Awaits) c.args.self.now c.requires.turn.room (g.K.Gpi.content c.args.kernel.now) c.args.task c.requires.turn.stands

pub returns-then-task-eq0-clause-leads : goal.returns-then-task-eq0-clause-leads
returns-then-task-eq0-clause-leads g c =
    let m = means g.M.FlowMaker g.M.Flow.Flow g.W.Awaits in
    let p : Parts = parts_of m c.args.self.now in
    let q : Queue = queue_of g.W.Awaits.waiting c.args.self.now.queue in
    let k : Content = g.K.Gpi.content c.args.kernel.now in
    let p' : Parts = record p { tasks = live_in g.M.Flow.Flow.meaning c.end.new.self; endings = c.end.new.self.ended } in
    record {
      effect = λ setup. return_over setup c.args.task p q k p' (queue_of g.W.Awaits.waiting c.wake.new.self) (g.K.Gpi.content c.wake.new.kernel) c.args.value
          (eq-eqb c.args.task.0 0 c.if-task-eq0.true)
          (ended_is p c.args.task (Returned c.args.value) (live_in g.M.Flow.Flow.meaning c.end.new.self) c.end.new.self.ended c.end.ensures.live c.end.ensures.ended) c.wake.ensures.leads;
      fine = refl;
      room = room_ended m c.args.self.now c.requires.turn.room _ c.args.task c.end.ensures.whole c.end.ensures.live c.wake.ensures.room;
    }

pub returns-else-task-eq0-clause-leads : goal.returns-else-task-eq0-clause-leads
returns-else-task-eq0-clause-leads g c =
    let m = means g.M.FlowMaker g.M.Flow.Flow g.W.Awaits in
    let p : Parts = parts_of m c.args.self.now in
    let q : Queue = queue_of g.W.Awaits.waiting c.args.self.now.queue in
    let k : Content = g.K.Gpi.content c.args.kernel.now in
    let p' : Parts = record p { tasks = live_in g.M.Flow.Flow.meaning c.end.new.self; endings = c.end.new.self.ended } in
    record {
      effect = λ setup. return_went setup c.args.task p q k p' (queue_of g.W.Awaits.waiting c.wake.new.self) (g.K.Gpi.content c.wake.new.kernel) c.args.value
          (ne_eqb c.args.task.0 0 c.if-task-eq0.false)
          (ended_is p c.args.task (Returned c.args.value) (live_in g.M.Flow.Flow.meaning c.end.new.self) c.end.new.self.ended c.end.ensures.live c.end.ensures.ended) c.wake.ensures.leads;
      fine = refl;
      room = room_ended m c.args.self.now c.requires.turn.room _ c.args.task c.end.ensures.whole c.end.ensures.live c.wake.ensures.room;
    }
