-- A kill leads on.
use Rattle.std.proofs.Common.{◌≡◌, false, rules, refl}
use Rattle.std.specs.Prelude.{◌==◌}
use Rattle.await_tree.specs.EndedTasks.Endings.{is_done}
use Rattle.await_tree.specs.declared.ended_tasks.ending.Ending.TheVariants.{Killed}
use Rattle.run_state.specs.TestTasks.Tasks.{live_in}
use Rattle.gpi.specs.Content.{Content}
use Rattle.rig_model.specs.Parts.Queue.{Queue}
use Rattle.run_state.specs.Queue.Fits.{queue_of}
use Rattle.scheduler.specs.Parts.{Parts, means, parts_of}
use Rattle.scheduler.proofs.Nexts.{has_places, room_ended}
use Rattle.scheduler.proofs.Leading.{ended_is, kill_leads}
use Rattle.scheduler.proofs.test.RunningTest.kill.Goals as goal

pub kill-requires-clause-room : goal.kill-requires-clause-room
kill-requires-clause-room g c = has_places (means g.M.FlowMaker g.M.Flow.Flow g.W.Awaits) c.args.self.now c.requires.turn.room (g.K.Gpi.content c.args.kernel.now) c.args.task c.requires.turn.stands

pub returns-clause-leads : goal.returns-clause-leads
returns-clause-leads g c =
    let m = means g.M.FlowMaker g.M.Flow.Flow g.W.Awaits in
    let p : Parts = parts_of m c.args.self.now in
    let q : Queue = queue_of g.W.Awaits.waiting c.args.self.now.queue in
    let k : Content = g.K.Gpi.content c.args.kernel.now in
    let apart : (c.args.other.0 == c.args.task.0) ≡ false = search rules in
    let undone : is_done c.args.other c.args.self.now.tasks.ended ≡ false = search rules in
    let p' : Parts = record p { tasks = live_in g.M.Flow.Flow.meaning c.end.new.self; endings = c.end.new.self.ended } in
    record {
      effect = λ setup. kill_leads setup c.args.task p q k p' (queue_of g.W.Awaits.waiting c.kill.new.self) (g.K.Gpi.content c.kill.new.kernel) c.args.other apart undone
          (ended_is p c.args.other Killed (live_in g.M.Flow.Flow.meaning c.end.new.self) c.end.new.self.ended c.end.ensures.live c.end.ensures.ended) c.kill.ensures.leads;
      fine = refl;
      room = room_ended m c.args.self.now c.requires.turn.room _ c.args.other c.end.ensures.whole c.end.ensures.live c.kill.ensures.room;
    }
