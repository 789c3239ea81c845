-- A task that waits, or goes on at once.
use Rattle.std.proofs.Common.{◌≡◌, refl, sym, ap, ◌∙◌, None, Some}
use Rattle.gpi.specs.Content.{Content}
use Rattle.await_tree.specs.declared.cause.Given.{Given}
use Rattle.await_tree.specs.Check.{check}
use Rattle.await_tree.specs.Whole.{tree_in}
use Rattle.rig_model.specs.Run.Effect.{goes_on}
use Rattle.rig_model.specs.Parts.Queue.{Queue}
use Rattle.run_state.specs.Queue.Fits.{queue_of}
use Rattle.scheduler.specs.Parts.{Parts, means, parts_of, rig_by, rig_of}
use Rattle.scheduler.proofs.Leading.{with_objects}
use Rattle.scheduler.proofs.Nexts.{has_place, room_same}
use Rattle.scheduler.proofs.Waiting.{check_now, tree_now, tree_knows, done_started, left_is, left_asked, wait_done, wait_still, few_wait, waits_not}
use Rattle.scheduler.proofs.test.RunningTest.wait.Goals as goal

pub begin_tree-requires : goal.begin_tree-requires
begin_tree-requires g c =
    let m = means g.M.FlowMaker g.M.Flow.Flow g.W.Awaits in
    let p : Parts = parts_of m c.args.self.now in
    let q : Queue = queue_of g.W.Awaits.waiting c.args.self.now.queue in
    let k : Content = g.K.Gpi.content c.args.kernel.now in
    let is = tree_now c.args.trig c.now.result c.region.result k c.now.ensures c.region.ensures (tree_in c.in-Ok.tree) c.in-Ok.ensures.tree in
    rw c.ended.ensures (tree_knows (rig_of m c.args.self.now k) c.args.trig c.requires.known (tree_in c.in-Ok.tree) is)

pub told-requires : goal.told-requires
told-requires g c =
    let m = means g.M.FlowMaker g.M.Flow.Flow g.W.Awaits in
    let p : Parts = parts_of m c.args.self.now in
    let q : Queue = queue_of g.W.Awaits.waiting c.args.self.now.queue in
    let k : Content = g.K.Gpi.content c.args.kernel.now in
    let is = tree_now c.args.trig c.now.result c.region.result k c.now.ensures c.region.ensures (tree_in c.in-Ok.tree) c.in-Ok.ensures.tree in
    done_started (rig_of m c.args.self.now k) c.args.trig c.requires.known (tree_in c.in-Ok.tree) is c.in-Done.given (rw c.ended.ensures at c.in-Done.ensures.answer)

pub returns-in-Done-clause-leads : goal.returns-in-Done-clause-leads
returns-in-Done-clause-leads g c =
    let m = means g.M.FlowMaker g.M.Flow.Flow g.W.Awaits in
    let p : Parts = parts_of m c.args.self.now in
    let q : Queue = queue_of g.W.Awaits.waiting c.args.self.now.queue in
    let k : Content = g.K.Gpi.content c.args.kernel.now in
    let is = tree_now c.args.trig c.now.result c.region.result k c.now.ensures c.region.ensures (tree_in c.in-Ok.tree) c.in-Ok.ensures.tree in
    let good : check c.args.trig k.state.time k.state.region ≡ None
    = sym (check_now c.args.trig c.now.result c.region.result k c.now.ensures c.region.ensures) ∙ c.in-Ok.ensures.good in
    record {
      effect = λ setup. wait_done setup c.args.task c.args.trig p q k good (tree_in c.in-Ok.tree) is c.begin_tree.new.objects (rw c.ended.ensures at c.begin_tree.ensures.objects)
          c.in-Done.given (rw c.ended.ensures at c.in-Done.ensures.answer)
          ∙ ap (λ (x : Given). goes_on c.args.task (Some x) (rig_by (with_objects c.begin_tree.new.objects p) q k)) (sym c.in_ok-told-in-Done.ensures.is);
      fine = refl;
      room = room_same m c.args.self.now c.requires.turn.room _ refl refl;
    }

pub wait-requires-clause-room : goal.wait-requires-clause-room
wait-requires-clause-room g c = has_place (means g.M.FlowMaker g.M.Flow.Flow g.W.Awaits) c.args.self.now c.requires.turn.room (g.K.Gpi.content c.args.kernel.now) c.args.task c.requires.turn.stands

pub wait-requires-clause-new : goal.wait-requires-clause-new
wait-requires-clause-new g c = waits_not c.args.task (rig_of (means g.M.FlowMaker g.M.Flow.Flow g.W.Awaits) c.args.self.now (g.K.Gpi.content c.args.kernel.now)) c.requires.turn.stands

pub wait-requires-clause-few : goal.wait-requires-clause-few
wait-requires-clause-few g c = few_wait c.args.task (rig_of (means g.M.FlowMaker g.M.Flow.Flow g.W.Awaits) c.args.self.now (g.K.Gpi.content c.args.kernel.now)) c.requires.turn.stands

pub wait-requires-clause-asked : goal.wait-requires-clause-asked
wait-requires-clause-asked g c =
    let m = means g.M.FlowMaker g.M.Flow.Flow g.W.Awaits in
    let p : Parts = parts_of m c.args.self.now in
    let q : Queue = queue_of g.W.Awaits.waiting c.args.self.now.queue in
    let k : Content = g.K.Gpi.content c.args.kernel.now in
    let is = tree_now c.args.trig c.now.result c.region.result k c.now.ensures c.region.ensures (tree_in c.in-Ok.tree) c.in-Ok.ensures.tree in
    let good : check c.args.trig k.state.time k.state.region ≡ None
    = sym (check_now c.args.trig c.now.result c.region.result k c.now.ensures c.region.ensures) ∙ c.in-Ok.ensures.good in
    left_asked (rig_of m c.args.self.now k) c.args.trig c.requires.known (tree_in c.in-Ok.tree) is (tree_in c.begin_tree.new.tree)
    (rw c.ended.ensures at c.in-Still.ensures.answer) (rw c.ended.ensures at c.begin_tree.ensures.rest) k refl good

pub returns-clause-leads : goal.returns-clause-leads
returns-clause-leads g c =
    let m = means g.M.FlowMaker g.M.Flow.Flow g.W.Awaits in
    let p : Parts = parts_of m c.args.self.now in
    let q : Queue = queue_of g.W.Awaits.waiting c.args.self.now.queue in
    let k : Content = g.K.Gpi.content c.args.kernel.now in
    let is = tree_now c.args.trig c.now.result c.region.result k c.now.ensures c.region.ensures (tree_in c.in-Ok.tree) c.in-Ok.ensures.tree in
    let good : check c.args.trig k.state.time k.state.region ≡ None
    = sym (check_now c.args.trig c.now.result c.region.result k c.now.ensures c.region.ensures) ∙ c.in-Ok.ensures.good in
    let still = rw c.ended.ensures at c.in-Still.ensures.answer in
    let rest = rw c.ended.ensures at c.begin_tree.ensures.rest in
    record {
      effect = λ setup. wait_still setup c.args.task c.args.trig p q k good (tree_in c.in-Ok.tree) is c.begin_tree.new.objects (rw c.ended.ensures at c.begin_tree.ensures.objects)
          (tree_in c.begin_tree.new.tree) (queue_of g.W.Awaits.waiting c.wait.new.self) (g.K.Gpi.content c.wait.new.kernel) still
          (left_is (rig_of m c.args.self.now k) c.args.trig c.requires.known (tree_in c.in-Ok.tree) is (tree_in c.begin_tree.new.tree) still rest)
          c.in_ok-wait-in-Still.ensures.leads;
      fine = refl;
      room = room_same m c.args.self.now c.requires.turn.room _ refl c.wait.ensures.room;
    }
