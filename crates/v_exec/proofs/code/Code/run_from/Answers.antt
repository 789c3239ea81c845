use Rattle.std.proofs.Common.{◌≡◌, ℕ, ◌+◌, ◌≤◌, List, length, vec_len, vec_capacity, sym, ap, subst, ◌∙◌, arith}
use Rattle.gpi.specs.Terms.{widths_of}
use Rattle.gpi.specs.Targets.{AreFitting}
use Rattle.v_exec.specs.Machine.{Machine, exec}
use Rattle.v_exec.specs.Fits.{Shape, Takes, Fits, leaves, leaves_stack, stores_after}
use Rattle.v_exec.specs.Code.{room_of, code_at}
use Rattle.v_exec.specs.Stack.{stack_of, stack_room}
use Rattle.v_exec.specs.Running.{machine_of, spare, shape_of, IsAt}
use Rattle.v_exec.proofs.Steps.{takes_left, here_fit, step_fit, next_fit, next_exec, stores_sum, stores_few}
use Rattle.v_exec.proofs.code.Code.run_from.Goals as goal

pub index-requires : goal.index-requires
index-requires g c =
    let a = c.loop-passed.invariant.there.1 in
    let s : Shape = record { stack = widths_of (stack_of c.loop-passed.work.stack); stores = c.loop-passed.invariant.there.0 } in
    let inside = here_fit (room_of c.args.self.now) (widths_of c.args.shown.now) c.args.self.now.instructions.items c.loop-passed.at s a.fit in
    omega arith

pub step-requires : goal.step-requires
step-requires g c =
    let is = c.args.self.now.instructions.items in
    let at = c.loop-passed.at in
    let i = c.index.result.now in
    let v = c.loop-passed.invariant in
    let done = v.there.0 in
    let a = v.there.1 in
    let room = room_of c.args.self.now in
    let ws = widths_of c.args.shown.now in
    let s : Shape = record { stack = widths_of (stack_of c.loop-passed.work.stack); stores = done } in
    let inside = here_fit room ws is at s a.fit in
    let fit = step_fit room ws is at i s inside c.index.ensures a.fit in
    let left = spare c.loop-passed.work (vec_len c.loop-passed.later) (vec_capacity c.loop-passed.later) in
    let enough : room.stores ≤ done + left = omega arith in
    let takes = takes_left i room ws s (stack_room c.loop-passed.work.stack) left fit.0 a.depth enough in
    (v.running, (subst (λ (x : List ℕ). AreFitting c.loop-passed.later.items x) (sym v.widths) v.fits, subst (λ (x : List ℕ). Takes i (record { depth = stack_room c.loop-passed.work.stack; stores = left }) x (shape_of (stack_of c.loop-passed.work.stack))) (sym v.widths) takes))

pub overflow_add-at : goal.overflow_add-at
overflow_add-at g c =
    let is = c.args.self.now.instructions.items in
    let at = c.loop-passed.at in
    let i = c.index.result.now in
    let v = c.loop-passed.invariant in
    let done = v.there.0 in
    let a = v.there.1 in
    let room = room_of c.args.self.now in
    let ws = widths_of c.args.shown.now in
    let s : Shape = record { stack = widths_of (stack_of c.loop-passed.work.stack); stores = done } in
    let inside = here_fit room ws is at s a.fit in
    let fit = step_fit room ws is at i s inside c.index.ensures a.fit in
    let m = machine_of c.loop-passed.work c.loop-passed.shown c.loop-passed.hidden c.loop-passed.later.items in
    let goes = sym c.step.ensures.goes ∙ c.in-Some.is in
    let next = next_fit room ws is at i (leaves i ws s) m c.in-Some.passed fit.1 goes in
    let there = here_fit room ws is (at + (1 + c.in-Some.passed)) (leaves i ws s) next in
    omega (arith, there, c.args.self.now.instructions.ok)

pub overflow_add-at-in-Some : goal.overflow_add-at-in-Some
overflow_add-at-in-Some g c =
    let is = c.args.self.now.instructions.items in
    let at = c.loop-passed.at in
    let i = c.index.result.now in
    let v = c.loop-passed.invariant in
    let done = v.there.0 in
    let a = v.there.1 in
    let room = room_of c.args.self.now in
    let ws = widths_of c.args.shown.now in
    let s : Shape = record { stack = widths_of (stack_of c.loop-passed.work.stack); stores = done } in
    let inside = here_fit room ws is at s a.fit in
    let fit = step_fit room ws is at i s inside c.index.ensures a.fit in
    let m = machine_of c.loop-passed.work c.loop-passed.shown c.loop-passed.hidden c.loop-passed.later.items in
    let goes = sym c.step.ensures.goes ∙ c.in-Some.is in
    let next = next_fit room ws is at i (leaves i ws s) m c.in-Some.passed fit.1 goes in
    let there = here_fit room ws is (at + (1 + c.in-Some.passed)) (leaves i ws s) next in
    omega (arith, there, c.args.self.now.instructions.ok)

pub loop-passed-preserved : goal.loop-passed-preserved
loop-passed-preserved g c =
    let is = c.args.self.now.instructions.items in
    let at = c.loop-passed.at in
    let i = c.index.result.now in
    let v = c.loop-passed.invariant in
    let done = v.there.0 in
    let a = v.there.1 in
    let room = room_of c.args.self.now in
    let ws = widths_of c.args.shown.now in
    let s : Shape = record { stack = widths_of (stack_of c.loop-passed.work.stack); stores = done } in
    let inside = here_fit room ws is at s a.fit in
    let fit = step_fit room ws is at i s inside c.index.ensures a.fit in
    let m = machine_of c.loop-passed.work c.loop-passed.shown c.loop-passed.hidden c.loop-passed.later.items in
    let goes = sym c.step.ensures.goes ∙ c.in-Some.is in
    let next = next_fit room ws is at i (leaves i ws s) m c.in-Some.passed fit.1 goes in
    let shape : leaves_stack i ws s.stack ≡ widths_of (stack_of c.step.new.work.stack) =
    ap (λ (x : List ℕ). leaves_stack i x s.stack) (sym v.widths) ∙ sym c.step.ensures.shape in
    let sum = stores_sum i done in
    let few = stores_few i room ws s fit.0 a.bounded in
    let grows = c.step.ensures.grows in
    let here : IsAt c.args.self.now ws (at + (1 + c.in-Some.passed)) c.step.new.work (length c.args.later.now.items) (length c.step.new.later.items) (vec_capacity c.step.new.later) (stores_after i done) =
    record {
      fit = subst (λ (x : List ℕ). Fits room ws (code_at c.args.self.now (at + (1 + c.in-Some.passed))) 0 (record { stack = x; stores = stores_after i done })) shape next;
      bounded = few;
      waits = omega (arith, sum, a.waits, c.step.ensures.few);
      counts = omega (arith, sum, a.counts, grows.counts);
      depth = omega (arith, a.depth, grows.stack_space);
      noted_space = omega (arith, a.noted_space, grows.noted_space);
      touched_space = omega (arith, a.touched_space, grows.touched_space);
      later_space = omega (arith, a.later_space, c.step.ensures.room);
    } in
    record {
      there = (stores_after i done, here);
      running = c.step.ensures.running;
      fits = subst (λ (x : List ℕ). AreFitting c.step.new.later.items x) v.widths c.step.ensures.fits;
      widths = c.step.ensures.widths ∙ v.widths;
      later_space = c.step.ensures.room ∙ v.later_space;
      stack_space = grows.stack_space ∙ v.stack_space;
      noted_space = grows.noted_space ∙ v.noted_space;
      touched_space = grows.touched_space ∙ v.touched_space;
      is = ap (λ (x : Machine). exec (code_at c.args.self.now (at + (1 + c.in-Some.passed))) 0 x) c.step.ensures.is
          ∙ (sym (next_exec is at i m c.in-Some.passed inside c.index.ensures goes) ∙ v.is);
    }
