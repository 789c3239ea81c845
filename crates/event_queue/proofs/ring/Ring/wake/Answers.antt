use Rattle.std.proofs.Common.{rules, arith, ◌≡◌, ◌∙◌, ◌<◌, sym, ap, refl, length, get_or, false}
use Rattle.event_queue.specs.Active.{IsRing, Active}
use Rattle.event_queue.proofs.Pushed.{ring_push, fits, pushed}
use Rattle.event_queue.proofs.ring.Ring.wake.Goals as goal

inside : (c : goal.After-push_back) → c.args.process < length c.self.inside.flags.items
inside c = let e : length c.self.inside.flags.items ≡ c.args.self.now.count = ap (λ (a : Active). a.count) c.self.view_is in let h = c.requires in omega arith

unset : (c : goal.After-push_back) → get_or c.self.inside.flags.items c.args.process false ≡ false
unset c = sym (rw c.if-index.false at c.index.ensures)

pub invariant_of-self : goal.invariant_of-self
invariant_of-self c =
    let g = fits c.self.inside.order.items c.self.inside.flags.items c.args.process c.self.inside.order.capacity c.self.invariant (inside c) (unset c) in
    rw (c.push_back.ensures.items, g) (ring_push c.self.inside.order.items c.self.inside.flags.items c.args.process c.self.inside.order.capacity c.self.invariant (inside c) (unset c))

pub returns-clause-is : goal.returns-clause-is
returns-clause-is c =
    let g = fits c.self.inside.order.items c.self.inside.flags.items c.args.process c.self.inside.order.capacity c.self.invariant (inside c) (unset c) in
    rw (c.push_back.ensures.items, g) (pushed c.args.self.now c.self.inside.order.items c.self.inside.flags.items c.args.process c.self.inside.order.capacity c.self.view_is c.self.invariant (inside c) (unset c))
