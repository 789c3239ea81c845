use Rattle.std.proofs.Common.{◌≡◌, ◌<◌, ℕ, length, ap, subst}
use Rattle.event_queue.specs.Active.{Active}
use Rattle.event_queue.proofs.Pushed.{first_below}
use Rattle.event_queue.proofs.ring.Ring.first.Goals as goal

pub returns-in-Some-clause-known : goal.returns-in-Some-clause-known
returns-in-Some-clause-known c =
    subst (λ (n : ℕ). c.in-Some.process.now < n) (ap (λ (a : Active). a.count) c.self.view_is)
    (first_below c.self.inside.order.items c.in-Some.process.now (length c.self.inside.flags.items) c.in-Some.ensures c.self.invariant.below)
