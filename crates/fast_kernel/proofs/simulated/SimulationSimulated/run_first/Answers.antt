use Rattle.std.proofs.Common.{◌≡◌, ◌<◌, ◌∷◌, length, ap, sym, subst}
use Rattle.gpi.specs.Content.{Content}
use Rattle.event_queue.specs.Queues.{held}
use Rattle.fast_kernel.specs.Kernel.{content_of}
use Rattle.fast_kernel.proofs.Ran.{process_inside, next_rest, next_content, ran_content, some_from}
use Rattle.fast_kernel.proofs.simulated.SimulationSimulated.run_first.Goals as goal

pub run_body-requires-clause-below : goal.run_body-requires-clause-below
run_body-requires-clause-below c = process_inside c.args.self.now c.in-Some.process c.requires.held c.in-Some.ensures.known

pub end_activation-requires-clause-below : goal.end_activation-requires-clause-below
end_activation-requires-clause-below c =
    subst (λ hs. c.in-Some.process < length hs.items) (sym c.run_body.ensures.headers) (process_inside c.args.self.now c.in-Some.process c.requires.held c.in-Some.ensures.known)

pub returns-in-Ok-clause-is : goal.returns-in-Ok-clause-is
returns-in-Ok-clause-is c =
    let s = c.args.self.now in
    let b = content_of s in
    let t = c.run_body.new.self in
    let p = c.in-Some.process in
    let rest = (held c.next.new.self).active in
    let e = content_of c.end_activation.new.self in
    let m = c.in-Ok.ensures.is in
    let inside = process_inside s p c.requires.held c.in-Some.ensures.known in
    let active : (held s.queue).active ≡ p ∷ rest =
    next_rest (held s.queue).active (held t.queue).active rest p c.next.result _ c.in-Some.ensures.is (ap (λ (x : Content). x.state.active) m) c.next.ensures.is in
    ran_content b (content_of t) _ e p rest m (next_content t c.next.new.self c.next.ensures.updates c.next.ensures.times) c.end_activation.ensures.is active (some_from 0 p s.headers.items s.code inside)
