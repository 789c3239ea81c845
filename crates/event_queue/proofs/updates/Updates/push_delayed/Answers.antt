use Rattle.std.proofs.Common.{◌≡◌, ◌+◌, ◌∙◌, suc, length, ap, arith}
use Rattle.std.specs.VecDeque.{deque_len, deque_capacity}
use Rattle.event_queue.specs.Delays.{waiting_in}
use Rattle.event_queue.proofs.Ordered.{length_with}
use Rattle.event_queue.proofs.updates.Updates.push_delayed.Goals as goal

pub invariant_of-self : goal.invariant_of-self
invariant_of-self c = let l : length (waiting_in c.push.new.self) ≡ suc (length (waiting_in c.args.self.now.delayed)) =
    ap length c.push.ensures.is ∙ length_with c.args.delayed.now (waiting_in c.args.self.now.delayed) in record {
      due_inside = c.args.self.now.due_inside;
      arrivals_fit = omega (arith, c.requires.ready);
    }

pub returns-clause-room : goal.returns-clause-room
returns-clause-room c = λ more h. let l : length (waiting_in c.push.new.self) ≡ suc (length (waiting_in c.args.self.now.delayed)) =
    ap length c.push.ensures.is ∙ length_with c.args.delayed.now (waiting_in c.args.self.now.delayed) in record {
      ready = omega (arith, h.ready);
      delayed = omega (arith, h.delayed, c.push.ensures.room);
    }
