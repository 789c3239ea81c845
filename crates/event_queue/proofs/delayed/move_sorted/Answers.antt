use Rattle.std.proofs.Common.{◌≡◌, ◌++◌, List, sym, ◌∙◌, ap, append-nil, arith}
use Rattle.gpi.specs.declared.types.Update.{Update}
use Rattle.event_queue.specs.Waiting.{sorted_of}
use Rattle.event_queue.proofs.Ordered.{all_arrived, one_arrived, one_ordered}
use Rattle.event_queue.proofs.delayed.move_sorted.Goals as goal

pub loop-update-preserved : goal.loop-update-preserved
loop-update-preserved c =
    let i = c.loop-update.invariant in
    let before = sorted_of c.loop-update.sorted.entries in
    let after = sorted_of c.take_arrived.new.sorted.entries in
    let m = one_arrived c.args.time before after c.in-Some.update c.loop-update.updates.items c.in-Some.ensures.is in
    let o = one_ordered c.args.time before after c.in-Some.update i.ordered i.none_earlier c.in-Some.ensures.is in record {
      moved = rw c.push_back_reserved.ensures.items (m.0 ∙ i.moved);
      left = m.1 ∙ i.left;
      ordered = o.0;
      none_earlier = o.1;
      numbers = λ n h. c.take_arrived.ensures.numbers n (i.numbers n h);
      count = let a = i.count in let b = c.in-Some.ensures.count in let d = c.push_back_reserved.ensures.len in omega arith;
      room = c.push_back_reserved.ensures.capacity ∙ i.room;
    }

pub returns-clause-arrived : goal.returns-clause-arrived
returns-clause-arrived c =
    let i = c.loop-update.invariant in
    let r = all_arrived c.args.time (sorted_of c.loop-update.sorted.entries) (sorted_of c.take_arrived.new.sorted.entries) i.ordered i.none_earlier c.in_default.ensures.is in
    sym (append-nil c.loop-update.updates.items) ∙ ap (λ (us : List Update). c.loop-update.updates.items ++ us) (sym r.0) ∙ i.moved

pub returns-clause-left : goal.returns-clause-left
returns-clause-left c =
    let i = c.loop-update.invariant in
    let r = all_arrived c.args.time (sorted_of c.loop-update.sorted.entries) (sorted_of c.take_arrived.new.sorted.entries) i.ordered i.none_earlier c.in_default.ensures.is in
    sym r.1 ∙ i.left

pub returns-clause-numbers : goal.returns-clause-numbers
returns-clause-numbers c = λ n h. c.take_arrived.ensures.numbers n (c.loop-update.invariant.numbers n h)
