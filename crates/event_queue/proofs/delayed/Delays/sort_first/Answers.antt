use Rattle.std.proofs.Common.{◌≡◌, ◌<◌, ◌∙◌, ◌∷◌, List, length, sym, ap, subst, arith, IsTrue}
use Rattle.gpi.specs.declared.types.Delayed.{Delayed}
use Rattle.event_queue.specs.Waiting.{sorted_of, all_with, are_in_order}
use Rattle.event_queue.proofs.Ordered.{ordered_with}
use Rattle.event_queue.proofs.Fresh.{put_numbered, put_sorted, head_tail, sort_same}
use Rattle.event_queue.proofs.delayed.Delays.sort_first.Goals as goal

pub invariant_of-self-2 : goal.invariant_of-self-2
invariant_of-self-2 c =
    let d = c.args.self.now in
    let f = c.index-first.result.now in
    let e = c.in_ok-insert.ensures.entries in
    let l : d.number < c.in-Some.next = omega (arith, c.in-Some.ensures) in record {
      numbered = rw e (put_numbered f.time d.number c.in-Some.next f.update d.sorted.entries l d.numbered);
      ordered = rw (e, put_sorted f.time d.number f.update d.sorted.entries d.numbered) (ordered_with f (sorted_of d.sorted.entries) d.ordered);
    }

pub returns-clause-same : goal.returns-clause-same
returns-clause-same c =
    let d = c.args.self.now in
    let f = c.index-first.result.now in
    sort_same f d.number d.sorted.entries c.insert.new.self.entries d.fresh.items c.pop_front.new.self.items d.numbered c.in_ok-insert.ensures.entries
    (head_tail d.fresh.items c.pop_front.new.self.items f (omega (arith, c.requires, d.fresh.ok)) c.index-first.ensures c.pop_front.ensures.rest)
