use Rattle.std.proofs.Common.{◌≡◌, ◌+◌, ◌∙◌, ◌++◌, List, length, sym, ap, arith, append_assoc}
use Rattle.gpi.specs.declared.types.Update.{Update}
use Rattle.gpi.specs.declared.types.Delayed.{Delayed}
use Rattle.gpi.specs.State.{arriving, waiting_on}
use Rattle.event_queue.specs.Waiting.{sorted_of, all_with}
use Rattle.event_queue.specs.Delays.{waiting_in}
use Rattle.event_queue.proofs.Fresh.{length_all, length_sorted, from_all, arriving_all, waiting_all}
use Rattle.event_queue.proofs.delayed.Delays.arrive.Goals as goal

pub move_sorted-requires-clause-none_earlier : goal.move_sorted-requires-clause-none_earlier
move_sorted-requires-clause-none_earlier c =
    let d = c.args.self.now in from_all c.args.time d.fresh.items (sorted_of d.sorted.entries) c.requires.none_earlier

pub move_sorted-requires-clause-room : goal.move_sorted-requires-clause-room
move_sorted-requires-clause-room c =
    let d = c.args.self.now in
    let all : length (waiting_in d) ≡ length d.fresh.items + length (sorted_of d.sorted.entries) = length_all d.fresh.items (sorted_of d.sorted.entries) in
    let sorted : length (sorted_of d.sorted.entries) ≡ length d.sorted.entries = length_sorted d.sorted.entries in
    omega (arith, c.requires.room)

pub move_fresh-requires : goal.move_fresh-requires
move_fresh-requires c =
    let d = c.args.self.now in
    let all : length (waiting_in d) ≡ length d.fresh.items + length (sorted_of d.sorted.entries) = length_all d.fresh.items (sorted_of d.sorted.entries) in
    let sorted : length (sorted_of d.sorted.entries) ≡ length d.sorted.entries = length_sorted d.sorted.entries in record {
      room = omega (arith, c.requires.room, d.fresh.ok, c.move_sorted.ensures.count, c.move_sorted.ensures.room);
    }

pub returns-clause-arrived : goal.returns-clause-arrived
returns-clause-arrived c =
    let d = c.args.self.now in
    let t = c.args.time in
    c.move_fresh.ensures.arrived
    ∙ rw c.move_sorted.ensures.arrived
    (append_assoc c.args.updates.now.items (arriving t (sorted_of d.sorted.entries)) (arriving t d.fresh.items)
    ∙ ap (λ (us : List Update). c.args.updates.now.items ++ us) (arriving_all t d.fresh.items (sorted_of d.sorted.entries) d.ordered))

pub returns-clause-left : goal.returns-clause-left
returns-clause-left c =
    let d = c.args.self.now in
    rw (c.move_fresh.ensures.left, c.move_sorted.ensures.left) (waiting_all c.args.time d.fresh.items (sorted_of d.sorted.entries) d.ordered)

pub returns-clause-count : goal.returns-clause-count
returns-clause-count c =
    let d = c.args.self.now in
    let fresh = c.move_fresh.new.fresh in
    let sorted = c.move_sorted.new.sorted in
    let all : length (waiting_in d) ≡ length d.fresh.items + length (sorted_of d.sorted.entries) = length_all d.fresh.items (sorted_of d.sorted.entries) in
    let all_sorted : length (sorted_of d.sorted.entries) ≡ length d.sorted.entries = length_sorted d.sorted.entries in
    let left : length (all_with fresh.items (sorted_of sorted.entries)) ≡ length fresh.items + length (sorted_of sorted.entries) = length_all fresh.items (sorted_of sorted.entries) in
    let left_sorted : length (sorted_of sorted.entries) ≡ length sorted.entries = length_sorted sorted.entries in
    omega (arith, c.move_fresh.ensures.count, c.move_sorted.ensures.count, fresh.ok, d.fresh.ok)
