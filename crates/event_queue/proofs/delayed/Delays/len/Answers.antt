use Rattle.std.proofs.Common.{◌≡◌, ◌+◌, ◌∙◌, length, arith}
use Rattle.event_queue.specs.Waiting.{sorted_of}
use Rattle.event_queue.specs.Delays.{waiting_in}
use Rattle.event_queue.proofs.Fresh.{length_all, length_sorted}
use Rattle.event_queue.proofs.delayed.Delays.len.Goals as goal

pub returns : goal.returns
returns c =
    let d = c.args.self.now in
    let all : length (waiting_in d) ≡ length d.fresh.items + length (sorted_of d.sorted.entries) = length_all d.fresh.items (sorted_of d.sorted.entries) in
    let sorted : length (sorted_of d.sorted.entries) ≡ length d.sorted.entries = length_sorted d.sorted.entries in
    omega (arith, d.fresh.ok, c.len.ensures, c.len-2.ensures.len)
