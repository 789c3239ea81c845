use Rattle.trigger_table.proofs.RingLemmas.{no_keys, nothing_linked}
use Rattle.trigger_table.proofs.rings.Rings.new.Goals as goal

pub invariant_of-result : goal.invariant_of-result
invariant_of-result c = record { linked = rw (c.new.ensures.items, c.new-2.ensures.items, c.new-3.ensures.items) nothing_linked }

pub returns-clause-lists : goal.returns-clause-lists
returns-clause-lists c list = no_keys c.new.result.items c.new-3.result.items list c.new-3.ensures.items
