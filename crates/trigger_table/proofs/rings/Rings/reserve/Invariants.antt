use Rattle.std.proofs.Common.{◌+◌, ◌-◌, ◌≤◌}
use Rattle.trigger_table.specs.Rings.{SameLists, key_limit}
use Rattle.trigger_table.proofs.rings.Rings.reserve.Given as goal

abbrev pub invariant-loop-self : goal.invariant-loop-self
invariant-loop-self l = record {
  same : SameLists l.initial.self l.self;
  grows : key_limit l.initial.self ≤ key_limit l.self;
}

abbrev pub decreases-loop-self : goal.decreases-loop-self
decreases-loop-self l = l.number + 1 - key_limit l.self
