-- The signals so far.
use Rattle.std.proofs.Common.{◌≡◌}
use Rattle.std.specs.List.{filter, range_with_len}
use Rattle.vcd_text.specs.Memories.{is_outside}
use Rattle.vcd_text.proofs.memories.traced_signals.Given as goal

abbrev pub invariant-loop-signal : goal.invariant-loop-signal
invariant-loop-signal l = l.signals.items ≡ filter (is_outside l.memories.items) (range_with_len 0 l.signal)
