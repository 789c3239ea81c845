-- The places of the signals so far.
use Rattle.std.proofs.Common.{take}
use Rattle.vcd_text.specs.Paths.{ArePlaces}
use Rattle.vcd_text.proofs.signals.places_of.Given as goal

abbrev pub invariant-loop-at : goal.invariant-loop-at
invariant-loop-at l = ArePlaces l.signals (take l.at l.traced) l.places
