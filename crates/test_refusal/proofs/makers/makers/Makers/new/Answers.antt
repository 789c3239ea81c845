-- No name has a number.
use Rattle.test_refusal.proofs.MakersLemmas.Numbers.{no_numbers, nothing_added}
use Rattle.std.proofs.Common.{refl}
use Rattle.test_refusal.proofs.makers.makers.Makers.new.Goals as goal

pub invariant_of-result : goal.invariant_of-result
invariant_of-result c = record { are_numbers = no_numbers _ _ c.new.ensures }
