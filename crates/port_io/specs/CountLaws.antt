-- A means of proof: counts of 64 bits that stay, and that rise, for the proofs of stores and sinks.
use Rattle.std.specs.Prelude.{◌≡◌, ℕ, ◌≤◌}
use Rattle.std.proofs.Common.{arith}
use Rattle.port_io.specs.Ports.{next_count, IsRaised}

pub same_count : (before after : ℕ) → after ≡ before → before ≤ after
same_count before after e = omega arith

pub raised_count : (before after : ℕ) → after ≡ next_count before → IsRaised before after
raised_count before after e = omega arith

-- a count that has risen stays so
pub raised_then : (before mid after : ℕ) → IsRaised before mid → mid ≤ after → IsRaised before after
raised_then before mid after r h = omega arith

-- a count that does not fall, and then rises
pub then_raised : (before mid after : ℕ) → before ≤ mid → IsRaised mid after → IsRaised before after
then_raised before mid after h r = omega arith
