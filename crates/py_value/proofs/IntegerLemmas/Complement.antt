-- Numbers by their bits in two's complement.
use Rattle.std.proofs.Common.{◌≡◌, ℕ, suc, ◌-◌, ◌^◌, ◌<◌, ◌≤◌, Bool, true, false, Some, None, arith}
use Rattle.std.specs.Int.{w128, cast_signed}
use Rattle.std.proofs.lemmas.Bool.{lt-ltb, le-ltb}
use Rattle.py_value.specs.Integer.Integer.{held, of_bits}
use Rattle.py_value.proofs.IntegerLemmas.Held.{held_low, held_far, held_below, held_far_below}

pub natural_held : (s : Bool) (low : ℕ) → s ≡ false → low < 2 ^ 127 → held (of_bits s low) ≡ Some (cast_signed w128 low)
natural_held true low e h = absurd (cc)
natural_held false low e h = rw (lt-ltb low (2 ^ 127) h) (held_low low h)

pub natural_lost : (s : Bool) (low : ℕ) → s ≡ false → 2 ^ 127 ≤ low → held (of_bits s low) ≡ None
natural_lost true low e h = absurd (cc)
natural_lost false low e h = held_far low h

pub negative_held : (s : Bool) (low : ℕ) → s ≡ true → 2 ^ 127 ≤ low → low < 2 ^ 128 → held (of_bits s low) ≡ Some (cast_signed w128 low)
negative_held false low e h p = absurd (cc)
negative_held true low e h p = rw (le-ltb low (2 ^ 127) h) (held_below (suc (2 ^ 128 - suc low)) (omega arith))

pub negative_lost : (s : Bool) (low : ℕ) → s ≡ true → low < 2 ^ 127 → held (of_bits s low) ≡ None
negative_lost false low e h = absurd (cc)
negative_lost true low e h = held_far_below (suc (2 ^ 128 - suc low)) (omega arith)

pub ruleset complements = (natural_held, natural_lost, negative_held, negative_lost)
