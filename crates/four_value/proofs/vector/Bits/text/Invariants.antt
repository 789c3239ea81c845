use Rattle.std.proofs.Common.{◌≡◌, ◌-◌, ◌++◌, take, map, reverse, replicate}
use Rattle.four_value.specs.Vector.{digit_byte}
use Rattle.four_value.proofs.vector.Bits.text.Given as goal

abbrev pub invariant-loop-i : goal.invariant-loop-i
invariant-loop-i l = l.bytes ≡ take l.i (map digit_byte (reverse l.self)) ++ replicate (128 - l.i) 32
