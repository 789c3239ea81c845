use Rattle.std.proofs.Common.{◌≡◌, ◌+◌, ◌++◌, ◌∷◌, [], take, map, reverse, length}
use Rattle.design_tests.specs.Elaboration.Digits.{digit_of}
use Rattle.design_tests.proofs.elaboration.digits.joined.Given as goal

-- the digits so far
abbrev pub invariant-loop-byte : goal.invariant-loop-byte
invariant-loop-byte l =
    (l.bits ≡ reverse (map digit_of (take l.byte-index l.rest)) ++ digit_of l.highest ∷ []) × (length l.bits ≡ l.byte-index + 1)
