-- The parts so far.
use Rattle.std.proofs.Common.{◌≡◌, ◌∷◌, ◌++◌, take}
use Rattle.std.specs.List.{flat_map}
use Rattle.test_refusal.proofs.items.imports.joined.Given as goal

abbrev pub invariant-loop-part : goal.invariant-loop-part
invariant-loop-part l = l.name.items ≡ l.first ++ flat_map (λ part. 46 ∷ part) (take l.part-index l.others)
