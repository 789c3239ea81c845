-- The values so far.
use Rattle.std.proofs.Common.{◌≡◌, ◌++◌, length, take}
use Rattle.test_file.proofs.list.walk.joined.Given as goal

abbrev pub invariant-loop-value : goal.invariant-loop-value
invariant-loop-value g l = l.values ≡ l.fn.values ++ take (length l.yielded) l.fn.others.items
