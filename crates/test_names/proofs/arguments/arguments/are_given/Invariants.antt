-- The parameters from one on are given.
use Rattle.std.proofs.Common.{◌≡◌, ◌≤◌, ℕ, List, length, drop}
use Rattle.test_meaning.specs.Rules.Rules.{are_given}
use Rattle.test_names.specs.Arguments.Marks.{AreMarks}
use Rattle.test_names.proofs.arguments.arguments.are_given.Given as goal

abbrev pub invariant-back : goal.invariant-back
invariant-back l = record {
  within : l.number ≤ length l.parameters;
  all : (ks : List ℕ) → AreMarks (length l.parameters) ks l.given → l.all_given ≡ are_given ks l.number (drop l.number l.parameters);
}

abbrev pub decreases-back : goal.decreases-back
decreases-back l = l.number
