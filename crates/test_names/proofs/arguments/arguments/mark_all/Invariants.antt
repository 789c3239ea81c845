-- The arguments from one on are marked.
use Rattle.std.proofs.Common.{◌≡◌, ◌≤◌, length, drop}
use Rattle.test_meaning.specs.Rules.Rules.{parameter_places}
use Rattle.test_names.specs.Arguments.Marks.{are_all_fresh, AreMarks}
use Rattle.test_names.proofs.ArgumentsLemmas.Marked.{names_of}
use Rattle.test_names.proofs.arguments.arguments.mark_all.Given as goal

abbrev pub invariant-back : goal.invariant-back
invariant-back l = record {
  within : l.number ≤ length l.arguments;
  fresh : l.all_fresh ≡ are_all_fresh (length l.parameters) (parameter_places l.parameters l.number (drop l.number (names_of l.arguments)));
  marks : AreMarks (length l.parameters) (parameter_places l.parameters l.number (drop l.number (names_of l.arguments))) l.given;
}

abbrev pub decreases-back : goal.decreases-back
decreases-back l = l.number
