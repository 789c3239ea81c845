-- None of those so far has the name.
use Rattle.std.proofs.Common.{◌≡◌, drop}
use Rattle.std.specs.List.{find}
use Rattle.std.specs.Str.{bytes_eq}
use Rattle.test_file.proofs.cases.given.chosen_of.Given as goal

abbrev pub invariant-loop-choice : goal.invariant-loop-choice
invariant-loop-choice l = find (λ c. bytes_eq c.0 l.name) l.case ≡ find (λ c. bytes_eq c.0 l.name) (drop l.choice-index l.case)
