use Rattle.std.proofs.Common.{◌≡◌, drop}
use Rattle.gpi.specs.Terms.{read}
use Rattle.gpi.specs.Cases.{first_match}
use Rattle.gpi.proofs.acts.activation.first_match.Given as goal

abbrev pub invariant-loop-at : goal.invariant-loop-at
invariant-loop-at l = first_match l.kind l.value (drop l.at l.labels) (read l.signals) ≡ first_match l.kind l.value l.labels (read l.signals)
