-- What is found in the connections so far, the names that were seen, and those digits that were driven are.
use Rattle.std.proofs.Common.{ℕ, List, [], map}
use Rattle.v_syntax.specs.SourceTrees.{view_connection}
use Rattle.v_flat.specs.Scope.Scope.{means}
use Rattle.v_flat.specs.Targets.{Drive}
use Rattle.v_flat.specs.Design.{named_joints}
use Rattle.v_process.specs.Drive.Digits.{Keeps}
use Rattle.v_process.specs.Assign.Continuous.{KeepsOrGrows}
use Rattle.v_elab.proofs.ConnectLemmas.Steps.{HasNames, SoFar, named_left}
use Rattle.v_elab.proofs.connect.named.named.Given as goal

abbrev pub invariant-loop-at : goal.invariant-loop-at
invariant-loop-at l =
    (seen : List (List ℕ)) × (HasNames seen l.seen × (((ds : List Drive) → Keeps l.initial.driven ds
    → SoFar (means l.scope) l.ports (named_left (means l.scope) l.connections l.ports seen l.at)
    (named_joints (means l.scope) l.ports [] (map view_connection l.connections) ds) l.found l.joints.items l.driven)
    × KeepsOrGrows l.initial.driven l.driven))
