-- What is found in the connections so far, and those digits that were driven are.
use Rattle.std.proofs.Common.{List, map}
use Rattle.v_syntax.specs.ExpressionTrees.{view}
use Rattle.v_flat.specs.Scope.Scope.{means}
use Rattle.v_flat.specs.Targets.{Drive}
use Rattle.v_flat.specs.Design.{ordered_joints}
use Rattle.v_process.specs.Drive.Digits.{Keeps}
use Rattle.v_process.specs.Assign.Continuous.{KeepsOrGrows}
use Rattle.v_elab.proofs.ConnectLemmas.Steps.{SoFar, ordered_left}
use Rattle.v_elab.proofs.connect.ordered.ordered.Given as goal

abbrev pub invariant-loop-at : goal.invariant-loop-at
invariant-loop-at l =
    ((ds : List Drive) → Keeps l.initial.driven ds → SoFar (means l.scope) l.ports (ordered_left (means l.scope) l.values l.ports l.at)
    (ordered_joints (means l.scope) (map view l.values) l.ports ds) l.found l.joints.items l.driven)
    × KeepsOrGrows l.initial.driven l.driven
