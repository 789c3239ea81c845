-- The ports so far have added their assignments.
use Rattle.v_flat.specs.Scope.Scope.{means}
use Rattle.v_elab.specs.PortsSteps.{first_joined, joined_at}
use Rattle.v_elab.proofs.Loop.{Going}
use Rattle.v_elab.proofs.ports.with_ports.Given as goal

abbrev pub invariant-loop-at : goal.invariant-loop-at
invariant-loop-at l = Going (first_joined l.fn.joints.list.items) (joined_at l.table) (means l.scope) l.ports l.at l.initial.parts l.parts
