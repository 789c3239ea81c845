-- The scope so far, and the names that are left.
use Rattle.std.proofs.Common.{◌≡◌, drop, map}
use Rattle.v_flat.specs.Scope.Scope.{means}
use Rattle.v_header.specs.Names.{and_later}
use Rattle.v_header.proofs.names.declare_names.Given as goal

abbrev pub invariant-loop-part : goal.invariant-loop-part
invariant-loop-part g l =
    and_later (map g.T.Declares.name (map g.T.Declares.tree l.parts)) (means l.initial.scope) ≡ and_later (map g.T.Declares.name (map g.T.Declares.tree (drop l.part-index l.parts))) (means l.scope)
