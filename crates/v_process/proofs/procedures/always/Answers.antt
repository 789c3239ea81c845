-- An `always` from what was found in its events and in its statement.
use Rattle.v_syntax.specs.StatementTrees.{view}
use Rattle.v_flat.specs.Scope.Scope.{means}
use Rattle.v_process.proofs.Run.{found_always}
use Rattle.v_process.proofs.procedures.always.Goals as goal

pub returns-clause-found : goal.returns-clause-found
returns-clause-found c =
    found_always c.args.timing c.args.wakes (means c.args.scope.now) (view c.args.statement.now) c.in_ok-body.body c.waiting.result c.waiting.ensures c.in_ok-body.ensures.found
