-- An `initial` from what was found in its statement.
use Rattle.std.proofs.Common.{List, [], ap, ◌∙◌}
use Rattle.gpi.specs.declared.design.Kind.TheVariants.{Initial}
use Rattle.gpi.specs.declared.design.Wake.{Wake}
use Rattle.v_syntax.specs.StatementTrees.{view}
use Rattle.v_flat.specs.Scope.Found.{each}
use Rattle.v_flat.specs.Scope.Scope.{means}
use Rattle.v_flat.specs.Statements.{statement_checked}
use Rattle.v_process.specs.Made.{process}
use Rattle.v_process.proofs.Run.{found_process}
use Rattle.v_process.proofs.procedures.initial.Goals as goal

pub returns-clause-found : goal.returns-clause-found
returns-clause-found c =
    let s = means c.args.scope.now in
    let a = view c.args.statement.now in
    found_process c.args.timing Initial [] s a (statement_checked c.args.timing s a) c.in_ok-body.body c.of_kind.result
    (c.of_kind.ensures ∙ ap (λ (ws : List Wake). each (process Initial ws) c.in_ok-body.body) c.new.ensures) c.in_ok-body.ensures.found
