-- The register is put back.
use Rattle.v_flat.specs.Scope.Scope.{means}
use Rattle.v_loop.proofs.Scopes.{left_again}
use Rattle.v_loop.proofs.in_turn.leave_turn.Goals as goal

pub returns-clause-back : goal.returns-clause-back
returns-clause-back c = λ v s h e. left_again c.args.name.now c.args.object v s (means c.args.scope.now) _ c.replace.ensures.new h e
