-- The name of the call, and what it waits for.
use Rattle.test_names.proofs.UsesLemmas.Answers.{both, first_and}
use Rattle.test_names.proofs.uses.call.of_timeout.Goals as goal

pub returns : goal.returns
returns g c =
    let f = g.S.Scope.file c.args.scope.now in
    let a = g.S.Scope.around c.args.scope.now in
    first_and f a _ _ _ _ _ c.first_of.ensures c.needs.ensures
    (both f a _ _ _ _ _ c.first_of-waiting.ensures (both f a _ _ _ _ _ c.first_of-limited.ensures c.in_ok-timed.ensures c.of_tree.ensures) c.of_optional.ensures)
