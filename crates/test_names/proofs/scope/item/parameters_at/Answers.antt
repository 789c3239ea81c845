-- The item with the number.
use Rattle.test_names.proofs.ScopeLemmas.Known.{nothing_at, found_at}
use Rattle.test_names.proofs.scope.item.parameters_at.Goals as goal

pub returns-in_err-item : goal.returns-in_err-item
returns-in_err-item c = nothing_at c.args.items.now c.args.number c.get.result c.from_residual.result c.get.ensures.lookup c.in_err-item.was c.from_residual.ensures

pub returns : goal.returns
returns c =
    found_at c.args.items.now c.args.number c.get.result c.in_ok-item.item c.parameters_of.result.now c.get.ensures.lookup c.in_ok-item.was c.parameters_of.ensures
