-- The item with the function's number.
use Rattle.test_names.proofs.ScopeLemmas.Known.{no_parameters, its_parameters}
use Rattle.test_names.proofs.scope.scope.FileScope.parameters.Goals as goal

pub returns-in_err-number : goal.returns-in_err-number
returns-in_err-number c =
    no_parameters _ c.args.self.now.tables.now c.args.self.now.are_tables c.args.name.now c.find.result c.from_residual.result
    c.from_residual.ensures c.find.ensures c.in_err-number.was

pub returns : goal.returns
returns c =
    its_parameters c.args.self.now.whole.now.items.items c.deref.result.now c.args.self.now.tables.now c.args.self.now.are_tables c.args.name.now c.in_ok-number.number
    c.find.result _ c.parameters_at.ensures c.deref.ensures.value c.find.ensures c.in_ok-number.was
