-- A name is in the table, or built in.
use Rattle.test_names.proofs.ScopeLemmas.Known.{of_table, off_table}
use Rattle.test_names.proofs.scope.scope.FileScope.is_of_file.Goals as goal

pub returns-then-is_some : goal.returns-then-is_some
returns-then-is_some c =
    of_table _ c.args.self.now.tables.now c.args.self.now.are_tables c.args.name.now c.is_some.result c.find.result c.is_some.ensures c.find.ensures c.if-is_some.true

pub returns-else-is_some : goal.returns-else-is_some
returns-else-is_some c =
    off_table _ c.args.self.now.tables.now c.args.self.now.are_tables c.args.name.now c.is_some.result c.is_built_in.result c.find.result
    c.is_some.ensures c.find.ensures c.if-is_some.false c.is_built_in.ensures
