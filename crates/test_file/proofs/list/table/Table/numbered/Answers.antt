-- A name that has a value keeps it.
use Rattle.std.proofs.Common.{sym, ◌∙◌}
use Rattle.test_file.proofs.ListLemmas.Numbers.{value_kept}
use Rattle.test_file.proofs.list.table.Table.numbered.Goals as goal

pub returns-in-Some-clause-values : goal.returns-in-Some-clause-values
returns-in-Some-clause-values g c = λ n.
    value_kept c.args.self.numbers c.args.self.values.items c.args.value c.args.name.now c.in-Some.number c.args.self.are_numbers (sym c.find.ensures ∙ c.in-Some.is) n
