-- A name more.
use Rattle.std.proofs.Common.{List, ◌≡◌, sym, subst, ◌∙◌}
use Rattle.test_file.specs.List.Tables.{value_at, value_in, with_value}
use Rattle.test_file.proofs.ListLemmas.Numbers.{value_added}
use Rattle.test_file.proofs.list.table.Table.with_name.Goals as goal

pub returns-clause-values : goal.returns-clause-values
returns-clause-values g c = λ n.
    subst (λ (l : List g.row.T.Denot). value_at c.note.new.self l n ≡ with_value c.args.name.now c.args.value (value_in c.args.self) n) (sym c.in_ok-push.ensures.items)
    (value_added c.args.self.numbers c.note.new.self c.args.self.values.items c.args.value c.args.name.now c.len-number.result c.args.self.are_numbers
    (c.len-number.ensures ∙ c.args.self.values.ok.0) (λ m. c.in_ok-note.ensures.ok m) n)
