-- One value more at the number of the name.
use Rattle.std.proofs.Common.{List, ◌++◌, ◌∙◌, ap, arith}
use Rattle.std.specs.Str.{bytes_eq}
use Rattle.test_meaning.specs.Rules.Names.{only_if}
use Rattle.test_file.proofs.ListLemmas.Numbers.{list_changed, list_kept}
use Rattle.test_file.proofs.list.table.Table+Vec+T.with_more.Goals as goal

pub index_mut-requires : goal.index_mut-requires
index_mut-requires g c =
    let h = c.in_ok-table.table.are_numbers.below _ _ c.in_ok-table.ensures.number in
    let e = c.in_ok-table.table.values.ok.0 in
    omega (arith, h, e)

pub returns : goal.returns
returns g c = λ n.
    list_changed c.in_ok-table.table.numbers c.in_ok-table.table.values.items c.in_ok-table.number c.args.name.now c.index_mut.result.now c.push.new.self c.args.value
    c.in_ok-table.table.are_numbers c.in_ok-table.ensures.number c.index_mut.ensures.value c.in_ok-push.ensures.items n
    ∙ ap (λ (l : List g.row.T.Denot). l ++ only_if (bytes_eq n c.args.name.now) c.args.value)
    (list_kept c.args.self.numbers c.in_ok-table.table.numbers c.args.self.values.items c.in_ok-table.table.values.items c.new.result c.args.name.now c.new.ensures.items
    c.in_ok-table.ensures.values n)
