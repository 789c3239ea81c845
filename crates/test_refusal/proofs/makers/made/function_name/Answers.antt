-- The item at the place of the factory.
use Rattle.std.proofs.Common.{List, ℕ, Bor, Option, option_copied, map, ap, sym, refl, ◌∙◌}
use Rattle.std.specs.Option.{option_and_then, option_map}
use Rattle.py_syntax.specs.BlockTrees.{ModuleItem, view_module_item}
use Rattle.py_syntax.specs.declared.tree.ModuleItem as code
use Rattle.test_refusal.proofs.MakersLemmas.Above.{made_at_place, maker_function, none_above, past_above, read_above}
use Rattle.test_refusal.proofs.makers.made.function_name.Goals as goal

pub returns-in_err-number : goal.returns-in_err-number
returns-in_err-number c =
    made_at_place _ c.args.scope.now.tables.now c.args.scope.now.are_tables c.args.scope.now.above c.args.name.now c.find.result _ _ c.find.ensures
    (none_above _ c.args.scope.now.above c.find.result c.in_err-number.was) (ap (λ (o : Option (Bor (List ℕ))). option_copied o) c.from_residual.ensures)

pub returns-in_err-item : goal.returns-in_err-item
returns-in_err-item c =
    made_at_place _ c.args.scope.now.tables.now c.args.scope.now.are_tables c.args.scope.now.above c.args.name.now c.find.result _ _ c.find.ensures
    (read_above c.args.scope.now.whole.now.items.items c.deref.result.now c.args.scope.now.above c.in_ok-number.number c.find.result c.get.result c.in_ok-number.was c.if-number-scope.true c.deref.ensures.value c.get.ensures.lookup)
    (ap (λ (o : Option (Bor (List ℕ))). option_copied o) c.from_residual-in_err-item.ensures
    ∙ ap (λ (o : Option (Bor code.ModuleItem)). option_and_then maker_function (option_map view_module_item (option_copied o))) (sym c.in_err-item.was))

pub returns-in_ok-item : goal.returns-in_ok-item
returns-in_ok-item c =
    made_at_place _ c.args.scope.now.tables.now c.args.scope.now.are_tables c.args.scope.now.above c.args.name.now c.find.result _ _ c.find.ensures
    (read_above c.args.scope.now.whole.now.items.items c.deref.result.now c.args.scope.now.above c.in_ok-number.number c.find.result c.get.result c.in_ok-number.was c.if-number-scope.true c.deref.ensures.value c.get.ensures.lookup)
    (c.made_at.ensures
    ∙ ap (λ (o : Option (Bor code.ModuleItem)). option_and_then maker_function (option_map view_module_item (option_copied o))) (sym c.in_ok-item.was))

pub returns-else-number-scope : goal.returns-else-number-scope
returns-else-number-scope c =
    made_at_place _ c.args.scope.now.tables.now c.args.scope.now.are_tables c.args.scope.now.above c.args.name.now c.find.result _ _ c.find.ensures
    (past_above _ c.args.scope.now.above c.in_ok-number.number c.find.result c.in_ok-number.was c.if-number-scope.false) refl
