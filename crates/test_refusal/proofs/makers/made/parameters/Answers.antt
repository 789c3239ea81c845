-- The item at the place of the function.
use Rattle.std.proofs.Common.{List, ℕ, Bor, Option, option_copied, map, ap, sym, refl, slice_get, ◌∙◌}
use Rattle.std.specs.Option.{option_map}
use Rattle.py_syntax.specs.BlockTrees.{ModuleItem, view_module_item}
use Rattle.py_syntax.specs.declared.module.Parameter.{Parameter}
use Rattle.test_meaning.specs.Rules.File.{parameters_of}
use Rattle.test_refusal.proofs.MakersLemmas.Above.{none_above, parameters_at_place, past_above, place_above}
use Rattle.test_refusal.proofs.makers.made.parameters.Goals as goal

pub returns-in_err-number : goal.returns-in_err-number
returns-in_err-number c =
    parameters_at_place _ c.args.scope.now.tables.now c.args.scope.now.are_tables c.args.scope.now.above c.args.name.now c.find.result _ _ c.find.ensures
    (none_above _ c.args.scope.now.above c.find.result c.in_err-number.was) (ap (λ (o : Option (Bor (List Parameter))). option_copied o) c.from_residual.ensures)

pub returns-then-number-scope : goal.returns-then-number-scope
returns-then-number-scope c =
    parameters_at_place _ c.args.scope.now.tables.now c.args.scope.now.are_tables c.args.scope.now.above c.args.name.now c.find.result _ _ c.find.ensures
    (place_above (map view_module_item c.args.scope.now.whole.now.items.items) c.args.scope.now.above c.in_ok-number.number c.find.result c.in_ok-number.was c.if-number-scope.true)
    (c.parameters_at.ensures ∙ ap (λ zs. option_map parameters_of (slice_get (map view_module_item zs) c.in_ok-number.number)) c.deref.ensures.value)

pub returns-else-number-scope : goal.returns-else-number-scope
returns-else-number-scope c =
    parameters_at_place _ c.args.scope.now.tables.now c.args.scope.now.are_tables c.args.scope.now.above c.args.name.now c.find.result _ _ c.find.ensures
    (past_above _ c.args.scope.now.above c.in_ok-number.number c.find.result c.in_ok-number.was c.if-number-scope.false) refl
