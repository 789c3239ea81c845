-- The number and the parameters of the function, by the tables.
use Rattle.std.proofs.Common.{ℕ, List, Option, Bor, map, slice_get, option_copied, ap, sym, ◌∙◌}
use Rattle.std.specs.Option.{option_map, option_and_then}
use Rattle.py_syntax.specs.BlockTrees.{view_module_item}
use Rattle.py_syntax.specs.declared.module.Parameter.{Parameter}
use Rattle.test_meaning.specs.Rules.File.{parameters_of}
use Rattle.test_functions.proofs.Found.{parameters_there, no_parameters, called}
use Rattle.test_functions.proofs.whole.Whole.function.Goals as goal

pub returns-in_err-place : goal.returns-in_err-place
returns-in_err-place c =
    let xs = map view_module_item c.args.self.now.values.now.items.now in
    no_parameters c.from_residual-in_err-place.result _ _ c.from_residual-in_err-place.ensures
    (parameters_there xs c.args.name.now c.find-2.result (c.find-2.ensures ∙ c.args.self.now.are_places c.args.name.now))
    (ap (λ (o : Option ℕ). option_map parameters_of (option_and_then (slice_get xs) o)) c.in_err-place.was)

pub returns-in_err-parameters : goal.returns-in_err-parameters
returns-in_err-parameters c =
    let xs = map view_module_item c.args.self.now.values.now.items.now in
    no_parameters c.from_residual-in_err-parameters.result _ _ c.from_residual-in_err-parameters.ensures
    (parameters_there xs c.args.name.now c.find-2.result (c.find-2.ensures ∙ c.args.self.now.are_places c.args.name.now))
    (ap (λ (o : Option ℕ). option_map parameters_of (option_and_then (slice_get xs) o)) c.in_ok-place.was ∙ sym c.parameters_at.ensures
    ∙ ap (λ (o : Option (Bor (List Parameter))). option_copied o) c.in_err-parameters.was)

pub returns : goal.returns
returns c =
    let xs = map view_module_item c.args.self.now.values.now.items.now in
    called _ _ (sym c.in_ok-number.was ∙ c.find.ensures ∙ c.args.self.now.are_numbers.numbers c.args.name.now)
    (sym (ap (λ (o : Option (Bor (List Parameter))). option_copied o) c.in_ok-parameters.was) ∙ c.parameters_at.ensures
    ∙ sym (ap (λ (o : Option ℕ). option_map parameters_of (option_and_then (slice_get xs) o)) c.in_ok-place.was)
    ∙ parameters_there xs c.args.name.now c.find-2.result (c.find-2.ensures ∙ c.args.self.now.are_places c.args.name.now))
