-- The function of a name, by the tables.
use Rattle.std.proofs.Common.{◌≡◌, ℕ, List, Option, Some, None, MatchOption, slice_get, refl, sym, ap, ◌∙◌, subst}
use Rattle.std.specs.List.{position_from}
use Rattle.std.specs.Option.{option_map, option_and_then}
use Rattle.py_syntax.specs.BlockTrees.{ModuleItem}
use Rattle.py_syntax.specs.declared.module.Parameter.{Parameter}
use Rattle.test_names.specs.Definitions.Definitions.{is_defined}
use Rattle.test_names.specs.declared.definitions.item.Kind.TheVariants as kind
use Rattle.test_names.proofs.DefinitionsLemmas.ByKind.{functions_have_parameters}
use Rattle.test_names.proofs.DefinitionsLemmas.FirstPlaces.{found_at_place}
use Rattle.test_functions.specs.Expressions.Called.{IsCalled}
use Rattle.test_functions.specs.declared.expressions.meanings.CalledFunction.{CalledFunction}
use Rattle.test_meaning.specs.Rules.File.{Definition, file_of, function, parameters_of}
use Rattle.test_meaning.specs.Rules.Names.{Name}

-- the parameters of a function are those of the item at its place
pub parameters_there : (xs : List ModuleItem) (n : Name) (place : Option ℕ) → place ≡ position_from (is_defined kind.Function n) 0 xs
    → option_map parameters_of (option_and_then (slice_get xs) place) ≡ option_map (λ (d : Definition). d.parameters) (function (file_of xs) n)
parameters_there xs n place e =
    ap (λ (o : Option ℕ). option_map parameters_of (option_and_then (slice_get xs) o)) e
    ∙ sym (ap (λ (o : Option ModuleItem). option_map parameters_of o) (found_at_place (is_defined kind.Function n) xs)) ∙ sym (functions_have_parameters xs n)

none_of : {A B : Type 0} (f : A → B) (o : Option A) → option_map f o ≡ None → o ≡ None
none_of f None e = refl
none_of f (Some a) e = cc

-- a name that has no place, or no parameters there
pub no_parameters : (r : Option CalledFunction) (o : Option Definition) (ps : Option (List Parameter)) → r ≡ None
    → ps ≡ option_map (λ (d : Definition). d.parameters) o → ps ≡ None → MatchOption r (o ≡ None) (IsCalled o)
no_parameters r o ps gone e is =
    subst (λ (q : Option CalledFunction). MatchOption q (o ≡ None) (IsCalled o)) (sym gone) (none_of (λ (d : Definition). d.parameters) o (sym e ∙ is))

same : {A : Type 0} (a b : A) → Some a ≡ Some b → a ≡ b
same a b h = cc

-- a name that has both
pub called : (f : CalledFunction) (o : Option Definition) → Some f.number ≡ option_map (λ (d : Definition). d.number) o
    → Some f.parameters.now ≡ option_map (λ (d : Definition). d.parameters) o → IsCalled o f
called f None e g = cc
called f (Some d) e g = record { definition = d; is = refl; number = same d.number f.number (sym e); parameters = same d.parameters f.parameters.now (sym g) }
