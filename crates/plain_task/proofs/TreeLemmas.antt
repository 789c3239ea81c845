-- The functions of a file, one after the other.
use Rattle.std.proofs.Common.{◌≡◌, ℕ, ◌+◌, List, [], ◌∷◌, ◌++◌, map, take, ap, sym, ◌∙◌, Some}
use Rattle.std.specs.Prelude.{slice_get}
use Rattle.std.proofs.lemmas.List.{map-append, take_more}
use Rattle.std.proofs.lemmas.Option.{get_or_from_slice_get, slice_get_within}
use Rattle.test_meaning.specs.Body.BodyTrees as trees
use Rattle.test_meaning.specs.Body.Views.{view_function}
use Rattle.test_meaning.specs.declared.body.file.Function.{Function}
use Rattle.task_core.specs.Code.Functions.{function_of}
use Rattle.task_core.specs.declared.code.function.Callable.{Callable}
use Rattle.plain_task.specs.Tree.{read_tree}
use Rattle.plain_task.specs.declared.tree.Tree.{Tree}

-- one more
pub functions_more : (fs : List (Callable Tree)) (x : Callable Tree) (all : List Function) (i : ℕ) (f : Function) → slice_get all i ≡ Some f
    → function_of read_tree x ≡ view_function f → map (function_of read_tree) fs ≡ map view_function (take i all)
    → map (function_of read_tree) (fs ++ x ∷ []) ≡ map view_function (take (i + 1) all)
functions_more fs x all i f is same done =
    map-append (function_of read_tree) fs (x ∷ [])
    ∙ ap (λ (gs : List trees.Function). gs ++ function_of read_tree x ∷ []) done
    ∙ ap (λ (g : trees.Function). map view_function (take i all) ++ g ∷ []) same
    ∙ sym (ap (λ (gs : List Function). map view_function gs)
    (take_more all i f (slice_get_within all i f is) ∙ ap (λ (y : Function). take i all ++ y ∷ []) (get_or_from_slice_get all i f f is)) ∙ map-append view_function (take i all) (f ∷ []))
