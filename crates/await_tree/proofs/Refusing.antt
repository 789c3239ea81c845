-- The first refusal among the leaves of a tree, part by part.
use Rattle.std.proofs.Common.{◌≡◌, List, [], ◌∷◌, ◌++◌, refl, ap, sym, ◌∙◌}
use Rattle.std.specs.Prelude.{Option, None, Some}
use Rattle.gpi.specs.declared.types.Region.{Region}
use Rattle.py_value.specs.declared.value.Fault.{Fault}
use Rattle.await_tree.specs.declared.cause.Awaited.{Awaited}
use Rattle.await_tree.specs.Check.{or_fault, refusal, refusals}

or_none : (f : Option Fault) → or_fault f None ≡ f
or_none None = refl
or_none (Some f) = refl

or_last : (f g h : Option Fault) → or_fault (or_fault f g) h ≡ or_fault f (or_fault g h)
or_last None g h = refl
or_last (Some f) g h = refl

both : (xs ys : List Awaited) (phase : Region) → refusals (xs ++ ys) phase ≡ or_fault (refusals xs phase) (refusals ys phase)
both [] ys phase = refl
both (x ∷ xs) ys phase = ap (or_fault (refusal x phase)) (both xs ys phase) ∙ sym (or_last (refusal x phase) (refusals xs phase) (refusals ys phase))

pub refused_one : (a : Awaited) (phase : Region) (r : Option Fault) → r ≡ refusal a phase → r ≡ refusals (a ∷ []) phase
refused_one a phase r e = e ∙ sym (or_none (refusal a phase))

pub refused_before : (xs ys : List Awaited) (phase : Region) (f : Fault) → Some f ≡ refusals xs phase → Some f ≡ refusals (xs ++ ys) phase
refused_before xs ys phase f e = sym (both xs ys phase ∙ ap (λ (r : Option Fault). or_fault r (refusals ys phase)) (sym e))

pub refused_later : (xs ys : List Awaited) (phase : Region) (r : Option Fault) → None ≡ refusals xs phase → r ≡ refusals ys phase → r ≡ refusals (xs ++ ys) phase
refused_later xs ys phase r e h = h ∙ sym (both xs ys phase ∙ ap (λ (r : Option Fault). or_fault r (refusals ys phase)) (sym e))

pub refused_last : (xs : List Awaited) (a : Awaited) (phase : Region) (r : Option Fault) → None ≡ refusals xs phase → r ≡ refusal a phase
    → r ≡ refusals (xs ++ a ∷ []) phase
refused_last xs a phase r e h = refused_later xs (a ∷ []) phase r e (refused_one a phase r h)
