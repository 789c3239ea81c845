-- One more part above others.
use Rattle.std.proofs.Common.{◌≡◌, ℕ, ◌+◌, ◌≤◌, List, [], ◌∷◌, ◌++◌, length, ap, ◌∙◌, arith}
use Rattle.std.proofs.lemmas.List.{append-nil}
use Rattle.four_value.specs.declared.Digit.{Digit}
use Rattle.gpi.specs.declared.terms.Term.{Term}
use Rattle.gpi.specs.Terms.{value, width, IsSound}
use Rattle.v_check.specs.Contextual.Concatenations.{values, widths, AreSound}
use Rattle.v_check.proofs.ContextualLemmas.Joined.{values_append, widths_append}

pub values_end : (ts : List Term) (t : Term) (m : ℕ → List Digit) → values (ts ++ (t ∷ [])) m ≡ values ts m ++ value t m
values_end ts t m = values_append ts (t ∷ []) m ∙ ap (λ (ds : List Digit). values ts m ++ ds) (append-nil (value t m))

pub widths_end : (ts : List Term) (t : Term) → widths (ts ++ (t ∷ [])) ≡ widths ts + width t
widths_end ts t = let e : widths (ts ++ (t ∷ [])) ≡ widths ts + widths (t ∷ []) = widths_append ts (t ∷ []) in omega (arith, e)

pub sound_end : (ts : List Term) (t : Term) (ws : List ℕ) → AreSound ts ws → IsSound t ws → AreSound (ts ++ (t ∷ [])) ws
sound_end [] t ws h k = (k, tt)
sound_end (x ∷ ts) t ws h k = (h.0, sound_end ts t ws h.1 k)

-- there are parts where there are digits
pub some_parts : (ts : List Term) → 1 ≤ widths ts → 1 ≤ length ts
some_parts [] h = absurd (omega (arith, h))
some_parts (t ∷ ts) h = omega arith
