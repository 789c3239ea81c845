-- A concatenation of many parts by its lower and its higher ones.
use Rattle.std.proofs.Common.{◌≡◌, ℕ, ◌+◌, List, [], ◌∷◌, ◌++◌, take, drop, refl, sym, ap, ◌∙◌, subst, arith}
use Rattle.std.proofs.Common.{Result, Ok, Err, IfOk, append_assoc}
use Rattle.std.proofs.lemmas.List.{take-append-drop}
use Rattle.four_value.specs.declared.Digit.{Digit}
use Rattle.gpi.specs.declared.terms.Term.{Term}
use Rattle.gpi.specs.Terms.{value}
use Rattle.gpi.specs.Made.{MakesConcat}
use Rattle.v_check.specs.Contextual.Concatenations.{values, widths, AreSound, MakesConcatenation}

pub values_append : (xs ys : List Term) (m : ℕ → List Digit) → values (xs ++ ys) m ≡ values xs m ++ values ys m
values_append [] ys m = refl
values_append (t ∷ xs) ys m = ap (λ (ds : List Digit). value t m ++ ds) (values_append xs ys m) ∙ sym (append_assoc (value t m) (values xs m) (values ys m))

pub widths_append : (xs ys : List Term) → widths (xs ++ ys) ≡ widths xs + widths ys
widths_append [] ys = omega arith
widths_append (t ∷ xs) ys = let e : widths (xs ++ ys) ≡ widths xs + widths ys = widths_append xs ys in omega (arith, e)

sound_lower : (xs ys : List Term) (ws : List ℕ) → AreSound (xs ++ ys) ws → AreSound xs ws
sound_lower [] ys ws h = tt
sound_lower (t ∷ xs) ys ws h = (h.0, sound_lower xs ys ws h.1)

sound_upper : (xs ys : List Term) (ws : List ℕ) → AreSound (xs ++ ys) ws → AreSound ys ws
sound_upper [] ys ws h = h
sound_upper (t ∷ xs) ys ws h = sound_upper xs ys ws h.1

joined : (xs ys : List Term) (a b t : Term) → MakesConcatenation xs b → MakesConcatenation ys a → MakesConcat a b t → MakesConcatenation (xs ++ ys) t
joined xs ys a b t low high made = record {
  value_is = λ m. made.value_is m ∙ ap (λ (ds : List Digit). ds ++ value a m) (low.value_is m) ∙ ap (λ (ds : List Digit). values xs m ++ ds) (high.value_is m)
      ∙ sym (values_append xs ys m);
  width_is = let e : widths (xs ++ ys) ≡ widths xs + widths ys = widths_append xs ys in let p = made.width_is in let q = low.width_is in let r = high.width_is in omega arith;
  sound = λ ws h. let e : widths (xs ++ ys) ≡ widths xs + widths ys = widths_append xs ys in
      made.sound ws (
        high.sound ws (sound_upper xs ys ws h.0, omega (arith, e, h.1)),
        low.sound ws (sound_lower xs ys ws h.0, omega (arith, e, h.1)),
        (let q = low.width_is in let r = high.width_is in omega (arith, e, h.1)),
      );
}

-- the parts below a place, and those from it on
pub joined_at : (ts : List Term) (k : ℕ) (a b t : Term) → MakesConcatenation (take k ts) b → MakesConcatenation (drop k ts) a → MakesConcat a b t → MakesConcatenation ts t
joined_at ts k a b t low high made =
    subst (λ (xs : List Term). MakesConcatenation xs t) (take-append-drop k ts) (joined (take k ts) (drop k ts) a b t low high made)

pub joined_result : {E : Type 0} (ts : List Term) (k : ℕ) (a b : Term) (r : Result Term E) → MakesConcatenation (take k ts) b → MakesConcatenation (drop k ts) a
    → IfOk r (MakesConcat a b) → IfOk r (MakesConcatenation ts)
joined_result ts k a b (Ok t) low high made = joined_at ts k a b t low high made
joined_result ts k a b (Err e) low high made = tt
