-- A means of proof: a writer that takes one part more, and what it holds where it tells that.
use Rattle.std.specs.Prelude.{◌≡◌, ℕ, ◌-◌, ◌<◌, Result, Ok, Err, OnErr, length, List, [], ◌∷◌, ◌++◌, take, drop, Option, None, Some, refl}
use Rattle.std.specs.Io.KnownBytes.{Appends, Keeps}
use Rattle.std.proofs.lemmas.List.{take_all, length-drop}
use Rattle.std.proofs.Common.{arith, subst, sym, ap, ◌∙◌, append_assoc, append-nil, take-append-drop, inl, inr}
use Rattle.port_io.specs.Ports.{AppendsPart}
use Rattle.port_io.specs.ToldLaws.{appends_then, appends_none}
use Rattle.port_io.specs.Written.{TakesEach, TakesWhole, BreaksWhole}

-- known bytes that stay grow by none
pub appends_kept : (old new : Option (List ℕ)) → Keeps old new → Appends old new []
appends_kept None new k = tt
appends_kept (Some old) None k = absurd k
appends_kept (Some old) (Some new) k = k ∙ sym (append-nil old)

-- the bytes from one place on
pub slice_rest : (xs : List ℕ) (n : ℕ) → take (length xs - n) (drop n xs) ≡ drop n xs
slice_rest xs n = take_all (length xs - n) (drop n xs) (let e = length-drop n xs in omega arith)

-- what is so where an error comes
pub on_err : {T E P Q : Type 0} (r : Result T E) → (P → Q) → OnErr r P → OnErr r Q
on_err (Ok x) f h = tt
on_err (Err e) f h = f h

module _ {W : Type 0} (takes : W → List ℕ → ℕ → W → Type 0) where
  -- one part more
  pub takes_more : (before : W) (bytes : List ℕ) (counts : List ℕ) (rest : List ℕ) (mid : W) (count : ℕ) (after : W)
      → TakesEach takes before bytes counts rest mid → 0 < count → takes mid rest count after
      → TakesEach takes before bytes (counts ++ count ∷ []) (drop count rest) after
  takes_more before bytes [] rest mid count after e some t =
      (after, some, subst (λ (w : W). takes w bytes count after) e.1 (subst (λ (l : List ℕ). takes mid l count after) e.0 t), (ap (drop count) e.0, refl))
  takes_more before bytes (first ∷ counts) rest mid count after e some t =
      (e.0, e.1, e.2, takes_more e.0 (drop first bytes) counts rest mid count after e.3 some t)

  module _ (told : W → Option (List ℕ))
      (takes_told : (before : W) (bytes : List ℕ) (count : ℕ) (after : W) → takes before bytes count after → Appends (told before) (told after) (take count bytes)) where
    -- the parts that were taken are appended
    pub each_told : (before : W) (bytes counts rest : List ℕ) (after : W)
        → TakesEach takes before bytes counts rest after → (front : List ℕ) × (bytes ≡ front ++ rest) × Appends (told before) (told after) front
    each_told before bytes [] rest after e =
        ([], sym e.0, subst (λ (w : W). Appends (told before) (told w) []) (sym e.1) (appends_none (told before)))
    each_told before bytes (count ∷ counts) rest after (mid, some, t, more) =
        let others = each_told mid (drop count bytes) counts rest after more in (
          take count bytes ++ others.0,
          sym (take-append-drop count bytes) ∙ ap (λ (l : List ℕ). take count bytes ++ l) others.1 ∙ sym (append_assoc (take count bytes) others.0 rest),
          appends_then (told before) (told mid) (told after) (take count bytes) others.0 (takes_told before bytes count mid t) others.2,
        )

    -- the whole piece is
    pub whole_told : (before : W) (piece : List ℕ) (after : W) → TakesWhole takes before piece after → Appends (told before) (told after) piece
    whole_told before piece after (counts, each) =
        let all = each_told before piece counts [] after each in
        subst (λ (l : List ℕ). Appends (told before) (told after) l) (sym (all.1 ∙ append-nil all.0)) all.2

    -- a part of it is, where a write that fails appends nothing
    pub broken_told : (fails : W → List ℕ → W → Type 0)
        → ((before : W) (bytes : List ℕ) (after : W) → fails before bytes after → Appends (told before) (told after) [])
        → (before : W) (piece : List ℕ) (after : W) → BreaksWhole takes fails before piece after → AppendsPart (told before) (told after) piece
    broken_told fails fails_told before piece after (counts, rest, mid, each, some, inl f) =
        let all = each_told before piece counts rest mid each in
        (all.0 ++ [], rest, all.1 ∙ ap (λ (l : List ℕ). l ++ rest) (sym (append-nil all.0)), appends_then (told before) (told mid) (told after) all.0 [] all.2 (fails_told mid rest after f))
    broken_told fails fails_told before piece after (counts, rest, mid, each, some, inr t) =
        let all = each_told before piece counts rest mid each in
        (all.0 ++ [], rest, all.1 ∙ ap (λ (l : List ℕ). l ++ rest) (sym (append-nil all.0)), appends_then (told before) (told mid) (told after) all.0 [] all.2 (takes_told mid rest 0 after t))
