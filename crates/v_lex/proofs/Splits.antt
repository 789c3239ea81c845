-- Runs of a class at the front of a text, and where they stop.
use Rattle.std.proofs.Common.{◌≡◌, ℕ, ◌+◌, true, false, List, [], ◌∷◌, ◌++◌, length, take, drop, ap, ◌∙◌, sym, refl, ⊎_elim, arith}
use Rattle.std.specs.List.{list_all, prefix_len}
use lib.Seq.{take-append_seam, drop-append_seam}
use Rattle.std.proofs.lemmas.Bool.{cases_Bool, cond-true, cond-false, and_parts, and_from, false≢true}
use Rattle.std.proofs.lemmas.List.Folds.{list_all-append}
use Rattle.v_lex.specs.declared.bytes.ByteClass.{ByteClass}
use Rattle.v_lex.specs.Bytes.{is_in, run}
use Rattle.v_lex.specs.Spelling.{AllIn}
use Rattle.v_lex.specs.Gaps.{Stops}

-- two fronts of one text that are equally long
pub same_fronts : (xs ys us vs : List ℕ) → xs ++ ys ≡ us ++ vs → length xs ≡ length us → (xs ≡ us) × (ys ≡ vs)
same_fronts xs ys us vs e n = (
  sym (take-append_seam xs ys) ∙ ap (take (length xs)) e ∙ ap (λ (k : ℕ). take k (us ++ vs)) n ∙ take-append_seam us vs,
  sym (drop-append_seam xs ys) ∙ ap (drop (length xs)) e ∙ ap (λ (k : ℕ). drop k (us ++ vs)) n ∙ drop-append_seam us vs,
)

-- the longest front of a class, and the rest
pub record Split (c : ByteClass) (text : List ℕ) : Type 0 where
  pub front : List ℕ
  pub rest : List ℕ
  pub is : text ≡ front ++ rest
  pub all : AllIn c front
  pub stops : Stops c rest

module _ (c : ByteClass) where
  pub split : (text : List ℕ) → Split c text
  split [] = record { front = []; rest = []; is = refl; all = refl; stops = tt }
  split (b ∷ bs) =
      let s = split bs in
      ⊎_elim
      (λ (yes : is_in c b ≡ true). record {
        front = b ∷ s.front;
        rest = s.rest;
        is = ap (λ (xs : List ℕ). b ∷ xs) s.is;
        all = and_from (is_in c b) (list_all (is_in c) s.front) yes s.all;
        stops = s.stops;
      })
      (λ (no : is_in c b ≡ false). record { front = []; rest = b ∷ bs; is = refl; all = refl; stops = no })
      (cases_Bool (is_in c b))

  pub run_is : (xs ys : List ℕ) → AllIn c xs → Stops c ys → run c (xs ++ ys) ≡ length xs
  unfolding run
  run_is [] [] all stops = refl
  run_is [] (y ∷ ys) all stops = cond-false (is_in c y) (1 + prefix_len (is_in c) ys) 0 stops
  run_is (x ∷ xs) ys all stops =
      let parts = and_parts (is_in c x) (list_all (is_in c) xs) all in
      let e = cond-true (is_in c x) (1 + prefix_len (is_in c) (xs ++ ys)) 0 parts.0 in
      let h = run_is xs ys parts.1 stops in
      omega (arith, e, h)

  pub one_split : (xs ys us vs : List ℕ) → xs ++ ys ≡ us ++ vs → AllIn c xs → Stops c ys → AllIn c us → Stops c vs → (xs ≡ us) × (ys ≡ vs)
  one_split xs ys us vs e all stops others stops_too =
      same_fronts xs ys us vs e (sym (run_is xs ys all stops) ∙ ap (run c) e ∙ run_is us vs others stops_too)

  -- nothing of the class stands where a run stops
  pub nothing_more : (more rest : List ℕ) → AllIn c more → Stops c (more ++ rest) → more ≡ []
  nothing_more [] rest all stops = refl
  nothing_more (m ∷ more) rest all stops =
      let parts = and_parts (is_in c m) (list_all (is_in c) more) all in
      absurd (false≢true (sym stops ∙ parts.0))

  pub all_parts : (xs ys : List ℕ) → AllIn c (xs ++ ys) → AllIn c xs × AllIn c ys
  all_parts xs ys h = and_parts (list_all (is_in c) xs) (list_all (is_in c) ys) (sym (list_all-append (is_in c) xs ys) ∙ h)

  pub all_from : (xs ys : List ℕ) → AllIn c xs → AllIn c ys → AllIn c (xs ++ ys)
  all_from xs ys h k = list_all-append (is_in c) xs ys ∙ and_from (list_all (is_in c) xs) (list_all (is_in c) ys) h k

  pub all_one : (b : ℕ) → is_in c b ≡ true → AllIn c (b ∷ [])
  all_one b h = and_from (is_in c b) true h refl

  -- where each byte that could go on is refused, the run stops
  pub stops_here : (behind : List ℕ) → ((b : ℕ) (rest : List ℕ) → behind ≡ b ∷ rest → is_in c b ≡ true → ⊥) → Stops c behind
  stops_here [] h = tt
  stops_here (b ∷ rest) h = ⊎_elim
      (λ (yes : is_in c b ≡ true). absurd (h b rest refl yes))
      (λ (no : is_in c b ≡ false). no)
      (cases_Bool (is_in c b))
