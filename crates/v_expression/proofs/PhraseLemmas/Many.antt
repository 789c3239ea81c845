-- A phrase any number of times.
use Rattle.std.proofs.Common.{◌≡◌, ℕ, zero, suc, ◌≤◌, ◌<◌, Bool, true, false, List, [], ◌∷◌, length, Ok, Err, refl, sym, ap, ◌∙◌, arith, ◌⊎◌, inl, inr}
use Rattle.v_syntax.specs.declared.token.Token.{Token}
use Rattle.v_syntax.specs.Phrases.{Phrase, Each}
use Rattle.v_syntax.specs.Phrases as phrase
use Rattle.v_expression.specs.Phrase.Stops.{Stop, TooDeep}
use Rattle.v_expression.proofs.PhraseLemmas.Suffixes.{at_most_or_more}
use Rattle.v_expression.proofs.PhraseLemmas.Extends.{Extends, extends_then}
use Rattle.v_expression.proofs.PhraseLemmas.Passes.{Passes, passes_more, passes_then}
use Rattle.v_expression.proofs.PhraseLemmas.Suffixes.{IsSuffix, suffix_trans, suffix_within, suffix_same}
use Rattle.v_expression.specs.Phrase.Readers.{Reader, many_by}
use Rattle.v_expression.specs.Phrase.Readers as read
use Rattle.v_expression.specs.Phrase.Kinds.{kind_at, Kinds, without, Within, Tells}
use Rattle.v_expression.proofs.PhraseLemmas.KindLaws.{and_left, and_right, not_true, true_or_false, within}
use Rattle.v_expression.proofs.PhraseLemmas.Laws.{left, Goes, Reached, Starts, Takes, Spells, Laws, Ready, ok_same, ok_err, length_same}
use Rattle.v_expression.proofs.PhraseLemmas.Ready.{near_or_here, goes_through}
use Rattle.v_expression.proofs.PhraseLemmas.Tokens.{suffix_of, as_long}
use Rattle.v_expression.proofs.PhraseLemmas.Both.{BothFailed, both_read, both_failed}

-- ---- trees

module _ {A : Type 0} (n : ℕ) {P : ℕ → Phrase Token A} {s : Kinds} (l : Spells n P s false) where
  abbrev M : ℕ → Phrase Token (List A)
  M m = phrase.many (P m)

  pub takes_one : (here rest : List Token) (x : A) → (P n).whole x here rest → (s (kind_at here) ≡ true) × (length rest < length here)
  takes_one here rest x w = go (l.begun x here rest w)
    where
      go : Takes s false here rest → (s (kind_at here) ≡ true) × (length rest < length here)
      go (inl (e, h)) = absurd (let f : false ≡ true = e in cc)
      go (inr h) = h

  -- whole ones, and perhaps a partial one
  abbrev Cut : List A → List Token → List Token → List Token → Type 0
  Cut xs here mid rest = Each (P n).whole xs here mid × ((mid ≡ rest) ⊎ (P n).front mid rest)

  each_taller : (m : ℕ) (xs : List A) (here rest : List Token) → n ≤ m → Each (P n).whole xs here rest → Each (P m).whole xs here rest
  each_taller m [] here rest h e = e
  each_taller m (x ∷ xs) here rest h (mid, w, e) = (mid, l.taller m x here mid h w, each_taller m xs mid rest h e)

  pub each_between : (xs : List A) (here rest : List Token) → Each (P n).whole xs here rest → IsSuffix rest here
  each_between [] here rest e = suffix_of here rest e
  each_between (x ∷ xs) here rest (mid, w, e) = suffix_trans rest mid here (each_between xs mid rest e) (l.between here mid (l.full x here mid w))

  pub many_higher : (m : ℕ) (here rest : List Token) → n ≤ m → (M n).front here rest → (M m).front here rest
  many_higher m here rest h (xs, mid, e, f) = (xs, mid, each_taller m xs here mid h e, go f)
    where
      go : (mid ≡ rest) ⊎ (P n).front mid rest → (mid ≡ rest) ⊎ (P m).front mid rest
      go (inl g) = inl g
      go (inr g) = inr (l.higher m mid rest h g)

  many_between : (here rest : List Token) → (M n).front here rest → IsSuffix rest here
  many_between here rest (xs, mid, e, f) = suffix_trans rest mid here (go f) (each_between xs here mid e)
    where
      go : (mid ≡ rest) ⊎ (P n).front mid rest → IsSuffix rest mid
      go (inl g) = suffix_of mid rest g
      go (inr g) = l.between mid rest g

  cut_shorter : (xs : List A) (here us rest mid : List Token) → Cut xs here us rest → IsSuffix mid here → length rest ≤ length mid → (M n).front here mid
  cut_shorter [] here us rest mid (e, inl g) z k =
      ([], here, refl, inl (suffix_same here mid z (let a : length here ≡ length us = length_same here us e in let b : length us ≡ length rest = length_same us rest g in omega arith)))
  cut_shorter [] here us rest mid (e, inr f) z k = ([], here, refl, inr (l.shorter here rest mid (rw e f) z k))
  cut_shorter (x ∷ xs) here us rest mid ((vs, w, e), f) z k = go (λ y. cut_shorter xs vs us rest mid (e, f) y k) (at_most_or_more (length vs) (length mid))
    where
      go : (IsSuffix mid vs → (M n).front vs mid) → (length vs ≤ length mid) ⊎ (length mid < length vs) → (M n).front here mid
      go others (inl h) = ([], here, refl, inr (l.shorter here vs mid (l.full x here vs w) z h))
      go others (inr h) =
          let d = others (suffix_within here vs mid (l.between here vs (l.full x here vs w)) z (omega arith)) in
          (x ∷ d.0, d.1, (vs, w, d.2), d.3)

  pub cut_starts : (xs : List A) (here us rest : List Token) → Cut xs here us rest → Starts s here rest
  cut_starts [] here us rest (e, inl g) = inl (e ∙ g)
  cut_starts [] here us rest (e, inr f) = l.starting here rest (rw e f)
  cut_starts (x ∷ xs) here us rest ((vs, w, e), f) = inr (takes_one here vs x w).0

  each_begun : (xs : List A) (here rest : List Token) → Each (P n).whole xs here rest → Takes s true here rest
  each_begun [] here rest e = inl (refl, e)
  each_begun (x ∷ xs) here rest (mid, w, e) =
      let d = takes_one here mid x w in
      inr (d.0, omega (arith, no_more xs mid rest e))
    where
      no_more : (xs : List A) (here rest : List Token) → Each (P n).whole xs here rest → length rest ≤ length here
      no_more [] here rest e = omega (arith, as_long here rest e, as_long rest here (sym e))
      no_more (x ∷ xs) here rest (mid, w, e) = omega (arith, (takes_one here mid x w).1, no_more xs mid rest e)

  pub many_spells : Spells n (λ m. phrase.many (P m)) s true
  many_spells = record {
    full = λ xs here rest e. (xs, rest, e, inl refl);
    none = λ here k. ([], here, refl, inl refl);
    roomy = λ here rest f. tt;
    higher = many_higher;
    taller = λ m xs here rest h e. each_taller m xs here rest h e;
    more = λ m h k. tt;
    between = many_between;
    shorter = λ here rest mid f z k. cut_shorter f.0 here f.1 rest mid (f.2, f.3) z k;
    starting = λ here rest f. cut_starts f.0 here f.1 rest (f.2, f.3);
    begun = each_begun;
  }

-- ---- readers

module _ {A : Type 0} (n : ℕ) {P : ℕ → Phrase Token A} {s t : Kinds} {p : ℕ → Reader A} (test : List Token → Bool) (tells : Tells test s) (l : Laws n P s false t p) (ready : Ready n P s p) (ends : Within s t) where
  abbrev N : ℕ → Phrase Token (List A)
  N m = phrase.many (P m)

  abbrev r : ℕ → ℕ → Reader (List A)
  r m k here = many_by test (p m) k here

  abbrev turn : ℕ → ℕ → Reader (List A)
  turn m k = read.both ◌∷◌ (p m) (r m k)

  stop_now : (m k : ℕ) (here : List Token) → s (kind_at here) ≡ false → r m k here ≡ Ok ([], here)
  unfolding many_by
  stop_now m zero here h = refl
  stop_now m (suc k) here h = rw (tells here, h) refl

  none_left : (m : ℕ) (here : List Token) → r m zero here ≡ Ok ([], here)
  unfolding many_by
  none_left m here = refl

  one_more : (m k : ℕ) (here : List Token) → s (kind_at here) ≡ true → r m (suc k) here ≡ turn m k here
  unfolding many_by
  one_more m k here h = rw (tells here, h) refl

  -- a turn is taken, or nothing is read
  turn_case : (k : ℕ) (here : List Token) → ((j : ℕ) × (k ≡ suc j) × (s (kind_at here) ≡ true) × (r n k here ≡ turn n j here)) ⊎ (r n k here ≡ Ok ([], here))
  turn_case zero here = inr (none_left n here)
  turn_case (suc j) here = go (true_or_false (s (kind_at here)))
    where
      go : (s (kind_at here) ≡ true) ⊎ (s (kind_at here) ≡ false) → ((i : ℕ) × (suc j ≡ suc i) × (s (kind_at here) ≡ true) × (r n (suc j) here ≡ turn n i here)) ⊎ (r n (suc j) here ≡ Ok ([], here))
      go (inl h) = inl (j, refl, h, one_more n j here h)
      go (inr h) = inr (stop_now n (suc j) here h)

  abbrev Is : List A → List Token → List Token → Type 0
  Is xs here rest = Each (P n).whole xs here rest

  is_none : (xs : List A) (here us rest : List Token) → ([] ≡ xs) → us ≡ rest → here ≡ us → Is xs here rest
  is_none [] here us rest e f g = g ∙ f
  is_none (x ∷ xs) here us rest e f g = absurd (let h : [] ≡ x ∷ xs = e in cc)

  is_more : (x : A) (xs zs : List A) (here mid rest : List Token) → x ∷ xs ≡ zs → (P n).whole x here mid → Is xs mid rest → Is zs here rest
  is_more x xs [] here mid rest e w i = absurd (let h : x ∷ xs ≡ [] = e in cc)
  is_more x xs (z ∷ zs) here mid rest e w i =
      let a : x ≡ z = cc in
      let b : xs ≡ zs = cc in
      (mid, rw (← a) w, rw (← b) i)

  sound : (k : ℕ) (here : List Token) (xs : List A) (rest : List Token) → r n k here ≡ Ok (xs, rest) → Is xs here rest
  sound zero here xs rest e = let d = ok_same [] xs here rest (sym (none_left n here) ∙ e) in is_none xs here here rest d.0 d.1 refl
  sound (suc k) here xs rest e = go (λ mid ys. sound k mid ys rest) (true_or_false (s (kind_at here)))
    where
      go : ((mid : List Token) (ys : List A) → r n k mid ≡ Ok (ys, rest) → Is ys mid rest) → (s (kind_at here) ≡ true) ⊎ (s (kind_at here) ≡ false) → Is xs here rest
      go others (inl h) =
          let (x, ys, mid, a, b, c) = both_read ◌∷◌ (p n) (r n k) here xs rest (sym (one_more n k here h) ∙ e) in
          is_more x ys xs here mid rest c (l.reads.sound here x mid a) (others mid ys b)
      go others (inr h) = let d = ok_same [] xs here rest (sym (stop_now n (suc k) here h) ∙ e) in is_none xs here here rest d.0 d.1 refl

  near : (k : ℕ) (here : List Token) (stop : Stop) → r n k here ≡ Err stop → Reached (N n) here (left stop)
  near zero here stop e = absurd (ok_err ([], here) stop (sym (none_left n here) ∙ e))
  near (suc k) here stop e = go (λ mid. near k mid stop) (true_or_false (s (kind_at here)))
    where
      here_or : Reached (P n) here (left stop) ⊎ (length here ≡ left stop) → Reached (N n) here (left stop)
      here_or (inl (rest, f, z)) = (rest, ([], here, refl, inr f), z)
      here_or (inr z) = (here, ([], here, refl, inl refl), z)

      failed : ((mid : List Token) → r n k mid ≡ Err stop → Reached (N n) mid (left stop)) → s (kind_at here) ≡ true → BothFailed (p n) (r n k) here stop → Reached (N n) here (left stop)
      failed others h (inl f) = here_or (near_or_here l ready here h stop f)
      failed others h (inr (x, mid, f, g)) = let d = others mid g in (d.0, (x ∷ d.1.0, d.1.1, (mid, l.reads.sound here x mid f, d.1.2), d.1.3), d.2)

      go : ((mid : List Token) → r n k mid ≡ Err stop → Reached (N n) mid (left stop)) → (s (kind_at here) ≡ true) ⊎ (s (kind_at here) ≡ false) → Reached (N n) here (left stop)
      go others (inl h) = failed others h (both_failed ◌∷◌ (p n) (r n k) here stop (sym (one_more n k here h) ∙ e))
      go others (inr h) = absurd (ok_err ([], here) stop (sym (stop_now n (suc k) here h) ∙ e))

  through : (k : ℕ) (here : List Token) (j : ℕ) → r n k here ≡ Err (TooDeep j) → Goes n N here j
  through zero here j e = absurd (ok_err ([], here) (TooDeep j) (sym (none_left n here) ∙ e))
  through (suc k) here j e = go (λ mid. through k mid j) (true_or_false (s (kind_at here)))
    where
      failed : ((mid : List Token) → r n k mid ≡ Err (TooDeep j) → Goes n N mid j) → s (kind_at here) ≡ true → BothFailed (p n) (r n k) here (TooDeep j) → Goes n N here j
      failed others h (inl f) = let d = goes_through l ready here h j f in (d.0, d.1, d.2, ([], here, refl, inr d.3), d.4)
      failed others h (inr (x, mid, f, g)) =
          let d = others mid g in
          (d.0, d.1, d.2, (x ∷ d.3.0, d.3.1, (mid, l.spells.taller d.0 x here mid d.1 (l.reads.sound here x mid f), d.3.2), d.3.3), d.4)

      go : ((mid : List Token) → r n k mid ≡ Err (TooDeep j) → Goes n N mid j) → (s (kind_at here) ≡ true) ⊎ (s (kind_at here) ≡ false) → Goes n N here j
      go others (inl h) = failed others h (both_failed ◌∷◌ (p n) (r n k) here (TooDeep j) (sym (one_more n k here h) ∙ e))
      go others (inr h) = absurd (ok_err ([], here) (TooDeep j) (sym (stop_now n (suc k) here h) ∙ e))

  kept : (m : ℕ) → n ≤ m → (k : ℕ) (here : List Token) → Extends (r n k here) (r m k here)
  kept m z zero here = rw (none_left n here, none_left m here) refl
  kept m z (suc k) here = go (kept m z k) (true_or_false (s (kind_at here)))
    where
      go : ((us : List Token) → Extends (r n k us) (r m k us)) → (s (kind_at here) ≡ true) ⊎ (s (kind_at here) ≡ false) → Extends (r n (suc k) here) (r m (suc k) here)
      go others (inl h) = rw (one_more n k here h, one_more m k here h)
          (extends_then _ _ (λ x. extends_then _ _ (λ y. refl) (r n k x.1) (r m k x.1) (others x.1)) (p n here) (p m here) (l.reads.kept m here z))
      go others (inr h) = rw (stop_now n (suc k) here h, stop_now m (suc k) here h) refl

  -- behind one of them another, or what ends them all
  ends_one : (xs : List A) (mid rest : List Token) → Is xs mid rest → without t s (kind_at rest) ≡ true → t (kind_at mid) ≡ true
  ends_one [] mid rest e h = ap (λ z. t (kind_at z)) e ∙ and_right _ (t (kind_at rest)) h
  ends_one (x ∷ xs) mid rest (us, w, e) h = within s t ends (kind_at mid) (takes_one n l.spells mid us x w).0

  again : (k : ℕ) (xs : List A) (here rest : List Token) → length here ≤ k → Is xs here rest → without t s (kind_at rest) ≡ true → r n k here ≡ Ok (xs, rest)
  again k [] here rest z e h = stop_now n k here (ap (λ z. s (kind_at z)) e ∙ not_true (s (kind_at rest)) (and_left _ (t (kind_at rest)) h)) ∙ ap (λ z. Ok ([], z)) e
  again zero (x ∷ xs) here rest z (mid, w, e) h = absurd (omega (arith, (takes_one n l.spells here mid x w).1))
  again (suc k) (x ∷ xs) here rest z (mid, w, e) h =
      let d = takes_one n l.spells here mid x w in
      one_more n k here d.0 ∙ rw (l.reads.again x here mid w (ends_one xs mid rest e h), again k xs mid rest (omega (arith, d.1)) e h) refl

  forward : (k : ℕ) (here : List Token) → Passes (length here) (r n k here)
  forward zero here = rw (none_left n here) (omega arith)
  forward (suc k) here = go (forward k) (true_or_false (s (kind_at here)))
    where
      go : ((us : List Token) → Passes (length us) (r n k us)) → (s (kind_at here) ≡ true) ⊎ (s (kind_at here) ≡ false) → Passes (length here) (r n (suc k) here)
      go others (inl h) = rw (one_more n k here h)
          (passes_then (length here) _ (λ x us z. passes_then (length here) _ (λ y vs v. v) (r n k us) (passes_more (length us) (length here) (r n k us) z (others us))) (p n here) (l.reads.forward here))
      go others (inr h) = rw (stop_now n (suc k) here h) (omega arith)

  abbrev Cuts : List A → List Token → List Token → List Token → Type 0
  Cuts xs here mid rest = Each (P n).whole xs here mid × ((mid ≡ rest) ⊎ (P n).front mid rest)

  nothing_passes : (k : ℕ) (here rest : List Token) → here ≡ rest → Passes (length rest) (r n k here)
  nothing_passes k here rest e = passes_more (length here) (length rest) (r n k here) (as_long here rest e) (forward k here)

  far : (k : ℕ) (xs : List A) (here mid rest : List Token) → length here ≤ k → Cuts xs here mid rest → Passes (length rest) (r n k here)
  far k [] here mid rest z (e, inl f) = nothing_passes k here rest (e ∙ f)
  far zero [] here mid rest z (e, inr f) = rw (none_left n here) (omega arith)
  far (suc k) [] here mid rest z (e, inr f) = go (l.spells.starting here rest (rw e f))
    where
      go : Starts s here rest → Passes (length rest) (r n (suc k) here)
      go (inl g) = nothing_passes (suc k) here rest g
      go (inr h) = rw (one_more n k here h)
          (passes_then (length rest) _ (λ x us y. passes_then (length rest) _ (λ y vs v. v) (r n k us) (passes_more (length us) (length rest) (r n k us) y (forward k us))) (p n here) (l.reads.far here rest (rw e f)))
  far zero (x ∷ xs) here mid rest z ((us, w, e), f) = absurd (omega (arith, (takes_one n l.spells here us x w).1))
  far (suc k) (x ∷ xs) here mid rest z ((us, w, e), f) = go (λ y. far k xs us mid rest y (e, f)) (cut_starts n l.spells xs us mid rest (e, f))
    where
      starts_here : s (kind_at here) ≡ true
      starts_here = (takes_one n l.spells here us x w).0

      go : (length us ≤ k → Passes (length rest) (r n k us)) → Starts s us rest → Passes (length rest) (r n (suc k) here)
      go others (inl g) = rw (one_more n k here starts_here)
          (passes_then (length rest) _ (λ x vs y. passes_then (length rest) _ (λ y vs v. v) (r n k vs) (passes_more (length vs) (length rest) (r n k vs) y (forward k vs))) (p n here)
          (passes_more (length us) (length rest) (p n here) (as_long us rest g) (l.reads.far here us (l.spells.full x here us w))))
      go others (inr h) = rw (one_more n k here starts_here, l.reads.again x here us w (within s t ends (kind_at us) h))
          (passes_then (length rest) _ (λ y vs v. v) (r n k us) (others (omega (arith, (takes_one n l.spells here us x w).1))))

  pub many_laws : Laws n (λ m. phrase.many (P m)) s true (without t s) (λ m. read.many test (p m))
  many_laws = record {
    spells = many_spells n l.spells;
    reads = record {
      sound = λ here xs rest e. sound (length here) here xs rest e;
      near = λ here stop k e. near (length here) here stop e;
      through = λ here j k e. through (length here) here j e;
      kept = λ m here z. kept m z (length here) here;
      again = λ xs here rest e h. again (length here) xs here rest (omega arith) e h;
      forward = λ here. forward (length here) here;
      far = λ here rest f. far (length here) f.0 here f.1 rest (omega arith) (f.2, f.3);
    };
  }
