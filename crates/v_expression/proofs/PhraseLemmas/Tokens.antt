-- Phrases of at most one token.
use Rattle.std.proofs.Common.{◌≡◌, ℕ, suc, ◌-◌, ◌≤◌, Bool, true, false, List, [], ◌∷◌, length, Option, Some, None, Ok, Err, refl, sym, ap, ◌∙◌, arith, ◌⊎◌, inl, inr, if◌then◌else◌}
use Rattle.v_syntax.specs.declared.token.Token.{Token}
use Rattle.v_syntax.specs.declared.token.Token.TheVariants as token
use Rattle.v_syntax.specs.declared.mark.Mark.{Mark}
use Rattle.v_syntax.specs.declared.word.Keyword.{Keyword}
use Rattle.v_syntax.specs.Phrases.{Phrase}
use Rattle.v_syntax.specs.Phrases as phrase
use Rattle.v_expression.specs.Phrase.Stops.{Stop, Syntax, TooDeep, Answer, ◌>>=◌, is_mark, after, syntax_at}
use Rattle.v_expression.proofs.PhraseLemmas.Extends.{same}
use Rattle.v_expression.proofs.PhraseLemmas.Passes.{Passes, passes_more}
use Rattle.v_expression.proofs.PhraseLemmas.Suffixes.{IsSuffix, suffix_self, suffix_cons, suffix_same, first_cut}
use Rattle.v_expression.specs.Phrase.Readers.{Reader, is_word, is_some, meant, starts_with}
use Rattle.v_expression.specs.Phrase.Readers as read
use Rattle.v_expression.specs.Phrase.Kinds.{AtEnd, kind_at, kind_of, Kinds, no_kind, any_kind, a_mark, a_word, Tells}
use Rattle.v_expression.proofs.PhraseLemmas.KindLaws.{same_mark_self, same_word_is, same_word_self, tells_mark, tells_word, true_or_false}
use Rattle.v_expression.proofs.PhraseLemmas.Marks.{is_mark_is}
use Rattle.v_expression.proofs.PhraseLemmas.Change.{reread}
use Rattle.v_expression.proofs.PhraseLemmas.Laws.{left, Starts, Laws, ok_same, ok_err, err_ok, left_same, length_same}

-- what is spelled by nothing
pub suffix_of : (here rest : List Token) → here ≡ rest → IsSuffix rest here
suffix_of here rest e = ([], e)

pub cut_nothing : (here rest mid : List Token) → here ≡ rest → IsSuffix mid here → length rest ≤ length mid → here ≡ mid
cut_nothing here rest mid e s l = suffix_same here mid s (let g : length here ≡ length rest = length_same here rest e in omega arith)

pub as_long : (here rest : List Token) → here ≡ rest → length here ≤ length rest
as_long here rest e = let g : length here ≡ length rest = length_same here rest e in omega arith

-- ---- no token

pub nothing_laws : {A : Type 0} (x : A) (n : ℕ) → Laws n (λ m. phrase.nothing x) no_kind true any_kind (λ m. read.nothing x)
nothing_laws x n = record {
  spells = record {
    full = λ y here rest w. w.1;
    none = λ here k. refl;
    roomy = λ here rest f. tt;
    higher = λ m here rest h f. f;
    taller = λ m y here rest h w. w;
    more = λ m h k. tt;
    between = suffix_of;
    shorter = cut_nothing;
    starting = λ here rest f. inl f;
    begun = λ y here rest w. inl (refl, w.1);
  };
  reads = record {
    sound = λ here y rest e. ok_same x y here rest e;
    near = λ here s k e. absurd (ok_err (x, here) s e);
    through = λ here k m e. absurd (ok_err (x, here) (TooDeep k) e);
    kept = λ m here h. refl;
    again = λ y here rest w s. ap (λ z. Ok (z, here)) w.0 ∙ ap (λ z. Ok (y, z)) w.1;
    forward = λ here. as_long here here refl;
    far = as_long;
  };
}

pub place_in_laws : (end n : ℕ) → Laws n (λ m. phrase.place_in {K = Token} end) no_kind true any_kind (λ m. read.place_in end)
place_in_laws end n = record {
  spells = record {
    full = λ y here rest w. w.1;
    none = λ here k. refl;
    roomy = λ here rest f. tt;
    higher = λ m here rest h f. f;
    taller = λ m y here rest h w. w;
    more = λ m h k. tt;
    between = suffix_of;
    shorter = cut_nothing;
    starting = λ here rest f. inl f;
    begun = λ y here rest w. inl (refl, w.1);
  };
  reads = record {
    sound = λ here y rest e. let s = ok_same (end - length here) y here rest e in (sym s.0, s.1);
    near = λ here s k e. absurd (ok_err (end - length here, here) s e);
    through = λ here k m e. absurd (ok_err (end - length here, here) (TooDeep k) e);
    kept = λ m here h. refl;
    again = λ y here rest w s. ap (λ z. Ok (z, here)) (sym w.0) ∙ ap (λ z. Ok (y, z)) w.1;
    forward = λ here. as_long here here refl;
    far = as_long;
  };
}

-- ---- a token

cut_token : (t : Token) (here rest mid : List Token) → (here ≡ rest) ⊎ (here ≡ t ∷ rest) → IsSuffix mid here → length rest ≤ length mid → (here ≡ mid) ⊎ (here ≡ t ∷ mid)
cut_token t here rest mid (inl e) s l = inl (cut_nothing here rest mid e s l)
cut_token t here rest mid (inr e) s l = go (first_cut t here rest mid e s)
  where
    go : (here ≡ mid) ⊎ IsSuffix mid rest → (here ≡ mid) ⊎ (here ≡ t ∷ mid)
    go (inl h) = inl h
    go (inr h) = inr (e ∙ ap (λ z. t ∷ z) (suffix_same rest mid h l))

one_less : (t : Token) (here rest : List Token) → here ≡ t ∷ rest → length here ≡ suc (length rest)
one_less t here rest e = ap length e

module _ (t : Token) (is : Token → Bool) (s : Kinds) (self : is t ≡ true) (only : (u : Token) → is u ≡ true → u ≡ t) (tells : Tells (starts_with is) s) where
  abbrev One : ℕ → Phrase Token (Unit {0})
  One m = phrase.exactly t

  stands : (here rest : List Token) → here ≡ t ∷ rest → s (kind_at here) ≡ true
  stands here rest e = ap (λ z. s (kind_at z)) e ∙ sym (tells (t ∷ rest)) ∙ self

  read_case : (here : List Token) → ((us : List Token) × (here ≡ t ∷ us) × (read.exactly is here ≡ Ok (tt, us))) ⊎ (read.exactly is here ≡ syntax_at here)
  read_case [] = inr refl
  read_case (u ∷ us) = go (true_or_false (is u))
    where
      go : (is u ≡ true) ⊎ (is u ≡ false) → ((vs : List Token) × (u ∷ us ≡ t ∷ vs) × (read.exactly is (u ∷ us) ≡ Ok (tt, vs))) ⊎ (read.exactly is (u ∷ us) ≡ syntax_at (u ∷ us))
      go (inl h) = inl (us, ap (λ z. z ∷ us) (only u h), rw h refl)
      go (inr h) = inr (rw h refl)

  token_starts : (here rest : List Token) → (One 0).front here rest → Starts s here rest
  token_starts here rest (inl e) = inl e
  token_starts here rest (inr e) = inr (stands here rest e)

  token_between : (here rest : List Token) → (One 0).front here rest → IsSuffix rest here
  token_between here rest (inl e) = suffix_of here rest e
  token_between here rest (inr e) = suffix_cons t here rest rest e (suffix_self rest)

  abbrev at : List Token → Answer (Unit {0})
  at here = read.exactly is here

  token_sound : (here : List Token) (x : Unit {0}) (rest : List Token) → at here ≡ Ok (x, rest) → here ≡ t ∷ rest
  token_sound here x rest e = go (read_case here)
    where
      go : ((us : List Token) × (here ≡ t ∷ us) × (at here ≡ Ok (tt, us))) ⊎ (at here ≡ syntax_at here) → here ≡ t ∷ rest
      go (inl (us, h, f)) = h ∙ ap (λ z. t ∷ z) (ok_same tt x us rest (sym f ∙ e)).1
      go (inr f) = absurd (err_ok (x, rest) (Syntax (length here)) (sym f ∙ e))

  token_near : (here : List Token) (st : Stop) → at here ≡ Err st → (length here ≡ left st)
  token_near here st e = go (read_case here)
    where
      go : ((us : List Token) × (here ≡ t ∷ us) × (at here ≡ Ok (tt, us))) ⊎ (at here ≡ syntax_at here) → length here ≡ left st
      go (inl (us, h, f)) = absurd (ok_err (tt, us) st (sym f ∙ e))
      go (inr f) = left_same {A = Unit {0}} (Syntax (length here)) st (sym f ∙ e)

  token_through : (here : List Token) (k : ℕ) → at here ≡ Err (TooDeep k) → ⊥
  token_through here k e = go (read_case here)
    where
      go : ((us : List Token) × (here ≡ t ∷ us) × (at here ≡ Ok (tt, us))) ⊎ (at here ≡ syntax_at here) → ⊥
      go (inl (us, h, f)) = ok_err (tt, us) (TooDeep k) (sym f ∙ e)
      go (inr f) = let g : syntax_at here ≡ Err (TooDeep k) = sym f ∙ e in cc

  token_again : (here rest : List Token) → here ≡ t ∷ rest → at here ≡ Ok (tt, rest)
  token_again here rest e = rw (e, self) refl

  token_forward : (here : List Token) → Passes (length here) (at here)
  token_forward here = go (read_case here)
    where
      go : ((us : List Token) × (here ≡ t ∷ us) × (at here ≡ Ok (tt, us))) ⊎ (at here ≡ syntax_at here) → Passes (length here) (at here)
      go (inl (us, h, f)) = rw f (omega (arith, one_less t here us h))
      go (inr f) = rw f (omega arith)

  token_far : (here rest : List Token) → (here ≡ rest) ⊎ (here ≡ t ∷ rest) → Passes (length rest) (at here)
  token_far here rest (inl e) = passes_more (length here) (length rest) (at here) (as_long here rest e) (token_forward here)
  token_far here rest (inr e) = rw (token_again here rest e) (omega arith)

  pub token_laws : (n : ℕ) → Laws n (λ m. phrase.exactly t) s false any_kind (λ m. read.exactly is)
  token_laws n = record {
    spells = record {
      full = λ x here rest w. inr w;
      none = λ here k. inl refl;
      roomy = λ here rest f. tt;
      higher = λ m here rest h f. f;
      taller = λ m x here rest h w. w;
      more = λ m h k. tt;
      between = token_between;
      shorter = cut_token t;
      starting = token_starts;
      begun = λ x here rest w. inr (stands here rest w, omega (arith, one_less t here rest w));
    };
    reads = record {
      sound = token_sound;
      near = λ here st k e. (here, inl refl, token_near here st e);
      through = λ here k m e. absurd (token_through here k e);
      kept = λ m here h. same (at here);
      again = λ x here rest w k. token_again here rest w;
      forward = token_forward;
      far = token_far;
    };
  }

is_mark_self : (m : Mark) → is_mark m (token.Mark m) ≡ true
is_mark_self m = same_mark_self m

is_word_only : (k : Keyword) (t : Token) → is_word k t ≡ true → t ≡ token.Keyword k
is_word_only k (token.Keyword w) h = ap token.Keyword (same_word_is w k h)
is_word_only k (token.Name n) h = cc
is_word_only k (token.Mark m) h = cc
is_word_only k (token.Reserved w) h = cc
is_word_only k (token.SystemTask t) h = cc
is_word_only k (token.Number ds) h = cc
is_word_only k (token.Text t) h = cc

sign_same : (m : Mark) (here : List Token) → read.exactly (is_mark m) here ≡ read.sign m here
unfolding after
sign_same m [] = refl
sign_same m (t ∷ ts) = go (true_or_false (is_mark m t))
  where
    go : (is_mark m t ≡ true) ⊎ (is_mark m t ≡ false) → read.exactly (is_mark m) (t ∷ ts) ≡ read.sign m (t ∷ ts)
    go (inl h) = rw h refl
    go (inr h) = rw h refl

pub mark_laws : (m : Mark) (n : ℕ) → Laws n (λ k. phrase.exactly (token.Mark m)) (a_mark m) false any_kind (λ k. read.sign m)
mark_laws m n = reread (token_laws (token.Mark m) (is_mark m) (a_mark m) (same_mark_self m) (is_mark_is m) (tells_mark m) n) (λ k. read.sign m) (λ k here. sign_same m here)

pub word_laws : (w : Keyword) (n : ℕ) → Laws n (λ k. phrase.exactly (token.Keyword w)) (a_word w) false any_kind (λ k. read.exactly (is_word w))
word_laws w n = token_laws (token.Keyword w) (is_word w) (a_word w) (same_word_self w) (is_word_only w) (tells_word w) n

-- ---- a token with a meaning

module _ {A : Type 0} (meaning : Token → Option A) (s : Kinds) (tells : (t : Token) → is_some (meaning t) ≡ s (kind_of t)) where
  abbrev Meant : ℕ → Phrase Token A
  Meant m = phrase.token_of meaning

  means : (t : Token) (x : A) (here rest : List Token) → here ≡ t ∷ rest → meaning t ≡ Some x → s (kind_at here) ≡ true
  means t x here rest e h = ap (λ z. s (kind_at z)) e ∙ sym (tells t) ∙ ap is_some h

  abbrev Found : List Token → Type 0
  Found here = (t : Token) × (us : List Token) × (x : A) × (here ≡ t ∷ us) × (meaning t ≡ Some x) × (read.token_of meaning here ≡ Ok (x, us))

  meant_case : (here : List Token) → Found here ⊎ (read.token_of meaning here ≡ syntax_at here)
  meant_case [] = inr refl
  meant_case (u ∷ us) = go (meaning u) refl
    where
      go : (o : Option A) → meaning u ≡ o → Found (u ∷ us) ⊎ (read.token_of meaning (u ∷ us) ≡ syntax_at (u ∷ us))
      go (Some x) h = inl (u, us, x, refl, h, rw h refl)
      go None h = inr (rw h refl)

  abbrev got : List Token → Answer A
  got here = read.token_of meaning here

  meant_sound : (here : List Token) (x : A) (rest : List Token) → got here ≡ Ok (x, rest) → (Meant 0).whole x here rest
  meant_sound here x rest e = go (meant_case here)
    where
      go : Found here ⊎ (got here ≡ syntax_at here) → (Meant 0).whole x here rest
      go (inl (t, us, y, h, m, f)) = let d = ok_same y x us rest (sym f ∙ e) in (t, h ∙ ap (λ z. t ∷ z) d.1, m ∙ ap (λ z. Some z) d.0)
      go (inr f) = absurd (err_ok (x, rest) (Syntax (length here)) (sym f ∙ e))

  meant_near : (here : List Token) (st : Stop) → got here ≡ Err st → (length here ≡ left st)
  meant_near here st e = go (meant_case here)
    where
      go : Found here ⊎ (got here ≡ syntax_at here) → length here ≡ left st
      go (inl (t, us, y, h, m, f)) = absurd (ok_err (y, us) st (sym f ∙ e))
      go (inr f) = left_same {A = A} (Syntax (length here)) st (sym f ∙ e)

  meant_through : (here : List Token) (k : ℕ) → got here ≡ Err (TooDeep k) → ⊥
  meant_through here k e = go (meant_case here)
    where
      go : Found here ⊎ (got here ≡ syntax_at here) → ⊥
      go (inl (t, us, y, h, m, f)) = ok_err (y, us) (TooDeep k) (sym f ∙ e)
      go (inr f) = let g : syntax_at here ≡ Err (TooDeep k) = sym f ∙ e in cc

  meant_again : (x : A) (here rest : List Token) → (Meant 0).whole x here rest → got here ≡ Ok (x, rest)
  meant_again x here rest (t, e, m) = rw (e, m) refl

  meant_forward : (here : List Token) → Passes (length here) (got here)
  meant_forward here = go (meant_case here)
    where
      go : Found here ⊎ (got here ≡ syntax_at here) → Passes (length here) (got here)
      go (inl (t, us, y, h, m, f)) = rw f (omega (arith, one_less t here us h))
      go (inr f) = rw f (omega arith)

  meant_far : (here rest : List Token) → (Meant 0).front here rest → Passes (length rest) (got here)
  meant_far here rest (inl e) = passes_more (length here) (length rest) (got here) (as_long here rest e) (meant_forward here)
  meant_far here rest (inr (t, x, e, m)) = rw (meant_again x here rest (t, e, m)) (omega arith)

  meant_starts : (here rest : List Token) → (Meant 0).front here rest → Starts s here rest
  meant_starts here rest (inl e) = inl e
  meant_starts here rest (inr (t, x, e, m)) = inr (means t x here rest e m)

  meant_between : (here rest : List Token) → (Meant 0).front here rest → IsSuffix rest here
  meant_between here rest (inl e) = suffix_of here rest e
  meant_between here rest (inr (t, x, e, m)) = suffix_cons t here rest rest e (suffix_self rest)

  meant_shorter : (here rest mid : List Token) → (Meant 0).front here rest → IsSuffix mid here → length rest ≤ length mid → (Meant 0).front here mid
  meant_shorter here rest mid (inl e) z l = inl (cut_nothing here rest mid e z l)
  meant_shorter here rest mid (inr (t, x, e, m)) z l = go (cut_token t here rest mid (inr e) z l)
    where
      go : (here ≡ mid) ⊎ (here ≡ t ∷ mid) → (Meant 0).front here mid
      go (inl h) = inl h
      go (inr h) = inr (t, x, h, m)

  pub meant_laws : (n : ℕ) → Laws n (λ m. phrase.token_of meaning) s false any_kind (λ m. read.token_of meaning)
  meant_laws n = record {
    spells = record {
      full = λ x here rest w. inr (w.0, x, w.1, w.2);
      none = λ here k. inl refl;
      roomy = λ here rest f. tt;
      higher = λ m here rest h f. f;
      taller = λ m x here rest h w. w;
      more = λ m h k. tt;
      between = meant_between;
      shorter = meant_shorter;
      starting = meant_starts;
      begun = λ x here rest w. inr (means w.0 x here rest w.1 w.2, omega (arith, one_less w.0 here rest w.1));
    };
    reads = record {
      sound = meant_sound;
      near = λ here st k e. (here, inl refl, meant_near here st e);
      through = λ here k m e. absurd (meant_through here k e);
      kept = λ m here h. same (got here);
      again = λ x here rest w k. meant_again x here rest w;
      forward = meant_forward;
      far = meant_far;
    };
  }

-- ---- the token that stands there

cons_here : (t : Token) (us : List Token) (u : Token) → u ≡ t → u ∷ us ≡ t ∷ us
cons_here t us u e = ap (λ z. z ∷ us) e

pub word_here : (k : Keyword) (here : List Token) → a_word k (kind_at here) ≡ true → (us : List Token) × (here ≡ token.Keyword k ∷ us)
word_here k [] h = absurd (let e : false ≡ true = h in cc)
word_here k (token.Keyword w ∷ us) h = (us, cons_here (token.Keyword k) us (token.Keyword w) (is_word_only k (token.Keyword w) h))
word_here k (token.Name n ∷ us) h = absurd (let e : false ≡ true = h in cc)
word_here k (token.Mark m ∷ us) h = absurd (let e : false ≡ true = h in cc)
word_here k (token.Reserved w ∷ us) h = absurd (let e : false ≡ true = h in cc)
word_here k (token.SystemTask t ∷ us) h = absurd (let e : false ≡ true = h in cc)
word_here k (token.Number ds ∷ us) h = absurd (let e : false ≡ true = h in cc)
word_here k (token.Text t ∷ us) h = absurd (let e : false ≡ true = h in cc)

pub mark_here : (m : Mark) (here : List Token) → a_mark m (kind_at here) ≡ true → (us : List Token) × (here ≡ token.Mark m ∷ us)
mark_here m [] h = absurd (let e : false ≡ true = h in cc)
mark_here m (token.Mark k ∷ us) h = (us, cons_here (token.Mark m) us (token.Mark k) (is_mark_is m (token.Mark k) h))
mark_here m (token.Name n ∷ us) h = absurd (let e : false ≡ true = h in cc)
mark_here m (token.Keyword w ∷ us) h = absurd (let e : false ≡ true = h in cc)
mark_here m (token.Reserved w ∷ us) h = absurd (let e : false ≡ true = h in cc)
mark_here m (token.SystemTask t ∷ us) h = absurd (let e : false ≡ true = h in cc)
mark_here m (token.Number ds ∷ us) h = absurd (let e : false ≡ true = h in cc)
mark_here m (token.Text t ∷ us) h = absurd (let e : false ≡ true = h in cc)

is_meant : {A : Type 0} (o : Option A) → is_some o ≡ true → (x : A) × (o ≡ Some x)
is_meant (Some x) h = (x, refl)
is_meant None h = absurd (let e : false ≡ true = h in cc)

pub meant_here : {A : Type 0} (meaning : Token → Option A) (s : Kinds) (tells : (t : Token) → is_some (meaning t) ≡ s (kind_of t)) → s AtEnd ≡ false → (here : List Token) → s (kind_at here) ≡ true
    → (t : Token) × (us : List Token) × (x : A) × (here ≡ t ∷ us) × (meaning t ≡ Some x)
meant_here meaning s tells end [] h = absurd (let e : false ≡ true = sym end ∙ h in cc)
meant_here meaning s tells end (t ∷ us) h = let d = is_meant (meaning t) (tells t ∙ h) in (t, us, d.0, refl, d.1)

pub tells_meaning : {A : Type 0} (meaning : Token → Option A) (s : Kinds) → ((t : Token) → is_some (meaning t) ≡ s (kind_of t)) → s AtEnd ≡ false → Tells (starts_with (λ t. is_some (meaning t))) s
tells_meaning meaning s tells end [] = sym end
tells_meaning meaning s tells end (t ∷ ts) = tells t
