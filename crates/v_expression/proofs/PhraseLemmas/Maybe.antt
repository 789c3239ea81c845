-- A phrase that need not stand there.
use Rattle.std.proofs.Common.{◌≡◌, ℕ, ◌≤◌, ◌<◌, Bool, true, false, List, length, Option, Some, None, Ok, Err, refl, sym, ap, ◌∙◌, arith, ◌⊎◌, inl, inr}
use Rattle.v_syntax.specs.declared.token.Token.{Token}
use Rattle.v_syntax.specs.Phrases.{Phrase}
use Rattle.v_syntax.specs.Phrases as phrase
use Rattle.v_expression.specs.Phrase.Stops.{Stop, TooDeep, Answer, ◌>>=◌}
use Rattle.v_expression.proofs.PhraseLemmas.Extends.{Extends, extends_then}
use Rattle.v_expression.proofs.PhraseLemmas.Passes.{Passes, passes_more, passes_then}
use Rattle.v_expression.proofs.PhraseLemmas.Suffixes.{IsSuffix}
use Rattle.v_expression.specs.Phrase.Readers.{Reader}
use Rattle.v_expression.specs.Phrase.Readers as read
use Rattle.v_expression.specs.Phrase.Kinds.{kind_at, Kinds, without, Tells}
use Rattle.v_expression.proofs.PhraseLemmas.KindLaws.{and_left, and_right, not_true, true_or_false}
use Rattle.v_expression.proofs.PhraseLemmas.Laws.{left, Goes, Reached, Starts, Takes, Laws, Ready, ok_same, ok_err, err_ok, err_same}
use Rattle.v_expression.proofs.PhraseLemmas.Ready.{near_or_here, goes_through}
use Rattle.v_expression.proofs.PhraseLemmas.Tokens.{suffix_of, cut_nothing, as_long}

module _ {A : Type 0} (n : ℕ) {P : ℕ → Phrase Token A} {s t : Kinds} {p : ℕ → Reader A} (test : List Token → Bool) (tells : Tells test s) (l : Laws n P s false t p) (ready : Ready n P s p) where
  abbrev M : ℕ → Phrase Token (Option A)
  M m = phrase.maybe (P m)

  abbrev found : A × List Token → Answer (Option A)
  found x = Ok (Some x.0, x.1)

  abbrev r : ℕ → Reader (Option A)
  r m here = read.maybe test (p m) here

  reads_it : (m : ℕ) (here : List Token) → s (kind_at here) ≡ true → r m here ≡ (p m here >>= found)
  reads_it m here h = rw (tells here, h) refl

  reads_none : (m : ℕ) (here : List Token) → s (kind_at here) ≡ false → r m here ≡ Ok (None, here)
  reads_none m here h = rw (tells here, h) refl

  no_takes : (here rest : List Token) (x : A) → (P n).whole x here rest → (s (kind_at here) ≡ true) × (length rest < length here)
  no_takes here rest x w = go (l.spells.begun x here rest w)
    where
      go : Takes s false here rest → (s (kind_at here) ≡ true) × (length rest < length here)
      go (inl (e, h)) = absurd (let f : false ≡ true = e in cc)
      go (inr h) = h

  m_full : (o : Option A) (here rest : List Token) → (M n).whole o here rest → (M n).front here rest
  m_full None here rest e = inl e
  m_full (Some x) here rest w = inr (l.spells.full x here rest w)

  m_higher : (m : ℕ) (here rest : List Token) → n ≤ m → (M n).front here rest → (M m).front here rest
  m_higher m here rest h (inl e) = inl e
  m_higher m here rest h (inr f) = inr (l.spells.higher m here rest h f)

  m_taller : (m : ℕ) (o : Option A) (here rest : List Token) → n ≤ m → (M n).whole o here rest → (M m).whole o here rest
  m_taller m None here rest h e = e
  m_taller m (Some x) here rest h w = l.spells.taller m x here rest h w

  m_between : (here rest : List Token) → (M n).front here rest → IsSuffix rest here
  m_between here rest (inl e) = suffix_of here rest e
  m_between here rest (inr f) = l.spells.between here rest f

  m_shorter : (here rest mid : List Token) → (M n).front here rest → IsSuffix mid here → length rest ≤ length mid → (M n).front here mid
  m_shorter here rest mid (inl e) z k = inl (cut_nothing here rest mid e z k)
  m_shorter here rest mid (inr f) z k = inr (l.spells.shorter here rest mid f z k)

  m_starting : (here rest : List Token) → (M n).front here rest → Starts s here rest
  m_starting here rest (inl e) = inl e
  m_starting here rest (inr f) = l.spells.starting here rest f

  m_begun : (o : Option A) (here rest : List Token) → (M n).whole o here rest → Takes s true here rest
  m_begun None here rest e = inl (refl, e)
  m_begun (Some x) here rest w = inr (no_takes here rest x w)

  found_ok : (here : List Token) (o : Option A) (rest : List Token) → (p n here >>= found) ≡ Ok (o, rest) → (M n).whole o here rest
  found_ok here o rest e = go (p n here) refl e o refl
    where
      go : (a : Answer A) → p n here ≡ a → (a >>= found) ≡ Ok (o, rest) → (q : Option A) → q ≡ o → (M n).whole q here rest
      go (Ok (x, us)) h f None i = absurd (let g = ok_same (Some x) o us rest f in let k : None ≡ Some x = i ∙ sym g.0 in cc)
      go (Ok (x, us)) h f (Some y) i = let g = ok_same (Some x) o us rest f in l.reads.sound here y rest (h ∙ (let k : x ≡ y = cc in ap (λ z. Ok (z, us)) k ∙ ap (λ z. Ok (y, z)) g.1))
      go (Err k) h f q i = absurd (err_ok (o, rest) k f)

  found_err : (here : List Token) (stop : Stop) → (p n here >>= found) ≡ Err stop → p n here ≡ Err stop
  found_err here stop e = go (p n here) refl e
    where
      go : (a : Answer A) → p n here ≡ a → (a >>= found) ≡ Err stop → p n here ≡ Err stop
      go (Ok x) h f = absurd (ok_err (Some x.0, x.1) stop f)
      go (Err k) h f = h ∙ ap (λ z. Err z) (err_same {A = Option A} k stop f)

  m_sound : (here : List Token) (o : Option A) (rest : List Token) → r n here ≡ Ok (o, rest) → (M n).whole o here rest
  m_sound here o rest e = go (true_or_false (s (kind_at here)))
    where
      nowhere : (q : Option A) → None ≡ q → here ≡ rest → (M n).whole q here rest
      nowhere None i h = h
      nowhere (Some y) i h = absurd (let k : None ≡ Some y = i in cc)

      go : (s (kind_at here) ≡ true) ⊎ (s (kind_at here) ≡ false) → (M n).whole o here rest
      go (inl h) = found_ok here o rest (sym (reads_it n here h) ∙ e)
      go (inr h) = let g = ok_same None o here rest (sym (reads_none n here h) ∙ e) in nowhere o g.0 g.1

  m_near : (here : List Token) (stop : Stop) → r n here ≡ Err stop → Reached (M n) here (left stop)
  m_near here stop e = go (true_or_false (s (kind_at here)))
    where
      here_or : Reached (P n) here (left stop) ⊎ (length here ≡ left stop) → Reached (M n) here (left stop)
      here_or (inl (rest, f, k)) = (rest, inr f, k)
      here_or (inr k) = (here, inl refl, k)

      go : (s (kind_at here) ≡ true) ⊎ (s (kind_at here) ≡ false) → Reached (M n) here (left stop)
      go (inl h) = here_or (near_or_here l ready here h stop (found_err here stop (sym (reads_it n here h) ∙ e)))
      go (inr h) = absurd (ok_err (None, here) stop (sym (reads_none n here h) ∙ e))

  m_through : (here : List Token) (k : ℕ) → r n here ≡ Err (TooDeep k) → Goes n M here k
  m_through here k e = go (true_or_false (s (kind_at here)))
    where
      go : (s (kind_at here) ≡ true) ⊎ (s (kind_at here) ≡ false) → Goes n M here k
      go (inl h) = let d = goes_through l ready here h k (found_err here (TooDeep k) (sym (reads_it n here h) ∙ e)) in (d.0, d.1, d.2, inr d.3, d.4)
      go (inr h) = absurd (ok_err (None, here) (TooDeep k) (sym (reads_none n here h) ∙ e))

  m_kept : (m : ℕ) (here : List Token) → n ≤ m → Extends (r n here) (r m here)
  m_kept m here k = go (true_or_false (s (kind_at here)))
    where
      go : (s (kind_at here) ≡ true) ⊎ (s (kind_at here) ≡ false) → Extends (r n here) (r m here)
      go (inl h) = rw (reads_it n here h, reads_it m here h) (extends_then found found (λ x. refl) (p n here) (p m here) (l.reads.kept m here k))
      go (inr h) = rw (reads_none n here h, reads_none m here h) refl

  m_again : (o : Option A) (here rest : List Token) → (M n).whole o here rest → without t s (kind_at rest) ≡ true → r n here ≡ Ok (o, rest)
  m_again None here rest e k = reads_none n here (ap (λ z. s (kind_at z)) e ∙ not_true (s (kind_at rest)) (and_left _ (t (kind_at rest)) k)) ∙ ap (λ z. Ok (None, z)) e
  m_again (Some x) here rest w k = reads_it n here (no_takes here rest x w).0 ∙ rw (l.reads.again x here rest w (and_right _ (t (kind_at rest)) k)) refl

  m_forward : (here : List Token) → Passes (length here) (r n here)
  m_forward here = go (true_or_false (s (kind_at here)))
    where
      go : (s (kind_at here) ≡ true) ⊎ (s (kind_at here) ≡ false) → Passes (length here) (r n here)
      go (inl h) = rw (reads_it n here h) (passes_then (length here) found (λ x us z. z) (p n here) (l.reads.forward here))
      go (inr h) = rw (reads_none n here h) (omega arith)

  m_far : (here rest : List Token) → (M n).front here rest → Passes (length rest) (r n here)
  m_far here rest (inl e) = passes_more (length here) (length rest) (r n here) (as_long here rest e) (m_forward here)
  m_far here rest (inr f) = go (l.spells.starting here rest f)
    where
      go : Starts s here rest → Passes (length rest) (r n here)
      go (inl e) = passes_more (length here) (length rest) (r n here) (as_long here rest e) (m_forward here)
      go (inr h) = rw (reads_it n here h) (passes_then (length rest) found (λ x us z. z) (p n here) (l.reads.far here rest f))

  pub maybe_laws : Laws n (λ m. phrase.maybe (P m)) s true (without t s) (λ m. read.maybe test (p m))
  maybe_laws = record {
    spells = record {
      full = m_full;
      none = λ here k. inl refl;
      roomy = λ here rest f. tt;
      higher = m_higher;
      taller = m_taller;
      more = λ m h k. tt;
      between = m_between;
      shorter = m_shorter;
      starting = m_starting;
      begun = m_begun;
    };
    reads = record {
      sound = m_sound;
      near = λ here stop k e. m_near here stop e;
      through = λ here k z e. m_through here k e;
      kept = m_kept;
      again = m_again;
      forward = m_forward;
      far = m_far;
    };
  }
