-- The laws of a reader that counts levels, as those of a phrase.
use Rattle.std.proofs.Common.{◌≡◌, ℕ, zero, suc, ◌+◌, ◌≤◌, ◌<◌, true, false, List, length, Err, sym, ◌∙◌, arith, inl, inr}
use Rattle.v_syntax.specs.declared.token.Token.{Token}
use Rattle.v_syntax.specs.Phrases.{Phrase}
use Rattle.v_expression.specs.Phrase.Stops.{Stop, Syntax, TooDeep, Answer}
use Rattle.v_expression.proofs.PhraseLemmas.Extends.{Extends}
use Rattle.v_expression.proofs.Laws.{ReaderLaws}
use Rattle.v_expression.specs.Phrase.Readers.{Reader, down}
use Rattle.v_expression.specs.Phrase.Kinds.{kind_at, Kinds}
use Rattle.v_expression.proofs.PhraseLemmas.Laws.{left, Starts, Spells, Laws, err_ok}

module _ {A : Type 0} {spans : A → List Token → List Token → Type 0} {high : A → ℕ} {begins : ℕ → List Token → List Token → Type 0} {stops : List Token → Type 0} {read : ℕ → List Token → Answer A}
    (l : ReaderLaws spans high begins stops read) (s t : Kinds)
    (positive : (x : A) → 1 ≤ high x)
    (first : (x : A) (here rest : List Token) → spans x here rest → s (kind_at here) ≡ true)
    (shrinks : (x : A) (here rest : List Token) → spans x here rest → length rest < length here)
    (begin : (n : ℕ) (here rest : List Token) → begins n here rest → Starts s here rest)
    (ends : (rest : List Token) → t (kind_at rest) ≡ true → stops rest) where
  abbrev R : ℕ → Phrase Token A
  R m = record { whole = λ x here rest. spans x here rest × (high x ≤ m); front = λ here rest. begins m here rest; missing = 1 ≤ m }

  r_spells : (n : ℕ) → Spells n R s false
  r_spells n = record {
    full = λ x here rest w. l.full x n here rest w.0 w.1;
    none = λ here k. l.empty n here k;
    roomy = λ here rest f. l.roomy n here rest f;
    higher = λ m here rest h f. l.higher n m here rest h f;
    taller = λ m x here rest h w. (w.0, omega (arith, w.1));
    more = λ m h k. omega arith;
    between = λ here rest f. l.between n here rest f;
    shorter = λ here rest mid f z k. l.shorter n here rest mid f z k;
    starting = λ here rest f. begin n here rest f;
    begun = λ x here rest w. inr (first x here rest w.0, shrinks x here rest w.0);
  }

  abbrev r : ℕ → Reader A
  r m = down m read

  r_kept : (n m : ℕ) (here : List Token) → n ≤ m → Extends (r n here) (r m here)
  r_kept zero m here h = tt
  r_kept (suc n) zero here h = absurd (omega arith)
  r_kept (suc n) (suc m) here h = l.kept n m here (omega arith)

  abbrev Near : ℕ → List Token → ℕ → Type 0
  Near n here k = (rest : List Token) × begins n here rest × (length rest ≡ k)

  r_near : (room : ℕ) (here : List Token) (stop : Stop) → read room here ≡ Err stop → Near (suc room) here (left stop)
  r_near room here (Syntax k) e = let d = l.near room here k e in (d.0, l.higher (room + 1) (suc room) here d.0 (omega arith) d.1, d.2)
  r_near room here (TooDeep k) e = let d = l.near_deep room here k e in (d.0, l.higher (room + 1) (suc room) here d.0 (omega arith) d.1, d.2)

  pub reader_laws : (n : ℕ) → Laws n (λ m. record { whole = λ x here rest. spans x here rest × (high x ≤ m); front = λ here rest. begins m here rest; missing = 1 ≤ m }) s false t (λ m. down m read)
  reader_laws zero = record {
    spells = r_spells zero;
    reads = record {
      sound = λ here x rest h. absurd (err_ok (x, rest) (TooDeep (length here)) h);
      near = λ here stop k h. absurd (omega arith);
      through = λ here j k h. absurd (omega arith);
      kept = r_kept zero;
      again = λ x here rest w h. absurd (omega (arith, w.1, positive x));
      forward = λ here. omega arith;
      far = λ here rest f. absurd (omega (arith, l.roomy 0 here rest f));
    };
  }
  reader_laws (suc n) = record {
    spells = r_spells (suc n);
    reads = record {
      sound = λ here x rest h. let d = l.sound n here x rest h in (d.0, omega (arith, d.1));
      near = λ here stop k h. r_near n here stop h;
      through = λ here j k h. let d = l.through n here j h in (n + 2, omega arith, d.0, d.1, omega (arith, d.2));
      kept = r_kept (suc n);
      again = λ x here rest w h. l.again n x here rest w.0 (omega (arith, w.1)) (ends rest h);
      forward = λ here. l.forward n here;
      far = λ here rest f. l.far n (suc n) here rest f (omega arith);
    };
  }
