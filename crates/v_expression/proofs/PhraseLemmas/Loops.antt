-- The loops that read `many`, one turn at a time.
use Rattle.std.proofs.Common.{◌≡◌, ℕ, zero, suc, ◌+◌, ◌-◌, ◌<◌, ◌≤◌, arith, Bool, true, false, List, [], ◌∷◌, ◌++◌, map, Result, Ok, Err, refl, ap, sym, ◌∙◌, subst, append_assoc}
use Rattle.v_syntax.specs.declared.token.Token.{Token}
use Rattle.v_syntax.specs.declared.mark.Mark.TheVariants as mark
use Rattle.v_expression.specs.declared.phrase.read_error.ReadError.{ReadError}
use Rattle.v_expression.specs.declared.phrase.read_error.ReadError.TheVariants as errors
use Rattle.v_expression.specs.Phrase.Stops.{Stop, Answer, ◌>>=◌, Fails, after}
use Rattle.v_expression.specs.Phrase.Readers.{Reader, many_by, with_front, ◌▹◌, starts_mark, sign}

pub fails_same : {A : Type 0} (e : ReadError) (a b : Result A Stop) → a ≡ b → Fails e a → Fails e b
fails_same e a b h f = subst (λ z. Fails e z) h f

pub fails_then : {A B : Type 0} (e : ReadError) (m : Result A Stop) (f : A → Result B Stop) → Fails e m → Fails e (m >>= f)
fails_then errors.OutOfMemory m f h = tt
fails_then (errors.Syntax n) m f h = rw h
fails_then (errors.TooDeep n) m f h = rw h

append_none : {A : Type 0} (xs : List A) → xs ++ [] ≡ xs
append_none [] = refl
append_none (x ∷ xs) = ap (λ z. x ∷ z) (append_none xs)

front_push : {A : Type 0} (xs : List A) (x : A) (m : Answer (List A)) → with_front (xs ++ (x ∷ [])) m ≡ with_front xs (m >>= λ ys. Ok (x ∷ ys.0, ys.1))
front_push xs x (Ok ys) = ap (λ z. Ok (z, ys.1)) (append_assoc xs (x ∷ []) ys.0)
front_push xs x (Err e) = refl

pub many_init : {A : Type 0} (m : Answer (List A)) → with_front [] m ≡ m
many_init (Ok x) = refl
many_init (Err e) = refl

module _ {A : Type 0} (starts : List Token → Bool) (p : Reader A) (xs : List A) (k : ℕ) (ts : List Token) where
  pub many_stop : starts ts ≡ false → with_front xs (many_by starts p k ts) ≡ Ok (xs, ts)
  unfolding many_by
  many_stop h = go k
    where
      go : (k : ℕ) → with_front xs (many_by starts p k ts) ≡ Ok (xs, ts)
      go zero = ap (λ z. Ok (z, ts)) (append_none xs)
      go (suc n) = rw h (ap (λ z. Ok (z, ts)) (append_none xs))

  pub many_empty : k ≡ zero → with_front xs (many_by starts p k ts) ≡ Ok (xs, ts)
  unfolding many_by
  many_empty h = rw h (ap (λ z. Ok (z, ts)) (append_none xs))

  module _ (n : ℕ) (ek : k ≡ suc n) (h : starts ts ≡ true) where
    pub many_more : (x : A) (rest : List Token) → p ts ≡ Ok (x, rest) → with_front (xs ++ (x ∷ [])) (many_by starts p n rest) ≡ with_front xs (many_by starts p k ts)
    unfolding many_by
    many_more x rest e = rw (ek, h, e) (front_push xs x (many_by starts p n rest))

    pub many_fail : (e : ReadError) → Fails e (p ts) → Fails e (with_front xs (many_by starts p k ts))
    unfolding many_by
    many_fail e f = rw (ek, h) (fails_then e (p ts >>= λ x. many_by starts p n x.1 >>= λ ys. Ok (x.0 ∷ ys.0, ys.1)) (λ x. Ok (xs ++ x.0, x.1))
        (fails_then e (p ts) (λ x. many_by starts p n x.1 >>= λ ys. Ok (x.0 ∷ ys.0, ys.1)) f))

map_push : {X A : Type 0} (view : X → A) (xs : List X) (x : X) → map view (xs ++ (x ∷ [])) ≡ map view xs ++ (view x ∷ [])
map_push view [] x = refl
map_push view (y ∷ xs) x = ap (λ z. view y ∷ z) (map_push view xs x)

-- ---- of the code's values: a loop of m turns, c of them done

module _ {X A : Type 0} (view : X → A) (starts : List Token → Bool) (p : Reader A) (old : List X) (m c : ℕ) (ts : List Token) where
  pub items_stop : starts ts ≡ false → with_front (map view old) (many_by starts p (m - c) ts) ≡ Ok (map view old, ts)
  items_stop h = many_stop starts p (map view old) (m - c) ts h

  pub items_empty : m ≤ c → with_front (map view old) (many_by starts p (m - c) ts) ≡ Ok (map view old, ts)
  items_empty h = many_empty starts p (map view old) (m - c) ts (omega arith)

  pub items_more : (new : List X) (x : X) (rest : List Token) → c < m → starts ts ≡ true → new ≡ old ++ (x ∷ []) → p ts ≡ Ok (view x, rest)
      → with_front (map view new) (many_by starts p (m - (c + 1)) rest) ≡ with_front (map view old) (many_by starts p (m - c) ts)
  items_more new x rest l h en e =
      ap (λ z. with_front z (many_by starts p (m - (c + 1)) rest)) (ap (map view) en ∙ map_push view old x)
      ∙ many_more starts p (map view old) (m - c) ts (m - (c + 1)) (omega arith) h (view x) rest e

  pub items_fail : (e : ReadError) (whole : Answer (List A)) → c < m → starts ts ≡ true
      → with_front (map view old) (many_by starts p (m - c) ts) ≡ whole → Fails e (p ts) → Fails e whole
  items_fail e whole l h w f =
      fails_same e (with_front (map view old) (many_by starts p (m - c) ts)) whole w (many_fail starts p (map view old) (m - c) ts (m - (c + 1)) (omega arith) h e f)

-- the same behind a separator
module _ {X S A : Type 0} (view : X → A) (starts : List Token → Bool) (s : Reader S) (p : Reader A) (old : List X) (m c : ℕ) (ts us : List Token) (v : S) (es : s ts ≡ Ok (v, us)) where
  pub others_more : (new : List X) (x : X) (rest : List Token) → c < m → starts ts ≡ true → new ≡ old ++ (x ∷ []) → p us ≡ Ok (view x, rest)
      → with_front (map view new) (many_by starts (s ▹ p) (m - (c + 1)) rest) ≡ with_front (map view old) (many_by starts (s ▹ p) (m - c) ts)
  others_more new x rest l h en e = items_more view starts (s ▹ p) old m c ts new x rest l h en (rw (es, e) refl)

  pub others_fail : (e : ReadError) (whole : Answer (List A)) → c < m → starts ts ≡ true
      → with_front (map view old) (many_by starts (s ▹ p) (m - c) ts) ≡ whole → Fails e (p us) → Fails e whole
  others_fail e whole l h w f = items_fail view starts (s ▹ p) old m c ts e whole l h w (rw es (fails_then e (p us) (λ y. Ok (y.0, y.1)) f))

-- the same behind a comma
module _ {X A : Type 0} (view : X → A) (p : Reader A) (old : List X) (m c : ℕ) (ts : List Token) where
  pub listed_stop : starts_mark mark.Comma ts ≡ false → with_front (map view old) (many_by (starts_mark mark.Comma) (sign mark.Comma ▹ p) (m - c) ts) ≡ Ok (map view old, ts)
  listed_stop h = items_stop view (starts_mark mark.Comma) (sign mark.Comma ▹ p) old m c ts h

  pub listed_empty : m ≤ c → with_front (map view old) (many_by (starts_mark mark.Comma) (sign mark.Comma ▹ p) (m - c) ts) ≡ Ok (map view old, ts)
  listed_empty h = items_empty view (starts_mark mark.Comma) (sign mark.Comma ▹ p) old m c ts h

  module _ (l : c < m) (b : Bool) (eb : b ≡ starts_mark mark.Comma ts) (h : b ≡ true) where
    pub comma_fail : (e : ReadError) (whole : Answer (List A))
        → with_front (map view old) (many_by (starts_mark mark.Comma) (sign mark.Comma ▹ p) (m - c) ts) ≡ whole → Fails e (after mark.Comma ts) → Fails e whole
    comma_fail e whole w f =
        items_fail view (starts_mark mark.Comma) (sign mark.Comma ▹ p) old m c ts e whole l (sym eb ∙ h) w
        (fails_then e (sign mark.Comma ts) (λ x. p x.1 >>= λ y. Ok (y.0, y.1)) (fails_then e (after mark.Comma ts) (λ us. Ok (tt, us)) f))

    module _ (us : List Token) (es : after mark.Comma ts ≡ Ok us) where
      sign_read : sign mark.Comma ts ≡ Ok (tt, us)
      sign_read = rw es refl

      pub listed_more : (new : List X) (x : X) (rest : List Token) → new ≡ old ++ (x ∷ []) → p us ≡ Ok (view x, rest)
          → with_front (map view new) (many_by (starts_mark mark.Comma) (sign mark.Comma ▹ p) (m - (c + 1)) rest)
          ≡ with_front (map view old) (many_by (starts_mark mark.Comma) (sign mark.Comma ▹ p) (m - c) ts)
      listed_more new x rest en e = others_more view (starts_mark mark.Comma) (sign mark.Comma) p old m c ts us tt sign_read new x rest l (sym eb ∙ h) en e

      pub listed_fail : (e : ReadError) (whole : Answer (List A))
          → with_front (map view old) (many_by (starts_mark mark.Comma) (sign mark.Comma ▹ p) (m - c) ts) ≡ whole → Fails e (p us) → Fails e whole
      listed_fail e whole w f = others_fail view (starts_mark mark.Comma) (sign mark.Comma) p old m c ts us tt sign_read e whole l (sym eb ∙ h) w f

-- ---- where the code's values are their own trees: behind a separator
module _ {S A : Type 0} (starts : List Token → Bool) (s : Reader S) (p : Reader A) (old : List A) (m c : ℕ) (ts : List Token) where
  pub plain_stop : starts ts ≡ false → with_front old (many_by starts (s ▹ p) (m - c) ts) ≡ Ok (old, ts)
  plain_stop h = many_stop starts (s ▹ p) old (m - c) ts h

  pub plain_empty : m ≤ c → with_front old (many_by starts (s ▹ p) (m - c) ts) ≡ Ok (old, ts)
  plain_empty h = many_empty starts (s ▹ p) old (m - c) ts (omega arith)

  module _ (l : c < m) (b : Bool) (eb : b ≡ starts ts) (h : b ≡ true) (v : S) (us : List Token) (es : s ts ≡ Ok (v, us)) where
    pub plain_more : (new : List A) (x : A) (rest : List Token) → new ≡ old ++ (x ∷ []) → p us ≡ Ok (x, rest)
        → with_front new (many_by starts (s ▹ p) (m - (c + 1)) rest) ≡ with_front old (many_by starts (s ▹ p) (m - c) ts)
    plain_more new x rest en e =
        ap (λ z. with_front z (many_by starts (s ▹ p) (m - (c + 1)) rest)) en
        ∙ many_more starts (s ▹ p) old (m - c) ts (m - (c + 1)) (omega arith) (sym eb ∙ h) x rest (rw (es, e) refl)

    pub plain_fail : (e : ReadError) (whole : Answer (List A)) → with_front old (many_by starts (s ▹ p) (m - c) ts) ≡ whole → Fails e (p us) → Fails e whole
    plain_fail e whole w f =
        fails_same e (with_front old (many_by starts (s ▹ p) (m - c) ts)) whole w
        (many_fail starts (s ▹ p) old (m - c) ts (m - (c + 1)) (omega arith) (sym eb ∙ h) e (rw es (fails_then e (p us) (λ y. Ok (y.0, y.1)) f)))
