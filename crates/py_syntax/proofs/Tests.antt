-- Tests of bytes.
use Rattle.std.proofs.Common.{◌≡◌, ◌≢◌, ◌⊎◌, inl, inr, ℕ, zero, suc, ◌<◌, Bool, true, false, not, ◌==◌, ◌&&◌, ◌||◌, List, [], ◌∷◌, ◌++◌, length, refl, ap, ◌∙◌, arith}
use Rattle.std.specs.Prelude.{slice_index}
use Rattle.std.specs.List.{take_while, list_all, list_any}
use Rattle.std.proofs.lemmas.List.Sums.{take_while-cons}
use Rattle.std.proofs.lemmas.Bool.Decides.{nat_tests}
use Rattle.py_syntax.specs.Bytes.{is_digit, is_letter, is_word_byte, is_number_byte}
use Rattle.py_syntax.specs.Numbers.{base_of}
use Rattle.py_syntax.specs.Standing.{EndsBefore}

pub equal : (a b : ℕ) → (a == b) ≡ true → a ≡ b
equal a b e = grind (arith, nat_tests)

pub different : (a b : ℕ) → (a == b) ≡ false → a ≢ b
different a b e = grind (arith, nat_tests)

-- A front of bytes that pass a test, and no more.
pub record Run (p : ℕ → Bool) (bs : List ℕ) : Type 0 where
  pub front : List ℕ
  pub rest : List ℕ
  pub split : bs ≡ front ++ rest
  pub taken : take_while p bs ≡ front
  pub all : list_all p front ≡ true
  pub ends : EndsBefore p rest

pub run : (p : ℕ → Bool) (bs : List ℕ) → Run p bs
run p [] = record { front = []; rest = []; split = refl; taken = refl; all = refl; ends = tt }
run p (b ∷ bs) = go (p b) refl (run p bs)
  where
    go : (t : Bool) → p b ≡ t → Run p bs → Run p (b ∷ bs)
    go true e r = record {
      front = b ∷ r.front;
      rest = r.rest;
      split = ap (λ (xs : List ℕ). b ∷ xs) r.split;
      taken = take_while-cons p b bs ∙ rw e (ap (λ (xs : List ℕ). b ∷ xs) r.taken);
      all = rw e r.all;
      ends = r.ends;
    }
    go false e r = record { front = []; rest = b ∷ bs; split = refl; taken = take_while-cons p b bs ∙ rw e refl; all = refl; ends = e }

-- The first byte of a text is that of its front, if it passes.
pub first_of : (p q : ℕ → Bool) (front rest : List ℕ) → q 0 ≡ false → ((b : ℕ) → q b ≡ true → p b ≡ true) → EndsBefore p rest → q (slice_index (front ++ rest) 0) ≡ true → q (slice_index front 0) ≡ true
first_of p q [] [] z k e h = h
first_of p q [] (b ∷ rest) z k e h = let f : p b ≡ true = k b h in cc
first_of p q (x ∷ xs) rest z k e h = h

pub first_in : (p q : ℕ → Bool) (text : List ℕ) (r : Run p text) → q 0 ≡ false → ((b : ℕ) → q b ≡ true → p b ≡ true) → q (slice_index text 0) ≡ true → q (slice_index r.front 0) ≡ true
first_in p q text r z k h = first_of p q r.front r.rest z k r.ends (rw r.split at h)

pub letter_is_word : (b : ℕ) → is_letter b ≡ true → is_word_byte b ≡ true
letter_is_word b e = rw e refl

pub digit_is_word : (b : ℕ) → is_digit b ≡ true → is_word_byte b ≡ true
digit_is_word b e = go (is_letter b) (is_digit b) e
  where
    go : (x y : Bool) → y ≡ true → (x || y) ≡ true
    go true y e = refl
    go false y e = e

pub digit_is_number : (base b : ℕ) → is_digit b ≡ true → is_number_byte base b ≡ true
digit_is_number base b e = rw (digit_is_word b e) refl

pub no_word : (base b : ℕ) → is_number_byte base b ≡ false → is_word_byte b ≡ false
no_word base b e = go (is_word_byte b) ((base == 10) && (b == 46)) e
  where
    go : (x y : Bool) → (x || y) ≡ false → x ≡ false
    go false y e = refl
    go true y e = e

pub not_this : (n b : ℕ) → is_word_byte n ≡ true → is_word_byte b ≡ false → (b == n) ≡ false
not_this n b h e = go (b == n) refl
  where
    go : (x : Bool) → (b == n) ≡ x → x ≡ false
    go false k = refl
    go true k = let q : b ≡ n = equal b n k in let r : is_word_byte n ≡ false = rw q at e in cc

-- What stands behind a number says nothing of its base.
pub base_of_front : (base : ℕ) (front rest : List ℕ) → 0 < length front → EndsBefore (is_number_byte base) rest → base_of (front ++ rest) ≡ base_of front
base_of_front base [] rest h e = absurd (omega arith)
base_of_front base (a ∷ d ∷ front) rest h e = refl
base_of_front base (a ∷ []) [] h e = refl
base_of_front base (a ∷ []) (d ∷ rest) h e =
    let k : is_word_byte d ≡ false = no_word base d e in
    rw (not_this 120 d refl k, not_this 111 d refl k, not_this 98 d refl k) refl

pub digit_known : (front : List ℕ) → is_digit (slice_index front 0) ≡ true → 0 < length front
digit_known [] e = cc
digit_known (b ∷ bs) e = omega arith

pub not_equal : (a b : ℕ) → a ≢ b → (a == b) ≡ false
not_equal a b h = grind (arith, nat_tests)

pub same : (a : ℕ) → (a == a) ≡ true
same a = grind (arith, nat_tests)

pub both : (x y : Bool) → (x && y) ≡ true → (x ≡ true) × (y ≡ true)
both true true e = (refl, refl)
both true false e = cc
both false y e = cc

pub either : (x y : Bool) → (x && not y) ≡ false → (x ≡ false) ⊎ (y ≡ true)
either false y e = inl refl
either true true e = inr refl
either true false e = cc

pub one_of : (x y : Bool) → (x || y) ≡ true → (x ≡ true) ⊎ (y ≡ true)
one_of true y e = inl refl
one_of false y e = inr e

pub neither : (x y : Bool) → (x || y) ≡ false → (x ≡ false) × (y ≡ false)
neither false false e = (refl, refl)
neither false true e = cc
neither true y e = cc

pub not_true : (x : Bool) → x ≡ false → x ≡ true → ⊥
not_true true e f = absurd (elim_false e)
  where
    elim_false : true ≡ false → ⊥
    elim_false e = cc
not_true false e f = absurd (elim_true f)
  where
    elim_true : false ≡ true → ⊥
    elim_true f = cc

pub to_false : (x : Bool) → (x ≡ true → ⊥) → x ≡ false
to_false false h = refl
to_false true h = absurd (h refl)

-- a byte of the list passes each test that all of it pass
pub any_all : (t : ℕ → Bool) (b : ℕ) (xs : List ℕ) → list_all t xs ≡ true → list_any (λ x. x == b) xs ≡ true → t b ≡ true
any_all t b [] h k = cc
any_all t b (x ∷ xs) h k = go (x == b) refl (both (t x) (list_all t xs) h) (any_all t b xs) k
  where
    go : (z : Bool) → (x == b) ≡ z → (t x ≡ true) × (list_all t xs ≡ true) → (list_all t xs ≡ true → list_any (λ y. y == b) xs ≡ true → t b ≡ true)
        → (z || list_any (λ y. y == b) xs) ≡ true → t b ≡ true
    go true e f ih k = let q : x ≡ b = equal x b e in rw q at f.0
    go false e f ih k = ih f.1 k

-- a byte that passes a test is none of a list of which none passes
pub apart : (t : ℕ → Bool) (b : ℕ) (xs : List ℕ) → t b ≡ true → list_any t xs ≡ false → list_any (λ x. x == b) xs ≡ false
apart t b [] h k = refl
apart t b (x ∷ xs) h k = go (x == b) refl (neither (t x) (list_any t xs) k) (apart t b xs h)
  where
    go : (z : Bool) → (x == b) ≡ z → (t x ≡ false) × (list_any t xs ≡ false) → (list_any t xs ≡ false → list_any (λ y. y == b) xs ≡ false) → (z || list_any (λ y. y == b) xs) ≡ false
    go true e f ih = let q : x ≡ b = equal x b e in let r : t b ≡ false = rw q at f.0 in absurd (not_true (t b) r h)
    go false e f ih = ih f.1

-- all numbers below n pass
abbrev pub all_below : (ℕ → Bool) → ℕ → Bool
all_below t zero = true
all_below t (suc n) = t n && all_below t n

pub below : (t : ℕ → Bool) (n b : ℕ) → all_below t n ≡ true → b < n → t b ≡ true
below t zero b h k = absurd (omega arith)
below t (suc n) b h k = go (b == n) refl (both (t n) (all_below t n) h) (below t n b)
  where
    go : (z : Bool) → (b == n) ≡ z → (t n ≡ true) × (all_below t n ≡ true) → (all_below t n ≡ true → b < n → t b ≡ true) → t b ≡ true
    go true e f ih = let q : b ≡ n = equal b n e in rw (← q) at f.0
    go false e f ih = let q : b ≢ n = different b n e in ih f.1 (omega arith)
