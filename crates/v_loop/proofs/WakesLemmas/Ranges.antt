-- Numbers that follow one another, and those of them that pass a test.
use Rattle.std.proofs.Common.{◌≡◌, ℕ, zero, suc, ◌+◌, ◌-◌, ◌≤◌, ◌<◌, Bool, true, false, List, [], ◌∷◌, ◌++◌, map, cond, refl, sym, ap, ◌∙◌, arith}
use Rattle.std.specs.List.{filter, range_with_len}
use Rattle.std.proofs.lemmas.List.{append_assoc}
use Rattle.std.proofs.lemmas.List.FromFn.{map-range_with_len_more}

pub range_split : (a m n : ℕ) → range_with_len a (m + n) ≡ range_with_len a m ++ range_with_len (a + m) n
range_split a zero n =
    let e : a ≡ a + 0 = omega arith in
    let f : 0 + n ≡ n = omega arith in
    ap (λ (k : ℕ). range_with_len a k) f ∙ ap (λ (b : ℕ). range_with_len b n) e
range_split a (suc m) n =
    let e : suc m + n ≡ suc (m + n) = omega arith in
    let f : a + 1 + m ≡ a + suc m = omega arith in
    ap (λ (k : ℕ). range_with_len a k) e
    ∙ ap (λ (xs : List ℕ). a ∷ xs) (range_split (a + 1) m n)
    ∙ ap (λ (b : ℕ). a ∷ range_with_len (a + 1) m ++ range_with_len b n) f

-- tests that answer alike
pub filter_same : (p q : ℕ → Bool) (a n : ℕ) → ((k : ℕ) → a ≤ k → k < a + n → p k ≡ q k) → filter p (range_with_len a n) ≡ filter q (range_with_len a n)
filter_same p q a zero h = refl
filter_same p q a (suc n) h =
    ap (λ (b : Bool). cond b (a ∷ filter p (range_with_len (a + 1) n)) (filter p (range_with_len (a + 1) n))) (h a (omega arith) (omega arith))
    ∙ ap (λ (xs : List ℕ). cond (q a) (a ∷ xs) xs) (filter_same p q (a + 1) n (λ k g l. h k (omega (arith, g)) (omega (arith, l))))

filter_true : (a n : ℕ) → filter (λ k. true) (range_with_len a n) ≡ range_with_len a n
filter_true a zero = refl
filter_true a (suc n) = ap (λ (xs : List ℕ). a ∷ xs) (filter_true (a + 1) n)

filter_false : (a n : ℕ) → filter (λ k. false) (range_with_len a n) ≡ []
filter_false a zero = refl
filter_false a (suc n) = filter_false (a + 1) n

pub filter_all : (p : ℕ → Bool) (a n : ℕ) → ((k : ℕ) → a ≤ k → k < a + n → p k ≡ true) → filter p (range_with_len a n) ≡ range_with_len a n
filter_all p a n h = filter_same p (λ k. true) a n h ∙ filter_true a n

pub filter_none : (p : ℕ → Bool) (a n : ℕ) → ((k : ℕ) → a ≤ k → k < a + n → p k ≡ false) → filter p (range_with_len a n) ≡ []
filter_none p a n h = filter_same p (λ k. false) a n h ∙ filter_false a n

-- one more number
pub range_more : {A : Type 0} (f : ℕ → A) (from n : ℕ) (ws vs us : List A) → from ≤ n → vs ≡ ws ++ map f (range_with_len from (n - from)) → us ≡ vs ++ f n ∷ []
    → us ≡ ws ++ map f (range_with_len from (n + 1 - from))
range_more {A} f from n ws vs us h made grown =
    let here : from + (n - from) ≡ n = omega (arith, h) in
    let count : n - from + 1 ≡ n + 1 - from = omega (arith, h) in
    grown
    ∙ ap (λ (xs : List A). xs ++ f n ∷ []) made
    ∙ append_assoc ws (map f (range_with_len from (n - from))) (f n ∷ [])
    ∙ ap (λ (xs : List A). ws ++ xs) (sym (map-range_with_len_more f from (n - from) n here))
    ∙ ap (λ (k : ℕ). ws ++ map f (range_with_len from k)) count
