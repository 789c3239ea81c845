-- Written digits, in what a loop has left.
use Rattle.std.proofs.Common.{◌≡◌, ℕ, zero, suc, ◌+◌, ◌-◌, ◌*◌, ◌^◌, ◌<◌, ◌≤◌, true, false, cond, eqb, List, [], ◌∷◌, ◌++◌, length}
use Rattle.std.proofs.Common.{get_or, take, drop, Option, Some, None, ap, ◌∙◌, sym, refl, arith}
use Rattle.std.specs.Prelude.{option_map}
use Rattle.std.proofs.lemmas.List.{drop_more, drop_all, take-take, take_all}
use Rattle.std.proofs.lemmas.Bool.{cond-true, cond-false, cond_both, lt-ltb, le-ltb}
use Rattle.four_value.specs.declared.Digit.{Digit}
use Rattle.v_lex.specs.Numbers.{decimal_step, decimal_from, decimal_of, digits_below, ◌>>=◌}
use Rattle.v_lex.specs.Digits.{digits_of}

pub decimal_grows : (n : ℕ) (bs : List ℕ) → n ≤ decimal_from n bs
unfolding decimal_from
decimal_grows n [] = omega arith
decimal_grows n (b ∷ bs) =
    let h = decimal_grows (decimal_step n b) bs in
    let k : n ≤ decimal_step n b = cond_both (eqb b 95) n (10 * n + (b - 48)) (λ x. n ≤ x) (λ _. omega arith) (λ _. omega arith) in
    omega arith

decimal_cons : (n b : ℕ) (bs : List ℕ) → decimal_from n (b ∷ bs) ≡ decimal_from (decimal_step n b) bs
unfolding decimal_from
decimal_cons n b bs = refl

pub decimal_more : (text : List ℕ) (i n : ℕ) → i < length text → decimal_from n (drop i text) ≡ decimal_from 0 text
    → decimal_from (decimal_step n (get_or text i 0)) (drop (i + 1) text) ≡ decimal_from 0 text
decimal_more text i n h e = sym (ap (decimal_from n) (drop_more text i 0 h) ∙ decimal_cons n (get_or text i 0) (drop (i + 1) text)) ∙ e

pub decimal_large : (text : List ℕ) (i n : ℕ) → i < length text → decimal_from n (drop i text) ≡ decimal_from 0 text
    → 2 ^ 128 ≤ decimal_step n (get_or text i 0) → None ≡ decimal_of text
unfolding decimal_of
decimal_large text i n h e k =
    let g = decimal_grows (decimal_step n (get_or text i 0)) (drop (i + 1) text) in
    let f = decimal_more text i n h e in
    sym (cond-false _ _ _ (le-ltb (decimal_from 0 text) (2 ^ 128) (omega arith)))

pub decimal_all : (text : List ℕ) (i n : ℕ) → length text ≤ i → n < 2 ^ 128 → decimal_from n (drop i text) ≡ decimal_from 0 text
    → Some n ≡ decimal_of text
unfolding decimal_of decimal_from
decimal_all text i n h k e =
    let f : n ≡ decimal_from 0 text = sym (ap (decimal_from n) (drop_all i text h)) ∙ e in
    rw (← f) (sym (cond-true _ _ _ (lt-ltb n (2 ^ 128) k)))

-- ---- bases of a power of two

take_append_take : {A : Type 0} (w m : ℕ) (ds xs : List A) → w ≤ m → take w (ds ++ take m xs) ≡ take w (ds ++ xs)
take_append_take w m [] xs h = take-take w m xs h
take_append_take zero m (d ∷ ds) xs h = refl
take_append_take (suc w) m (d ∷ ds) xs h = ap (λ ys. d ∷ ys) (take_append_take w m ds xs (omega arith))

pub take_front : {A : Type 0} (w : ℕ) (ds xs : List A) → length ds ≤ w → ds ++ take (w - length ds) xs ≡ take w (ds ++ xs)
take_front w [] xs h = let e : w - 0 ≡ w = omega arith in rw e refl
take_front zero (d ∷ ds) xs h = absurd (omega arith)
take_front (suc w) (d ∷ ds) xs h =
    let e : suc w - suc (length ds) ≡ w - length ds = omega arith in rw e (ap (λ ys. d ∷ ys) (take_front w ds xs (omega arith)))

abbrev cut : ℕ → Option (List Digit) → Option (List Digit)
cut w o = option_map (take w) o

cut_then : (w : ℕ) (o : Option (List Digit)) (f g : List Digit → Option (List Digit)) → ((ds : List Digit) → cut w (f ds) ≡ cut w (g ds))
    → cut w (o >>= f) ≡ cut w (o >>= g)
cut_then w None f g h = refl
cut_then w (Some ds) f g h = h ds

digits_cut : (w bits : ℕ) (xs : List Digit) (bs : List ℕ) → cut w (digits_below bits (take w xs) bs) ≡ cut w (digits_below bits xs bs)
unfolding digits_below
digits_cut w bits xs [] = ap Some (take-take w w xs (omega arith))
digits_cut w bits xs (b ∷ bs) =
    elim (eqb b 95) as
    (λ t. cut w (cond t (digits_below bits (take w xs) bs) (digits_of bits b >>= λ ds. digits_below bits (ds ++ take w xs) bs))
    ≡ cut w (cond t (digits_below bits xs bs) (digits_of bits b >>= λ ds. digits_below bits (ds ++ xs) bs))) [
      | true ↦ digits_cut w bits xs bs
      | false ↦ cut_then w (digits_of bits b) (λ ds. digits_below bits (ds ++ take w xs) bs) (λ ds. digits_below bits (ds ++ xs) bs)
          (λ ds. sym (digits_cut w bits (ds ++ take w xs) bs)
          ∙ ap (λ ys. cut w (digits_below bits ys bs)) (take_append_take w w ds xs (omega arith)) ∙ digits_cut w bits (ds ++ xs) bs)
    ]

digits_cons : (bits b : ℕ) (xs : List Digit) (bs : List ℕ)
    → digits_below bits xs (b ∷ bs)
    ≡ cond (eqb b 95) (digits_below bits xs bs) (digits_of bits b >>= λ ds. digits_below bits (ds ++ xs) bs)
unfolding digits_below
digits_cons bits b xs bs = refl

pub digits_skip : (w bits : ℕ) (xs : List Digit) (text : List ℕ) (i : ℕ) (whole : Option (List Digit)) → i < length text
    → eqb (get_or text i 0) 95 ≡ true → option_map (take w) (digits_below bits xs (drop i text)) ≡ whole
    → option_map (take w) (digits_below bits xs (drop (i + 1) text)) ≡ whole
digits_skip w bits xs text i whole h t e =
    ap (cut w)
    (sym (ap (digits_below bits xs) (drop_more text i 0 h) ∙ digits_cons bits (get_or text i 0) xs (drop (i + 1) text)
    ∙ cond-true _ _ _ t)) ∙ e

pub digits_wrong : (w bits : ℕ) (xs : List Digit) (text : List ℕ) (i : ℕ) (whole : Option (List Digit)) → i < length text
    → eqb (get_or text i 0) 95 ≡ false → digits_of bits (get_or text i 0) ≡ None
    → option_map (take w) (digits_below bits xs (drop i text)) ≡ whole → None ≡ whole
digits_wrong w bits xs text i whole h t n e =
    let f : digits_below bits xs (drop i text) ≡ None =
    ap (digits_below bits xs) (drop_more text i 0 h) ∙ digits_cons bits (get_or text i 0) xs (drop (i + 1) text) ∙ cond-false _ _ _ t
    ∙ ap (λ o. o >>= λ ds. digits_below bits (ds ++ xs) (drop (i + 1) text)) n in
    sym (ap (cut w) f) ∙ e

pub digits_more : (w bits : ℕ) (xs ds ys : List Digit) (text : List ℕ) (i : ℕ) (whole : Option (List Digit)) → i < length text
    → eqb (get_or text i 0) 95 ≡ false → digits_of bits (get_or text i 0) ≡ Some ds → ys ≡ take w (ds ++ xs)
    → option_map (take w) (digits_below bits xs (drop i text)) ≡ whole
    → option_map (take w) (digits_below bits ys (drop (i + 1) text)) ≡ whole
digits_more w bits xs ds ys text i whole h t n y e =
    let f : digits_below bits xs (drop i text) ≡ digits_below bits (ds ++ xs) (drop (i + 1) text) =
    ap (digits_below bits xs) (drop_more text i 0 h) ∙ digits_cons bits (get_or text i 0) xs (drop (i + 1) text) ∙ cond-false _ _ _ t
    ∙ ap (λ o. o >>= λ ds. digits_below bits (ds ++ xs) (drop (i + 1) text)) n in
    ap (λ zs. cut w (digits_below bits zs (drop (i + 1) text))) y ∙ digits_cut w bits (ds ++ xs) (drop (i + 1) text) ∙ sym (ap (cut w) f)
    ∙ e

pub digits_all : (w bits : ℕ) (xs : List Digit) (text : List ℕ) (i : ℕ) (whole : Option (List Digit)) → length text ≤ i → length xs ≤ w
    → option_map (take w) (digits_below bits xs (drop i text)) ≡ whole → Some xs ≡ whole
unfolding digits_below
digits_all w bits xs text i whole h k e =
    ap Some (sym (take_all w xs k)) ∙ sym (ap (λ bs. cut w (digits_below bits xs bs)) (drop_all i text h)) ∙ e
