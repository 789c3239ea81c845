-- What written digits stand for, and what the code finds.
use Rattle.std.proofs.Common.{◌≡◌, ℕ, ◌+◌, ◌-◌, ◌*◌, ◌^◌, ◌<◌, ◌≤◌, true, false, ◌&&◌, ◌||◌, cond, eqb, leb, ltb, List, [], ◌∷◌, ◌++◌}
use Rattle.std.proofs.Common.{take, replicate, Option, Some, None, ap, ◌∙◌, sym, refl, ⊎_elim, inl, inr, ◌⊎◌, append_assoc, pow-suc}
use Rattle.std.proofs.Common.{add-mul, mul_comm, mul_assoc, add_assoc, zero-mul, zero-add, lt-ltb, ltb-true, arith}
use Rattle.std.specs.Prelude.{option_map}
use Rattle.std.specs.List.{list_all}
use Rattle.std.proofs.lemmas.Bool.{cases_Bool, cond-true, cond-false, or_cases, or_from, and_parts, and_from, le-leb, eqb-true, eq-eqb}
use Rattle.std.proofs.lemmas.Bool.{ne_eqb, false≢true}
use Rattle.four_value.specs.declared.Digit.{Digit}
use Rattle.four_value.specs.Vector.{vector}
use Rattle.v_lex.specs.declared.base.Base.{Base}
use Rattle.v_lex.specs.declared.base.Base.TheVariants.{Binary, Octal, Decimal, Hexadecimal}
use Rattle.v_lex.specs.declared.bytes.ByteClass.TheVariants as class
use Rattle.v_lex.specs.Bytes.{is_in, is_digit}
use Rattle.v_lex.specs.Digits.{digits_of, unknown_of, fill_of}
use Rattle.v_lex.specs.Numbers.{◌>>=◌, decimal_from, decimal_of, digits_below, begins_with_digit, lone_unknown, decimal_vector, vector_in}
use Rattle.v_lex.specs.Numbers.{vector_of, within_size, size_of}
use Rattle.v_lex.specs.Pieces.{plain_value, based_value}
use Rattle.v_lex.specs.Spelling.{AllIn, IsDecimal, digit_count, decimal, SizeOf, Writes, IsLone, DecimalVector, WrittenVector, InBase}
use Rattle.v_lex.specs.Spelling.{BeginsWithDigit, BasedVector, PlainVector}
use Rattle.v_lex.proofs.FormKinds.{between}

pub bind_some : {A B : Type 0} (o : Option A) (f : A → Option B) (y : B) → (o >>= f) ≡ Some y → (x : A) × (o ≡ Some x) × (f x ≡ Some y)
bind_some None f y e = absurd cc
bind_some (Some x) f y e = (x, refl, e)

map_some : {A B : Type 0} (f : A → B) (o : Option A) (y : B) → option_map f o ≡ Some y → (x : A) × (o ≡ Some x) × (f x ≡ y)
map_some f None y e = absurd cc
map_some f (Some x) y e = (x, refl, cc)

some_is : {A : Type 0} (x y : A) → Some x ≡ Some y → x ≡ y
some_is x y e = cc

-- ---- base ten

one_more : (n d p m : ℕ) → (10 * n + d) * p + m ≡ n * (p * 10) + (d * p + m)
one_more n d p m = rw (add-mul (10 * n) d p, mul_comm 10 n, mul_assoc n 10 p, mul_comm 10 p) (add_assoc (n * (p * 10)) (d * p) m)

decimal_goes_on : (n : ℕ) (bs : List ℕ) → decimal_from n bs ≡ n * 10 ^ digit_count bs + decimal bs
unfolding decimal_from digit_count decimal
decimal_goes_on n [] = omega arith
decimal_goes_on n (b ∷ bs) =
    ⊎_elim
    (λ (t : eqb b 95 ≡ true). rw t (decimal_goes_on n bs))
    (λ (t : eqb b 95 ≡ false). rw t (decimal_goes_on (10 * n + (b - 48)) bs ∙ one_more n (b - 48) (10 ^ digit_count bs) (decimal bs)
    ∙ rw (pow-suc 10 (digit_count bs)) refl))
    (cases_Bool (eqb b 95))

decimal_is : (bs : List ℕ) → decimal_from 0 bs ≡ decimal bs
decimal_is bs = decimal_goes_on 0 bs ∙ rw (zero-mul (10 ^ digit_count bs), zero-add (decimal bs)) refl

pub decimal_some : (bs : List ℕ) → decimal bs < 2 ^ 128 → decimal_of bs ≡ Some (decimal bs)
unfolding decimal_of
decimal_some bs h = rw (decimal_is bs) (cond-true _ _ _ (lt-ltb (decimal bs) (2 ^ 128) h))

decimal_none : (bs : List ℕ) → ltb (decimal bs) (2 ^ 128) ≡ false → decimal_of bs ≡ None
unfolding decimal_of
decimal_none bs h = rw (decimal_is bs) (cond-false _ _ _ h)

pub decimal_told : (bs : List ℕ) (n : ℕ) → decimal_of bs ≡ Some n → (n ≡ decimal bs) × (decimal bs < 2 ^ 128)
decimal_told bs n e =
    ⊎_elim
    (λ (h : ltb (decimal bs) (2 ^ 128) ≡ true). let l : decimal bs < 2 ^ 128 = ltb-true (decimal bs) (2 ^ 128) h in
    (sym (some_is (decimal bs) n (sym (decimal_some bs l) ∙ e)), l))
    (λ (h : ltb (decimal bs) (2 ^ 128) ≡ false). let bad : Some n ≡ None = sym e ∙ decimal_none bs h in absurd cc)
    (cases_Bool (ltb (decimal bs) (2 ^ 128)))

-- ---- bases of a power of two

below_cons : (bits b : ℕ) (above : List Digit) (bs : List ℕ)
    → digits_below bits above (b ∷ bs)
    ≡ cond (eqb b 95) (digits_below bits above bs) (digits_of bits b >>= λ ds. digits_below bits (ds ++ above) bs)
unfolding digits_below
below_cons bits b above bs = refl

below_nil : (bits : ℕ) (above : List Digit) → digits_below bits above [] ≡ Some above
unfolding digits_below
below_nil bits above = refl

writes_below : (bits : ℕ) (bs : List ℕ) (ds above : List Digit) → Writes bits bs ds → digits_below bits above bs ≡ Some (ds ++ above)
unfolding Writes
writes_below bits [] ds above h = below_nil bits above ∙ ap (λ (xs : List Digit). Some (xs ++ above)) (sym h)
writes_below bits (b ∷ bs) ds above h =
    below_cons bits b above bs
    ∙ ⊎_elim
    (λ (k : (b ≡ 95) × Writes bits bs ds). cond-true (eqb b 95) _ _ (eq-eqb b 95 k.0) ∙ writes_below bits bs ds above k.1)
    (λ (k : (high low : List Digit) × (b ≡ 95 → ⊥) × (digits_of bits b ≡ Some high) × Writes bits bs low × (ds ≡ low ++ high)).
    cond-false (eqb b 95) _ _ (ne_eqb b 95 k.2) ∙ ap (λ o. o >>= λ ds. digits_below bits (ds ++ above) bs) k.3
    ∙ writes_below bits bs k.1 (k.0 ++ above) k.4
    ∙ ap Some (sym (append_assoc k.1 k.0 above) ∙ ap (λ (xs : List Digit). xs ++ above) (sym k.5)))
    h

below_writes : (bits : ℕ) (bs : List ℕ) (xs above : List Digit) → digits_below bits above bs ≡ Some xs
    → (ds : List Digit) × Writes bits bs ds × (xs ≡ ds ++ above)
unfolding Writes
below_writes bits [] xs above e = ([], refl, sym (some_is above xs (sym (below_nil bits above) ∙ e)))
below_writes bits (b ∷ bs) xs above e =
    ⊎_elim
    (λ (t : eqb b 95 ≡ true).
    let r = below_writes bits bs xs above (sym (below_cons bits b above bs ∙ cond-true (eqb b 95) _ _ t) ∙ e) in
    (r.0, inl (eqb-true b 95 t, r.1), r.2))
    (λ (t : eqb b 95 ≡ false).
    let d = bind_some (digits_of bits b) (λ ds. digits_below bits (ds ++ above) bs) xs
    (sym (below_cons bits b above bs ∙ cond-false (eqb b 95) _ _ t) ∙ e) in
    let r = below_writes bits bs xs (d.0 ++ above) d.2 in
    (r.0 ++ d.0, inr (d.0, r.0, (λ q. false≢true (sym t ∙ eq-eqb b 95 q)), d.1, r.1, refl), r.2 ∙ sym (append_assoc r.0 d.0 above)))
    (cases_Bool (eqb b 95))

written_is : (bits size : ℕ) (written : List ℕ) (ds : List Digit) → WrittenVector bits size written ds
    → option_map (take size) (digits_below bits (replicate size (fill_of written)) written) ≡ Some ds
written_is bits size written ds h =
    ap (option_map (take size)) (writes_below bits written h.0 (replicate size (fill_of written)) h.1) ∙ ap Some (sym h.2)

written_of : (bits size : ℕ) (written : List ℕ) (ds : List Digit)
    → option_map (take size) (digits_below bits (replicate size (fill_of written)) written) ≡ Some ds → WrittenVector bits size written ds
written_of bits size written ds e =
    let m = map_some (take size) (digits_below bits (replicate size (fill_of written)) written) ds e in
    let r = below_writes bits written m.0 (replicate size (fill_of written)) m.1 in
    (r.0, r.1, sym m.2 ∙ ap (take size) r.2)

-- ---- base ten with a base letter

digit_known : (b : ℕ) → is_in class.Decimal b ≡ true → unknown_of b ≡ None
digit_known b h =
    let r : ((48 ≤ b) × (b ≤ 57)) ⊎ (b ≡ 95) =
    ⊎_elim (λ (d : is_digit b ≡ true). inl (between 48 57 b d)) (λ (u : eqb b 95 ≡ true). inr (eqb-true b 95 u))
    (or_cases (is_digit b) (eqb b 95) h) in
    let other : (n : ℕ) → 57 < n → (n ≡ 95 → ⊥) → eqb b n ≡ false =
    λ n l k. ne_eqb b n (λ e. ⊎_elim (λ (p : (48 ≤ b) × (b ≤ 57)). omega (arith, p.1, e)) (λ (p : b ≡ 95). k (sym e ∙ p)) r) in
    cond-false (eqb b 120 || eqb b 88) _ _
    (or_from (eqb b 120) (eqb b 88) (other 120 (omega arith) (λ e. omega (arith, e)))
    (other 88 (omega arith) (λ e. omega (arith, e))))
    ∙ cond-false (eqb b 122 || eqb b 90 || eqb b 63) _ _
    (or_from (eqb b 122 || eqb b 90) (eqb b 63)
    (or_from (eqb b 122) (eqb b 90) (other 122 (omega arith) (λ e. omega (arith, e)))
    (other 90 (omega arith) (λ e. omega (arith, e)))) (other 63 (omega arith) (λ e. omega (arith, e))))

lone_none : (written : List ℕ) → AllIn class.Decimal written → lone_unknown written ≡ None
lone_none [] h = refl
lone_none (b ∷ bs) h =
    let d = digit_known b (and_parts (is_in class.Decimal b) (list_all (is_in class.Decimal) bs) h).0 in
    ⊎_elim
    (λ (t : list_all (λ c. eqb c 95) bs ≡ true). cond-true _ _ _ t ∙ d)
    (λ (t : list_all (λ c. eqb c 95) bs ≡ false). cond-false _ _ _ t)
    (cases_Bool (list_all (λ c. eqb c 95) bs))

lone_some : (written : List ℕ) (d : Digit) → IsLone written d → lone_unknown written ≡ Some d
lone_some [] d h = absurd h
lone_some (b ∷ bs) d h = cond-true _ _ _ h.1 ∙ h.0

lone_is : (written : List ℕ) (d : Digit) → lone_unknown written ≡ Some d → IsLone written d
lone_is [] d e = absurd cc
lone_is (b ∷ bs) d e =
    ⊎_elim
    (λ (t : list_all (λ c. eqb c 95) bs ≡ true). (sym (cond-true (list_all (λ c. eqb c 95) bs) (unknown_of b) None t) ∙ e, t))
    (λ (t : list_all (λ c. eqb c 95) bs ≡ false). let bad : None
    ≡ Some d = sym (cond-false (list_all (λ c. eqb c 95) bs) (unknown_of b) None t) ∙ e in absurd cc)
    (cases_Bool (list_all (λ c. eqb c 95) bs))

decimal_vector_is : (size : ℕ) (written : List ℕ) (ds : List Digit) → DecimalVector size written ds
    → decimal_vector size written (lone_unknown written) ≡ Some ds
decimal_vector_is size written ds h =
    ⊎_elim
    (λ (k : (d : Digit) × IsLone written d × (ds ≡ replicate size d)). ap (decimal_vector size written) (lone_some written k.0 k.1)
    ∙ ap Some (sym k.2))
    (λ (k : AllIn class.Decimal written × (decimal written < 2 ^ 128) × (ds ≡ vector size (decimal written))).
    ap (decimal_vector size written) (lone_none written k.0) ∙ cond-true _ _ _ k.0
    ∙ ap (λ o. o >>= λ n. Some (vector size n)) (decimal_some written k.1) ∙ ap Some (sym k.2))
    h

decimal_vector_of : (size : ℕ) (written : List ℕ) (ds : List Digit) (o : Option Digit) → lone_unknown written ≡ o
    → decimal_vector size written o ≡ Some ds → DecimalVector size written ds
decimal_vector_of size written ds (Some d) l e = inl (d, lone_is written d l, sym (some_is (replicate size d) ds e))
decimal_vector_of size written ds None l e =
    ⊎_elim
    (λ (t : list_all (is_in class.Decimal) written ≡ true).
    let b = bind_some (decimal_of written) (λ n. Some (vector size n)) ds
    (sym (cond-true (list_all (is_in class.Decimal) written) (decimal_of written >>= λ n. Some (vector size n)) None t) ∙ e) in
    let n = decimal_told written b.0 b.1 in
    inr (t, n.1, sym (some_is (vector size b.0) ds b.2) ∙ ap (vector size) n.0))
    (λ (t : list_all (is_in class.Decimal) written ≡ false). let bad : None
    ≡ Some ds =
    sym (cond-false (list_all (is_in class.Decimal) written) (decimal_of written >>= λ n. Some (vector size n)) None t)
    ∙ e in absurd cc)
    (cases_Bool (list_all (is_in class.Decimal) written))

-- ---- any base

in_base_is : (base : Base) (size : ℕ) (written : List ℕ) (ds : List Digit) → InBase base size written ds
    → vector_in base size written ≡ Some ds
in_base_is Decimal size written ds h = decimal_vector_is size written ds h
in_base_is Binary size written ds h = written_is 1 size written ds h
in_base_is Octal size written ds h = written_is 3 size written ds h
in_base_is Hexadecimal size written ds h = written_is 4 size written ds h

in_base_of : (base : Base) (size : ℕ) (written : List ℕ) (ds : List Digit) → vector_in base size written ≡ Some ds
    → InBase base size written ds
in_base_of Decimal size written ds e = decimal_vector_of size written ds (lone_unknown written) refl e
in_base_of Binary size written ds e = written_of 1 size written ds e
in_base_of Octal size written ds e = written_of 3 size written ds e
in_base_of Hexadecimal size written ds e = written_of 4 size written ds e

begins_is : (written : List ℕ) → BeginsWithDigit written → begins_with_digit written ≡ true
begins_is [] h = absurd h
begins_is (b ∷ bs) h = rw (ne_eqb b 95 h) refl

begins_of : (written : List ℕ) → begins_with_digit written ≡ true → BeginsWithDigit written
begins_of [] e = absurd (false≢true e)
begins_of (b ∷ bs) e = λ q. let t = eq-eqb b 95 q in let bad : false ≡ true = rw t at e in false≢true bad

within_is : (n : ℕ) → 1 ≤ n → n ≤ 128 → within_size n ≡ Some n
within_is n h k = cond-true _ _ _ (and_from (leb 1 n) (leb n 128) (le-leb 1 n h) (le-leb n 128 k))

within_of : (m n : ℕ) → within_size m ≡ Some n → (n ≡ m) × (1 ≤ m) × (m ≤ 128)
within_of m n e =
    ⊎_elim
    (λ (t : (leb 1 m && leb m 128) ≡ true). let r = between 1 128 m t in
    (sym (some_is m n (sym (cond-true (leb 1 m && leb m 128) (Some m) None t) ∙ e)), r.0, r.1))
    (λ (t : (leb 1 m && leb m 128) ≡ false). let bad : None ≡ Some n = sym (cond-false (leb 1 m && leb m 128) (Some m) None t)
    ∙ e in absurd cc)
    (cases_Bool (leb 1 m && leb m 128))

size_is : (size : List ℕ) (n : ℕ) → SizeOf size n → size_of size ≡ Some n
unfolding size_of
size_is [] n h = ap Some (sym h)
size_is (b ∷ bs) n h =
    let l : decimal (b ∷ bs) < 2 ^ 128 = omega (arith, h.0, h.2) in
    ap (λ o. o >>= within_size) (decimal_some (b ∷ bs) l) ∙ ap within_size (sym h.0) ∙ within_is n h.1 h.2

size_told : (size : List ℕ) (n : ℕ) → size_of size ≡ Some n → SizeOf size n
unfolding size_of
size_told [] n e = sym (some_is 32 n e)
size_told (b ∷ bs) n e =
    let s = bind_some (decimal_of (b ∷ bs)) within_size n e in
    let d = decimal_told (b ∷ bs) s.0 s.1 in
    let w = within_of s.0 n s.2 in
    (w.0 ∙ d.0, omega (arith, w.0, w.1), omega (arith, w.0, w.2))

vector_is : (base : Base) (size : ℕ) (written : List ℕ) (ds : List Digit) → BeginsWithDigit written → InBase base size written ds
    → vector_of base size written ≡ Some ds
unfolding vector_of
vector_is base size written ds b h = cond-true _ _ _ (begins_is written b) ∙ in_base_is base size written ds h

vector_told : (base : Base) (size : ℕ) (written : List ℕ) (ds : List Digit) → vector_of base size written ≡ Some ds
    → BeginsWithDigit written × InBase base size written ds
unfolding vector_of
vector_told base size written ds e =
    ⊎_elim
    (λ (t : begins_with_digit written ≡ true). (
      begins_of written t,
      in_base_of base size written ds (sym (cond-true (begins_with_digit written) (vector_in base size written) None t) ∙ e),
    ))
    (λ (t : begins_with_digit written ≡ false). let bad : None
    ≡ Some ds = sym (cond-false (begins_with_digit written) (vector_in base size written) None t) ∙ e in absurd cc)
    (cases_Bool (begins_with_digit written))

pub based_is : (size written : List ℕ) (base : Base) (ds : List Digit) → BasedVector size written base ds
    → based_value size base written ≡ Some ds
based_is size written base ds h =
    ap (λ o. o >>= λ n. vector_of base n written) (size_is size h.width h.sized) ∙ vector_is base h.width written ds h.begins h.is

pub based_of : (size written : List ℕ) (base : Base) (ds : List Digit) → based_value size base written ≡ Some ds
    → BasedVector size written base ds
based_of size written base ds e =
    let s = bind_some (size_of size) (λ n. vector_of base n written) ds e in
    let v = vector_told base s.0 written ds s.2 in
    record { width = s.0; sized = size_told size s.0 s.1; begins = v.0; is = v.1 }

pub plain_is : (bytes : List ℕ) (ds : List Digit) → PlainVector bytes ds → plain_value bytes ≡ Some ds
plain_is bytes ds h = ap (λ o. o >>= λ n. Some (vector 32 n)) (decimal_some bytes h.1) ∙ ap Some (sym h.2)

pub plain_of : (bytes : List ℕ) (ds : List Digit) → IsDecimal bytes → plain_value bytes ≡ Some ds → PlainVector bytes ds
plain_of bytes ds d e =
    let s = bind_some (decimal_of bytes) (λ n. Some (vector 32 n)) ds e in
    let n = decimal_told bytes s.0 s.1 in
    (d, n.1, sym (some_is (vector 32 s.0) ds s.2) ∙ ap (vector 32) n.0)
