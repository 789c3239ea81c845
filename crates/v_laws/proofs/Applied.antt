-- A digit that no update writes keeps its value.
use Rattle.std.proofs.Common.{◌≡◌, ◌+◌, ◌<◌, ◌≤◌, ◌⊎◌, inl, inr, ◌∙◌, ℕ, zero, suc, Bool, true, false, nat_le, nat_lt, List, [], ◌∷◌, ◌++◌, drop, take, length, slice_get, slice_set, slice_index_or, Option, Some, None, refl, sym, ap, subst, arith}
use Rattle.std.specs.Prelude.{nat_eq}
use Rattle.std.proofs.lemmas.Bool.Decides.{nat_tests}
use Rattle.four_value.specs.declared.Digit.{Digit}
use Rattle.gpi.specs.declared.design.Kind.{Kind}
use Rattle.gpi.specs.declared.design.Wake.{Wake}
use Rattle.gpi.specs.declared.types.Update.{Update}
use Rattle.gpi.specs.Activation.{Map, Hidden, Run, blocking, hidden_in, with_part, written, written_over}
use Rattle.gpi.specs.Design.{Proc}
use Rattle.gpi.specs.Terms.{read}
use Rattle.v_flat.specs.Design.{from}
use Rattle.v_laws.specs.Digits.{Changes, IsWritten, Writes, given_value, or_shown}

-- ---- one vector

behind : (part ds : List Digit) (k : ℕ) (a : Digit) → length part ≤ k → slice_get ds k ≡ Some a → slice_get (part ++ drop (length part) ds) k ≡ Some a
behind [] ds k a h e = e
behind (p ∷ part) [] k a h e = cc
behind (p ∷ part) (d ∷ ds) zero a h e = absurd (omega (arith, h))
behind (p ∷ part) (d ∷ ds) (suc k) a h e = behind part ds k a (omega (arith, h)) e

-- a digit outside of the part stays
part_keeps : (ds : List Digit) (low k : ℕ) (part : List Digit) (a : Digit) → slice_get ds k ≡ Some a → (low ≤ k → k < low + length part → ⊥) → slice_get (with_part ds low part) k ≡ Some a
part_keeps [] low k part a e h = cc
part_keeps (d ∷ ds) zero k part a e h = all (length part) (0 + length part) (omega arith) refl (nat_le (length part) k) refl
  where
    all : (l n : ℕ) → n ≡ l → l ≡ length part → (b : Bool) → nat_le (length part) k ≡ b → slice_get (part ++ drop n (d ∷ ds)) k ≡ Some a
    all l n f g true t = subst (λ (i : ℕ). slice_get (part ++ drop i (d ∷ ds)) k ≡ Some a) (sym (f ∙ g)) (behind part (d ∷ ds) k a (grind (arith, nat_tests)) e)
    all l n f g false t = absurd (h (omega arith) (grind (arith, nat_tests)))
part_keeps (d ∷ ds) (suc low) zero part a e h = e
part_keeps (d ∷ ds) (suc low) (suc k) part a e h =
    let f : suc low + length part ≡ suc (low + length part) = omega arith in
    subst (λ (i : ℕ). slice_get (take low ds ++ (part ++ drop i (d ∷ ds))) k ≡ Some a) (sym f) (part_keeps ds low k part a e (λ l u. h (omega (arith, l)) (omega (arith, u))))

-- ---- a map

other_stays : {A : Type 0} (m : List A) (i n : ℕ) (x d : A) → (i ≡ n → ⊥) → slice_index_or (slice_set m i x) n d ≡ slice_index_or m n d
other_stays [] i n x d h = refl
other_stays (y ∷ m) zero zero x d h = absurd (h refl)
other_stays (y ∷ m) zero (suc n) x d h = refl
other_stays (y ∷ m) (suc i) zero x d h = refl
other_stays (y ∷ m) (suc i) (suc n) x d h = other_stays m i n x d (λ e. h (ap suc e))

-- where there is a digit there is a signal
read_same : (m : Map) (n k : ℕ) (ds : List Digit) (a : Digit) → slice_get (read m n) k ≡ Some a → read (slice_set m n ds) n ≡ ds
read_same [] n k ds a e = cc
read_same (x ∷ m) zero k ds a e = refl
read_same (x ∷ m) (suc n) k ds a e = read_same m n k ds a e

-- where there is a hidden value there is a place for it
hidden_same : (h : Hidden) (n : ℕ) (ds x : List Digit) → hidden_in h n ≡ Some ds → hidden_in (slice_set h n (Some x)) n ≡ Some x
hidden_same [] n ds x e = cc
hidden_same (y ∷ h) zero ds x e = refl
hidden_same (y ∷ h) (suc n) ds x e = hidden_same h n ds x e

shown_keeps : (u : Update) (m : Map) (n k : ℕ) (a : Digit) → slice_get (read m n) k ≡ Some a → (Writes u n k → ⊥)
    → slice_get (read (slice_set m u.sig.0 (with_part (read m u.sig.0) u.low u.bits)) n) k ≡ Some a
shown_keeps u m n k a e h = go (nat_eq u.sig.0 n) refl
  where
    after : List Digit
    after = with_part (read m u.sig.0) u.low u.bits

    go : (b : Bool) → nat_eq u.sig.0 n ≡ b → slice_get (read (slice_set m u.sig.0 after) n) k ≡ Some a
    go true f = same (grind (arith, nat_tests))
      where
        same : u.sig.0 ≡ n → slice_get (read (slice_set m u.sig.0 after) n) k ≡ Some a
        same g =
            let r : read (slice_set m u.sig.0 after) n ≡ after = subst (λ i. read (slice_set m i after) n ≡ after) (sym g) (read_same m n k after a e) in
            let v : slice_get (read m u.sig.0) k ≡ Some a = ap (λ i. slice_get (read m i) k) g ∙ e in
            ap (λ ds. slice_get ds k) r ∙ part_keeps (read m u.sig.0) u.low k u.bits a v (λ l t. h (g, l, t))
    go false f = ap (λ ds. slice_get ds k) (other_stays m u.sig.0 n after [] (λ g. (grind (arith, nat_tests)))) ∙ e

one_keeps : (u : Update) (r : Run) (n k : ℕ) (a : Digit) → slice_get (given_value r n) k ≡ Some a → (Writes u n k → ⊥) → slice_get (given_value (written u r) n) k ≡ Some a
one_keeps u r n k a e h = over (hidden_in r.hidden u.sig.0) refl
  where
    after : List Digit
    after = with_part (read r.signals u.sig.0) u.low u.bits

    shown : (o : Option (List Digit)) → slice_get (or_shown o (read r.signals n)) k ≡ Some a → slice_get (or_shown o (read (slice_set r.signals u.sig.0 after) n)) k ≡ Some a
    shown None f = shown_keeps u r.signals n k a f h
    shown (Some ds) f = f

    hides : (o : Option (List Digit)) → hidden_in r.hidden n ≡ o → slice_get (or_shown o (read r.signals n)) k ≡ Some a
    hides o f = ap (λ (p : Option (List Digit)). slice_get (or_shown p (read r.signals n)) k) (sym f) ∙ e

    over : (o : Option (List Digit)) → hidden_in r.hidden u.sig.0 ≡ o → slice_get (given_value (written_over o u r) n) k ≡ Some a
    over None f = shown (hidden_in r.hidden n) e
    over (Some ds) f = go (nat_eq u.sig.0 n) refl
      where
        set : Hidden
        set = slice_set r.hidden u.sig.0 (Some (with_part ds u.low u.bits))

        is_own : u.sig.0 ≡ n → slice_get (or_shown (hidden_in set n) (read r.signals n)) k ≡ Some a
        is_own g =
            let own : hidden_in set n ≡ Some (with_part ds u.low u.bits) = subst (λ i. hidden_in set i ≡ Some (with_part ds u.low u.bits)) g (hidden_same r.hidden u.sig.0 ds (with_part ds u.low u.bits) f) in
            ap (λ (p : Option (List Digit)). slice_get (or_shown p (read r.signals n)) k) own
            ∙ part_keeps ds u.low k u.bits a (hides (Some ds) (ap (hidden_in r.hidden) (sym g) ∙ f)) (λ l t. h (g, l, t))

        go : (b : Bool) → nat_eq u.sig.0 n ≡ b → slice_get (or_shown (hidden_in set n) (read r.signals n)) k ≡ Some a
        go true g = is_own (grind (arith, nat_tests))
        go false g =
            ap (λ (p : Option (List Digit)). slice_get (or_shown p (read r.signals n)) k) (other_stays r.hidden u.sig.0 n (Some (with_part ds u.low u.bits)) None (λ i. (grind (arith, nat_tests))))
            ∙ e

pub all_keep : (us : List Update) (r : Run) (n k : ℕ) (a : Digit) → slice_get (given_value r n) k ≡ Some a → (IsWritten us n k → ⊥) → slice_get (given_value (blocking us r) n) k ≡ Some a
all_keep [] r n k a e h = e
all_keep (u ∷ us) r n k a e h = all_keep us (written u r) n k a (one_keeps u r n k a e (λ w. h (inl w))) (λ w. h (inr w))

-- what is made at once leaves no update
over_leaves : (o : Option (List Digit)) (u : Update) (r : Run) → (written_over o u r).updates ≡ r.updates
over_leaves None u r = refl
over_leaves (Some ds) u r = refl

pub blocking_leaves : (us : List Update) (r : Run) → (blocking us r).updates ≡ r.updates
blocking_leaves [] r = refl
blocking_leaves (u ∷ us) r = blocking_leaves us (written u r) ∙ over_leaves (hidden_in r.hidden u.sig.0) u r

-- ---- what an assignment changes, it writes

writes_or_not : (u : Update) (n k : ℕ) → Writes u n k ⊎ (Writes u n k → ⊥)
writes_or_not u n k = go (nat_eq u.sig.0 n) (nat_le u.low k) (nat_lt k (u.low + length u.bits)) refl refl refl
  where
    go : (x y z : Bool) → nat_eq u.sig.0 n ≡ x → nat_le u.low k ≡ y → nat_lt k (u.low + length u.bits) ≡ z → Writes u n k ⊎ (Writes u n k → ⊥)
    go true true true e f g = inl (grind (arith, nat_tests), grind (arith, nat_tests), grind (arith, nat_tests))
    go false y z e f g = inr (λ w. let a = w.0 in absurd (grind (arith, nat_tests)))
    go true false z e f g = inr (λ w. let a = w.1 in absurd (grind (arith, nat_tests)))
    go true true false e f g = inr (λ w. let a = w.2 in absurd (grind (arith, nat_tests)))

written_or_not : (us : List Update) (n k : ℕ) → IsWritten us n k ⊎ (IsWritten us n k → ⊥)
written_or_not [] n k = inr (λ w. w)
written_or_not (u ∷ us) n k = go (writes_or_not u n k) (written_or_not us n k)
  where
    neither : (Writes u n k → ⊥) → (IsWritten us n k → ⊥) → IsWritten (u ∷ us) n k → ⊥
    neither f g (inl w) = f w
    neither f g (inr w) = g w

    go : Writes u n k ⊎ (Writes u n k → ⊥) → IsWritten us n k ⊎ (IsWritten us n k → ⊥) → IsWritten (u ∷ us) n k ⊎ (IsWritten (u ∷ us) n k → ⊥)
    go (inl w) y = inl (inl w)
    go (inr f) (inl w) = inl (inr w)
    go (inr f) (inr g) = inr (neither f g)

-- a process that makes these updates at once
abbrev pub updating : Kind → List Wake → (Map → List Update) → Proc
updating kind wakes us = record { kind = kind; wakes = wakes; run = λ m h. blocking (us m) (from m h) }

pub changed_written : (kind : Kind) (wakes : List Wake) (us : Map → List Update) (n k : ℕ) → Changes (updating kind wakes us) n k → (m : Map) × IsWritten (us m) n k
changed_written kind wakes us n k c = (c.map, go (written_or_not (us c.map) n k))
  where
    go : IsWritten (us c.map) n k ⊎ (IsWritten (us c.map) n k → ⊥) → IsWritten (us c.map) n k
    go (inl w) = w
    go (inr f) = absurd (c.after (all_keep (us c.map) (from c.map c.hidden) n k c.digit c.before f))
