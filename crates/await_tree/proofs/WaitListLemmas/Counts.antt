-- How many keys of a list pass a test.
use Rattle.std.proofs.Common.{◌≡◌, ℕ, zero, suc, arith, ◌+◌, ◌||◌, ◌&&◌, Bool, true, false, not, if◌then◌else◌, List, [], ◌∷◌, refl, sym, ap, ◌∙◌}
use Rattle.gpi.specs.declared.types.Key.{Key}
use Rattle.gpi.specs.Keys.{among, raised, same_key}
use Rattle.await_tree.specs.WaitList.Counts.{count_keys, raised_times}
use Rattle.await_tree.specs.WaitList.Keys.{without}
use Rattle.await_tree.proofs.WaitListLemmas.Members.{and_no, and_yes, among_first, among_without, or_right, same_is, same_self, same_sym}

later : (j k : Key) (ks : List Key) → among j ks ≡ true → among j (k ∷ ks) ≡ true
later j k ks h = or_right (same_key j k) (among j ks) h

-- none passes
pub count_none : (test : Key → Bool) (ks : List Key) → ((k : Key) → among k ks ≡ true → test k ≡ false) → count_keys test ks ≡ 0
count_none test [] h = refl
count_none test (k ∷ ks) h = rw (h k (among_first k ks)) (count_none test ks (λ j m. h j (later j k ks m)))

-- one key alone passes, wherever it stands
pub count_single : (test : Key → Bool) (key : Key) (ks : List Key) → among key ks ≡ true → ((k : Key) → among k ks ≡ true → test k ≡ same_key k key) → count_keys test ks ≡ 1
count_single test key [] a h = cc
count_single test key (k ∷ ks) a h = decided (same_key k key) (among k ks) refl refl
    (λ m. count_single test key ks m (λ j n. h j (later j k ks n)))
    (λ m. count_none test ks (λ j n. h j (later j k ks n) ∙ m j n))
  where
    decided : (s m : Bool) → same_key k key ≡ s → among k ks ≡ m → (among key ks ≡ true → count_keys test ks ≡ 1)
        → (((j : Key) → among j ks ≡ true → same_key j key ≡ false) → count_keys test ks ≡ 0) → count_keys test (k ∷ ks) ≡ 1
    decided true true s m rest none = rw (h k (among_first k ks), s, m) (rest (ap (λ (j : Key). among j ks) (sym (same_is k key s)) ∙ m))
    decided true false s m rest none = rw (h k (among_first k ks), s, m) (ap suc (none (λ j n. other j (same_key j key) n refl)))
      where
        other : (j : Key) (b : Bool) → among j ks ≡ true → same_key j key ≡ b → same_key j key ≡ false
        other j true n e = absurd (let x : among k ks ≡ true = ap (λ (i : Key). among i ks) (same_is k key s ∙ sym (same_is j key e)) ∙ n in cc)
        other j false n e = e
    decided false m s n rest none = rw (h k (among_first k ks), s) (rest (behind (same_key key k) refl))
      where
        behind : (b : Bool) → same_key key k ≡ b → among key ks ≡ true
        behind true e = absurd (let x : same_key k key ≡ true = ap (same_key k) (same_is key k e) ∙ same_self k in cc)
        behind false e = rw e at a

-- tests that agree on the keys of the list
pub count_tests : (p q : Key → Bool) (ks : List Key) → ((k : Key) → among k ks ≡ true → p k ≡ q k) → count_keys p ks ≡ count_keys q ks
count_tests p q [] h = refl
count_tests p q (k ∷ ks) h =
    ap (λ (b : Bool). (let n : ℕ = if b && not (among k ks) then suc (count_keys p ks) else count_keys p ks in n)) (h k (among_first k ks))
    ∙ ap (λ (m : ℕ). (let n : ℕ = if q k && not (among k ks) then suc m else m in n)) (count_tests p q ks (λ j m. h j (later j k ks m)))

without_none : (key : Key) (ks : List Key) → among key ks ≡ false → without key ks ≡ ks
without_none key [] h = refl
without_none key (k ∷ ks) h = decided (same_key key k) refl h (λ m. without_none key ks m)
  where
    decided : (b : Bool) → same_key key k ≡ b → (b || among key ks) ≡ false → (among key ks ≡ false → without key ks ≡ ks) → without key (k ∷ ks) ≡ k ∷ ks
    decided true e m more = cc
    decided false e m more = rw e (ap (λ (xs : List Key). k ∷ xs) (more m))

-- a key that is there is counted once, apart from the others
count_apart : (test : Key → Bool) (key : Key) (ks : List Key) → among key ks ≡ true
    → count_keys test ks ≡ (if test key then suc (count_keys test (without key ks)) else count_keys test (without key ks))
count_apart test key [] h = cc
count_apart test key (k ∷ ks) h = decided (same_key key k) (among key ks) refl refl (λ m. count_apart test key ks m)
  where
    swapped : (a b : Bool) (n : ℕ) → (let l : ℕ = if a then suc (if b then suc n else n) else (if b then suc n else n) in l) ≡ (if b then suc (if a then suc n else n) else (if a then suc n else n))
    swapped true true n = refl
    swapped true false n = refl
    swapped false true n = refl
    swapped false false n = refl

    decided : (s m : Bool) → same_key key k ≡ s → among key ks ≡ m
        → (among key ks ≡ true → count_keys test ks ≡ (if test key then suc (count_keys test (without key ks)) else count_keys test (without key ks)))
        → count_keys test (k ∷ ks) ≡ (if test key then suc (count_keys test (without key (k ∷ ks))) else count_keys test (without key (k ∷ ks)))
    decided true true s m more =
        let own : key ≡ k = same_is key k s in
        let there : among k ks ≡ true = ap (λ (j : Key). among j ks) (sym own) ∙ m in
        rw (s, there, and_no (test k)) (more m)
    decided true false s m more =
        let own : key ≡ k = same_is key k s in
        let none : among k ks ≡ false = ap (λ (j : Key). among j ks) (sym own) ∙ m in
        let same : test key ≡ test k = ap test own in
        rw (s, none, and_yes (test k), without_none key ks m, same) refl
    decided false true s m more =
        let kept : among k (without key ks) ≡ among k ks = among_without k key ks ∙ rw s (and_yes (among k ks)) in
        rw (s, kept, more m) (swapped (test k && not (among k ks)) (test key) (count_keys test (without key ks)))
    decided false false s m more = absurd (let z : true ≡ false = sym h ∙ rw (s, m) refl in cc)

-- keys that pass are in both lists or in none
pub count_passing : (test : Key → Bool) (xs ys : List Key) → ((k : Key) → test k ≡ true → among k xs ≡ among k ys) → count_keys test xs ≡ count_keys test ys
count_passing test [] ys h = sym (count_none test ys (λ k m. none k (test k) refl m))
  where
    none : (k : Key) (b : Bool) → test k ≡ b → among k ys ≡ true → test k ≡ false
    none k true t m = absurd (let z : true ≡ false = sym m ∙ sym (h k t) in cc)
    none k false t m = t
count_passing test (x ∷ xs) ys h = decided (among x xs) (test x) refl refl (λ zs g. count_passing test xs zs g)
  where
    same_left : (k : Key) (s : Bool) → among x xs ≡ true → same_key k x ≡ s → among k xs ≡ (s || among k xs)
    same_left k true m s = ap (λ (j : Key). among j xs) (same_is k x s) ∙ m
    same_left k false m s = refl

    taken : (k : Key) (s : Bool) → among x xs ≡ false → same_key k x ≡ s → among k xs ≡ ((s || among k xs) && not s)
    taken k true m s = ap (λ (j : Key). among j xs) (same_is k x s) ∙ m
    taken k false m s = sym (and_yes (among k xs))

    -- the first key doesn't pass, and so is no key that passes
    other : (k : Key) (s : Bool) → test x ≡ false → test k ≡ true → same_key k x ≡ s → among k xs ≡ (s || among k xs)
    other k true t p s = absurd (let z : true ≡ false = sym p ∙ ap test (same_is k x s) ∙ t in cc)
    other k false t p s = refl

    decided : (m t : Bool) → among x xs ≡ m → test x ≡ t → ((zs : List Key) → ((k : Key) → test k ≡ true → among k xs ≡ among k zs) → count_keys test xs ≡ count_keys test zs)
        → count_keys test (x ∷ xs) ≡ count_keys test ys
    decided true t m e more = rw (m, and_no (test x)) (more ys (λ k p. same_left k (same_key k x) m refl ∙ h k p))
    decided false false m e more = rw e (more ys (λ k p. other k (same_key k x) e p refl ∙ h k p))
    decided false true m e more =
        let rest : count_keys test xs ≡ count_keys test (without x ys)
        = more (without x ys)
        (λ k p. taken k (same_key k x) m refl ∙ ap (λ (b : Bool). b && not (same_key k x)) (h k p) ∙ ap (λ (b : Bool). among k ys && not b) (same_sym k x) ∙ sym (among_without k x ys)) in
        rw (m, e, rest) (sym (count_apart test x ys (sym (h x e) ∙ among_first x xs) ∙ rw e refl))

-- each that passes passes one of two tests
pub count_sum : (p q r : Key → Bool) (ks : List Key) → ((k : Key) → among k ks ≡ true → p k ≡ (q k || r k)) → ((k : Key) → among k ks ≡ true → (q k && r k) ≡ false)
    → count_keys p ks ≡ count_keys q ks + count_keys r ks
count_sum p q r [] h e = omega arith
count_sum p q r (k ∷ ks) h e =
    decided (q k) (r k) (among k ks) refl refl refl (h k (among_first k ks)) (e k (among_first k ks)) (count_sum p q r ks (λ j m. h j (later j k ks m)) (λ j m. e j (later j k ks m)))
  where
    decided : (a b m : Bool) → q k ≡ a → r k ≡ b → among k ks ≡ m → p k ≡ (q k || r k) → (q k && r k) ≡ false → count_keys p ks ≡ count_keys q ks + count_keys r ks
        → count_keys p (k ∷ ks) ≡ count_keys q (k ∷ ks) + count_keys r (k ∷ ks)
    decided true true m a b c x y s = absurd (let z : true ≡ false = sym (rw (a, b) refl) ∙ y in cc)
    decided true false true a b c x y s = rw (x, a, b, c) s
    decided true false false a b c x y s = rw (x, a, b, c) (omega arith)
    decided false true true a b c x y s = rw (x, a, b, c) s
    decided false true false a b c x y s = rw (x, a, b, c) (omega arith)
    decided false false m a b c x y s = rw (x, a, b) s

-- raised so often, and then more often
pub raised_sum : (m n count : ℕ) → raised_times (m + n) count ≡ raised_times n (raised_times m count)
raised_sum zero n count = let e : zero + n ≡ n = omega arith in ap (λ (i : ℕ). raised_times i count) e
raised_sum (suc m) n count = let e : suc m + n ≡ suc (m + n) = omega arith in ap (λ (i : ℕ). raised_times i count) e ∙ raised_sum m n (raised count)
