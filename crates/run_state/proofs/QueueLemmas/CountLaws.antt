-- How many different keys of a list pass a test, and counts that rise.
use Rattle.std.proofs.Common.{◌≡◌, ℕ, zero, suc, ◌||◌, ◌&&◌, Bool, true, false, not, if◌then◌else◌, List, [], ◌∷◌, refl, sym, ap, ◌∙◌}
use Rattle.std.specs.Prelude.{filter}
use Rattle.gpi.specs.declared.types.Counts.{Counts}
use Rattle.gpi.specs.declared.types.Key.{Key}
use Rattle.gpi.specs.Keys.{among, same_key, raised}
use Rattle.await_tree.specs.WaitList.Counts.{count_keys, counts_after, raised_times, primed_keys, removed_keys}
use Rattle.await_tree.specs.WaitList.Keys.{AreAlike, without}
use Rattle.run_state.proofs.QueueLemmas.Tests.{and_true, and_false, right_of_and}
use Rattle.run_state.proofs.QueueLemmas.KeyLaws.{same_is, same_sym, first, later, among_test, among-without}

-- none passes
pub count_none : (test : Key → Bool) (ks : List Key) → ((k : Key) → among k ks ≡ true → test k ≡ false) → count_keys test ks ≡ 0
count_none test [] h = refl
count_none test (k ∷ ks) h = rw (h k (first k ks)) (count_none test ks (λ j m. h j (later j k ks m)))

-- tests that agree on the keys of the list
pub count_tests : (p q : Key → Bool) (ks : List Key) → ((k : Key) → among k ks ≡ true → p k ≡ q k) → count_keys p ks ≡ count_keys q ks
count_tests p q [] h = refl
count_tests p q (k ∷ ks) h =
    ap (λ (b : Bool). (let n : ℕ = if b && not (among k ks) then suc (count_keys p ks) else count_keys p ks in n)) (h k (first k ks))
    ∙ ap (λ (m : ℕ). (let n : ℕ = if q k && not (among k ks) then suc m else m in n)) (count_tests p q ks (λ j m. h j (later j k ks m)))

-- ---- membership alone counts

without_none : (key : Key) (ks : List Key) → among key ks ≡ false → without key ks ≡ ks
without_none key [] h = refl
without_none key (k ∷ ks) h = decided (same_key key k) refl h (λ m. without_none key ks m)
  where
    decided : (b : Bool) → same_key key k ≡ b → (b || among key ks) ≡ false → (among key ks ≡ false → without key ks ≡ ks) → without key (k ∷ ks) ≡ k ∷ ks
    decided true e m more = cc
    decided false e m more = rw e (ap (λ (xs : List Key). k ∷ xs) (more m))

-- a key that is there is counted once, apart from the others
count_apart : (test : Key → Bool) (key : Key) (ks : List Key) → among key ks ≡ true
    → count_keys test ks ≡ (if test key then suc (count_keys test (without key ks)) else count_keys test (without key ks))
count_apart test key [] h = cc
count_apart test key (k ∷ ks) h = decided (same_key key k) (among key ks) refl refl (λ m. count_apart test key ks m)
  where
    swapped : (a b : Bool) (n : ℕ) → (let l : ℕ = if a then suc (if b then suc n else n) else (if b then suc n else n) in l) ≡ (if b then suc (if a then suc n else n) else (if a then suc n else n))
    swapped true true n = refl
    swapped true false n = refl
    swapped false true n = refl
    swapped false false n = refl

    decided : (s m : Bool) → same_key key k ≡ s → among key ks ≡ m
        → (among key ks ≡ true → count_keys test ks ≡ (if test key then suc (count_keys test (without key ks)) else count_keys test (without key ks)))
        → count_keys test (k ∷ ks) ≡ (if test key then suc (count_keys test (without key (k ∷ ks))) else count_keys test (without key (k ∷ ks)))
    decided true true s m more =
        let own : key ≡ k = same_is key k s in
        let there : among k ks ≡ true = ap (λ (j : Key). among j ks) (sym own) ∙ m in
        rw (s, there, and_false (test k)) (more m)
    decided true false s m more =
        let own : key ≡ k = same_is key k s in
        let none : among k ks ≡ false = ap (λ (j : Key). among j ks) (sym own) ∙ m in
        let same : test key ≡ test k = ap test own in
        rw (s, none, and_true (test k), without_none key ks m, same) refl
    decided false true s m more =
        let kept : among k (without key ks) ≡ among k ks = among-without k key ks ∙ rw s (and_true (among k ks)) in
        rw (s, kept, more m) (swapped (test k && not (among k ks)) (test key) (count_keys test (without key ks)))
    decided false false s m more = absurd (let z : true ≡ false = sym h ∙ rw (s, m) refl in cc)

-- how many pass depends on which keys are there, and neither on their order nor on how often they are
pub count_members : (test : Key → Bool) (xs ys : List Key) → AreAlike xs ys → count_keys test xs ≡ count_keys test ys
count_members test [] ys h = sym (count_none test ys (λ k m. absurd (let z : true ≡ false = sym m ∙ sym (h k) in cc)))
count_members test (x ∷ xs) ys h = decided (among x xs) refl (λ zs g. count_members test xs zs g)
  where
    same_left : (k : Key) (s : Bool) → among x xs ≡ true → same_key k x ≡ s → among k xs ≡ (s || among k xs)
    same_left k true m s = ap (λ (j : Key). among j xs) (same_is k x s) ∙ m
    same_left k false m s = refl

    taken : (k : Key) (s : Bool) → among x xs ≡ false → same_key k x ≡ s → among k xs ≡ ((s || among k xs) && not s)
    taken k true m s = ap (λ (j : Key). among j xs) (same_is k x s) ∙ m
    taken k false m s = sym (and_true (among k xs))

    decided : (m : Bool) → among x xs ≡ m → ((zs : List Key) → AreAlike xs zs → count_keys test xs ≡ count_keys test zs) → count_keys test (x ∷ xs) ≡ count_keys test ys
    decided true m more =
        rw (m, and_false (test x)) (more ys (λ k. same_left k (same_key k x) m refl ∙ h k))
    decided false m more =
        let rest : count_keys test xs ≡ count_keys test (without x ys)
        = more (without x ys)
        (λ k. taken k (same_key k x) m refl ∙ ap (λ (b : Bool). b && not (same_key k x)) (h k) ∙ ap (λ (b : Bool). among k ys && not b) (same_sym k x) ∙ sym (among-without k x ys)) in
        rw (m, and_true (test x), rest) (sym (count_apart test x ys (sym (h x) ∙ first x xs)))

-- those that don't pass may be left out
count_kept : (test : Key → Bool) (ks : List Key) → count_keys test ks ≡ count_keys test (filter test ks)
count_kept test [] = refl
count_kept test (k ∷ ks) = decided (test k) refl (count_kept test ks)
  where
    decided : (t : Bool) → test k ≡ t → count_keys test ks ≡ count_keys test (filter test ks) → count_keys test (k ∷ ks) ≡ count_keys test (filter test (k ∷ ks))
    decided true t more =
        let same : among k (filter test ks) ≡ among k ks = among_test k test ks ∙ rw t (and_true (among k ks)) in
        rw (t, same, t, more) refl
    decided false t more = rw t more

-- How many pass depends on which keys are there and pass.
pub count_alike : (p q : Key → Bool) (xs ys : List Key) → ((k : Key) → (among k xs && p k) ≡ (among k ys && q k)) → count_keys p xs ≡ count_keys q ys
count_alike p q xs ys h =
    count_kept p xs
    ∙ count_tests p q (filter p xs) both
    ∙ count_members q (filter p xs) (filter q ys) (λ k. among_test k p xs ∙ h k ∙ sym (among_test k q ys))
    ∙ sym (count_kept q ys)
  where
    both : (k : Key) → among k (filter p xs) ≡ true → p k ≡ q k
    both k m =
        let one : (among k xs && p k) ≡ true = sym (among_test k p xs) ∙ m in
        let other : (among k ys && q k) ≡ true = sym (h k) ∙ one in
        right_of_and (among k xs) (p k) one ∙ sym (right_of_and (among k ys) (q k) other)

-- ---- counts that rise

raised_swap : (n c : ℕ) → raised_times n (raised c) ≡ raised (raised_times n c)
raised_swap zero c = refl
raised_swap (suc n) c = raised_swap n (raised c)

-- to count those of two tests that no key passes both of is to count those of either
pub raised_both : (p q : Key → Bool) (ks : List Key) (c : ℕ) → ((k : Key) → among k ks ≡ true → (p k && q k) ≡ false)
    → raised_times (count_keys q ks) (raised_times (count_keys p ks) c) ≡ raised_times (count_keys (λ k. p k || q k) ks) c
raised_both p q [] c h = refl
raised_both p q (k ∷ ks) c h =
    decided (p k) (q k) (among k ks) refl refl refl (h k (first k ks)) (λ d. raised_both p q ks d (λ j m. h j (later j k ks m)))
  where
    decided : (s t m : Bool) → p k ≡ s → q k ≡ t → among k ks ≡ m → (p k && q k) ≡ false
        → ((d : ℕ) → raised_times (count_keys q ks) (raised_times (count_keys p ks) d) ≡ raised_times (count_keys (λ j. p j || q j) ks) d)
        → raised_times (count_keys q (k ∷ ks)) (raised_times (count_keys p (k ∷ ks)) c) ≡ raised_times (count_keys (λ j. p j || q j) (k ∷ ks)) c
    decided true true m s t a none more = absurd (let z : true ≡ false = rw (s, t) at none in cc)
    decided true false true s t a none more = rw (s, t, a) (more c)
    decided true false false s t a none more = rw (s, t, a) (more (raised c))
    decided false true true s t a none more = rw (s, t, a) (more c)
    decided false true false s t a none more =
        rw (s, t, a) (ap (raised_times (count_keys q ks)) (sym (raised_swap (count_keys p ks) c)) ∙ more (raised c))
    decided false false m s t a none more = rw (s, t) (more c)

-- ---- counts of effects

-- the counts that an effect leaves depend on which keys are awaited before and after it
pub counts_same : (fired before before' after after' : List Key) (c : Counts) → AreAlike before before' → AreAlike after after'
    → counts_after fired before after c ≡ counts_after fired before' after' c
counts_same fired before before' after after' c b a = rw (primed, removed) refl
  where
    primed : primed_keys fired before after ≡ primed_keys fired before' after'
    primed =
        count_tests (λ k. not (among k before) || among k fired) (λ k. not (among k before') || among k fired) after (λ k m. ap (λ (x : Bool). not x || among k fired) (b k))
        ∙ count_members (λ k. not (among k before') || among k fired) after after' a

    removed : removed_keys fired before after ≡ removed_keys fired before' after'
    removed =
        count_tests (λ k. not (among k after || among k fired)) (λ k. not (among k after' || among k fired)) before (λ k m. ap (λ (x : Bool). not (x || among k fired)) (a k))
        ∙ count_members (λ k. not (among k after' || among k fired)) before before' b

-- where the same keys are awaited and none fired, nothing is counted
pub counts_still : (before after : List Key) (c : Counts) → AreAlike before after → counts_after [] before after c ≡ c
counts_still before after c h = rw (primed, removed) refl
  where
    primed : primed_keys [] before after ≡ 0
    primed = count_none (λ k. not (among k before) || among k []) after (λ k m. rw (h k, m) refl)

    removed : removed_keys [] before after ≡ 0
    removed = count_none (λ k. not (among k after || among k [])) before (λ k m. rw (sym (h k), m) refl)
