-- Keys that lists tell.
use Rattle.std.proofs.Common.{◌≡◌, ℕ, ◌==◌, ◌||◌, ◌&&◌, Bool, true, false, not, List, [], ◌∷◌, ◌++◌, refl, sym, ap, ◌∙◌, rules, eqb-true}
use Rattle.std.specs.Prelude.{filter}
use Rattle.gpi.specs.declared.types.Key.{Key}
use Rattle.gpi.specs.declared.types.Key.TheVariants as key
use Rattle.gpi.specs.declared.types.SigId.{SigId}
use Rattle.gpi.specs.Keys.{among, same_key}
use Rattle.await_tree.specs.WaitList.Keys.{AreAlike, without, without_all}
use Rattle.await_tree.specs.WaitList.Waiting.{Waiting, keys_of, named}
use Rattle.run_state.proofs.QueueLemmas.Tests.{and_true, and_false, or_assoc, or_both, or_right}

one_signal : (s t : SigId) → (s.0 == t.0) ≡ true → s ≡ t
one_signal s t h = ap (λ (n : ℕ). let x : SigId = record { 0 = n } in x) (eqb-true s.0 t.0 h)

-- keys that are one are equal
pub same_is : (x y : Key) → same_key x y ≡ true → x ≡ y
same_is (key.At s) (key.At t) h = ap key.At (eqb-true s t h)
same_is (key.Rise s) (key.Rise t) h = ap key.Rise (one_signal s t h)
same_is (key.Fall s) (key.Fall t) h = ap key.Fall (one_signal s t h)
same_is (key.Change s) (key.Change t) h = ap key.Change (one_signal s t h)
same_is key.ReadWrite key.ReadWrite h = refl
same_is key.ReadOnly key.ReadOnly h = refl
same_is key.NextStep key.NextStep h = refl
same_is x y h = cc

pub same_self : (k : Key) → same_key k k ≡ true
same_self (key.At t) = search rules
same_self (key.Rise s) = search rules
same_self (key.Fall s) = search rules
same_self (key.Change s) = search rules
same_self key.ReadWrite = refl
same_self key.ReadOnly = refl
same_self key.NextStep = refl

-- in either order
pub same_sym : (x y : Key) → same_key x y ≡ same_key y x
same_sym x y = decided (same_key x y) (same_key y x) refl refl
  where
    decided : (p q : Bool) → same_key x y ≡ p → same_key y x ≡ q → same_key x y ≡ same_key y x
    decided true true p q = p ∙ sym q
    decided false false p q = p ∙ sym q
    decided true false p q = let e : same_key y x ≡ true = ap (λ (z : Key). same_key y z) (same_is x y p) ∙ same_self y in absurd (let z : true ≡ false = sym e ∙ q in cc)
    decided false true p q = let e : same_key x y ≡ true = ap (λ (z : Key). same_key x z) (same_is y x q) ∙ same_self x in absurd (let z : true ≡ false = sym e ∙ p in cc)

-- ---- keys of lists

pub first : (k : Key) (ks : List Key) → among k (k ∷ ks) ≡ true
first k ks = rw (same_self k) refl

pub later : (j k : Key) (ks : List Key) → among j ks ≡ true → among j (k ∷ ks) ≡ true
later j k ks h = or_right (same_key j k) (among j ks) h

pub among-append : (k : Key) (xs ys : List Key) → among k (xs ++ ys) ≡ (among k xs || among k ys)
among-append k [] ys = refl
among-append k (x ∷ xs) ys = ap (λ (b : Bool). same_key k x || b) (among-append k xs ys) ∙ sym (or_assoc (same_key k x) (among k xs) (among k ys))

-- the keys of a list that pass a test
pub among_test : (k : Key) (test : Key → Bool) (xs : List Key) → among k (filter test xs) ≡ (among k xs && test k)
among_test k test [] = refl
among_test k test (x ∷ xs) = decided (test x) (same_key k x) refl refl (among_test k test xs)
  where
    decided : (t s : Bool) → test x ≡ t → same_key k x ≡ s → among k (filter test xs) ≡ (among k xs && test k)
        → among k (filter test (x ∷ xs)) ≡ (among k (x ∷ xs) && test k)
    decided true true t s h = let e : test k ≡ true = ap test (same_is k x s) ∙ t in rw (t, s, e) refl
    decided true false t s h = rw (t, s) h
    decided false true t s h = let e : test k ≡ false = ap test (same_is k x s) ∙ t in rw (t, s, e) (h ∙ rw e (and_false (among k xs)))
    decided false false t s h = rw (t, s) h

pub among-without : (k gone : Key) (xs : List Key) → among k (without gone xs) ≡ (among k xs && not (same_key gone k))
among-without k gone xs = among_test k (λ (other : Key). not (same_key gone other)) xs

pub among-filter : (k : Key) (gone xs : List Key) → among k (filter (λ x. not (among x gone)) xs) ≡ (among k xs && not (among k gone))
among-filter k gone xs = among_test k (λ (x : Key). not (among x gone)) xs

-- the keys of a list that are left without several
pub among_without_all : (x : Key) (ks held : List Key) → among x (without_all ks held) ≡ (among x held && not (among x ks))
among_without_all x [] held = sym (and_true (among x held))
among_without_all x (k ∷ ks) held =
    among_without_all x ks (without k held)
    ∙ ap (λ (b : Bool). b && not (among x ks)) (among-without x k held)
    ∙ and_and (among x held) (same_key k x) (among x ks)
    ∙ ap (λ (b : Bool). among x held && not (b || among x ks)) (same_sym k x)
  where
    and_and : (a p q : Bool) → ((a && not p) && not q) ≡ (a && not (p || q))
    and_and true true q = refl
    and_and true false q = refl
    and_and false p q = refl

-- ---- named keys

pub among_named : (x : Key) (waiting : List Waiting) (held : List Key) → among x (named waiting held) ≡ (among x (keys_of waiting) || among x held)
among_named x waiting held = among-append x (keys_of waiting) held

-- the same keys are named where the same are held
pub named_alike : (waiting : List Waiting) (held other : List Key) → AreAlike held other → AreAlike (named waiting held) (named waiting other)
named_alike waiting held other h x =
    among_named x waiting held ∙ ap (λ (b : Bool). among x (keys_of waiting) || b) (h x) ∙ sym (among_named x waiting other)

-- what is named is named before, where each part was
pub named_less : (x : Key) (ws ws' : List Waiting) (held held' : List Key)
    → (among x (keys_of ws') ≡ true → among x (keys_of ws) ≡ true) → (among x held' ≡ true → among x held ≡ true)
    → among x (named ws' held') ≡ true → among x (named ws held) ≡ true
named_less x ws ws' held held' f g m =
    among_named x ws held
    ∙ or_both (among x (keys_of ws')) (among x held') (among x (keys_of ws)) (among x held) f g (sym (among_named x ws' held') ∙ m)
