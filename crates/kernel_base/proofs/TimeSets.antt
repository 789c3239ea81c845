-- Sets of times: what one more or one less leaves, the least one, and keys with such times.
use Rattle.std.proofs.Common.{◌≡◌, ◌≤◌, ℕ, ◌==◌, ◌&&◌, ◌||◌, Bool, true, false, not, cond, List, [], ◌∷◌, ◌++◌, Option, Some, None, refl, sym, ◌∙◌, ap, arith, slice_get, min, Result, Ok, Err, OnErr}
use Rattle.std.specs.List.{All, AllByRecursion, list_any}
use Rattle.std.specs.Ordering.{nat_cmp, is_eq}
use Rattle.std.specs.BTreeMap.{is_at}
use Rattle.std.specs.BTreeSet.{BTreeSet, contains, Updates}
use Rattle.std.specs.BTreeMap.Range.{IsLeBy}
use Rattle.std.proofs.lemmas.List.Elements.{recursion_from_All}
use Rattle.std.proofs.lemmas.Bool.Decides.{nat_tests}
use Rattle.gpi.specs.Keys.{holds, least, lesser}
use Rattle.kernel_base.specs.TimeSets.{sooner, IsWithTime, IsWithoutTime}

same_test : (q k : ℕ) → is_eq (nat_cmp q k) ≡ (q == k)
same_test q k = grind (arith, nat_tests)

pub holds_keys : (q : ℕ) (ks : List ℕ) → list_any (is_at (nat_cmp q)) ks ≡ holds q ks
holds_keys q [] = refl
holds_keys q (k ∷ ks) = rw (same_test q k, holds_keys q ks) refl

-- what a set has after one time was put in or taken out
holds_after : (s n : BTreeSet ℕ) (t : ℕ) (b : Bool) → Updates nat_cmp s n t b → (q : ℕ) → holds q n.keys ≡ cond (t == q) b (holds q s.keys)
holds_after s n t b u q =
    sym (holds_keys q n.keys) ∙ u.0 q ∙ rw (same_test t q, holds_keys q s.keys) refl

swallow : (t q : ℕ) (a : Bool) → cond (t == q) false a ≡ (a && not (q == t))
swallow t q true = grind (arith, nat_tests)
swallow t q false = grind (arith, nat_tests)

join : (t q : ℕ) (a : Bool) → cond (t == q) true a ≡ ((q == t) || a)
join t q true = grind (arith, nat_tests)
join t q false = grind (arith, nat_tests)

pub with_time : (s n : BTreeSet ℕ) (t : ℕ) → Updates nat_cmp s n t true → IsWithTime t s.keys n.keys
with_time s n t u q = holds_after s n t true u q ∙ join t q (holds q s.keys)

pub without_time : (s n : BTreeSet ℕ) (t : ℕ) → Updates nat_cmp s n t false → IsWithoutTime t s.keys n.keys
without_time s n t u q = holds_after s n t false u q ∙ swallow t q (holds q s.keys)

-- ---- the least

lesser_step : (k x : ℕ) (o : Option ℕ) → k ≤ x → lesser k o ≡ Some k → lesser k (lesser x o) ≡ Some k
lesser_step k x None h e = ap Some (omega arith)
lesser_step k x (Some u) h e = let f : min k u ≡ k = cc in ap Some (omega arith)

not_above : (k x : ℕ) → IsLeBy nat_cmp k x → k ≤ x
not_above k x h = grind (arith, nat_tests)

bounded : (k : ℕ) (ks : List ℕ) → AllByRecursion (IsLeBy nat_cmp k) ks → lesser k (least ks) ≡ Some k
bounded k [] h = refl
bounded k (x ∷ ks) h = lesser_step k x (least ks) (not_above k x h.0) (bounded k ks h.1)

-- the first of times of which none is less than it
pub least_first : (k : ℕ) (ks : List ℕ) → slice_get ks 0 ≡ Some k → All (IsLeBy nat_cmp k) ks → Some k ≡ least ks
least_first k [] e h = absurd (cc)
least_first k (x ∷ ks) e h =
    let f : x ≡ k = cc in
    sym (ap (λ (y : ℕ). lesser y (least ks)) f ∙ bounded k ks (recursion_from_All (IsLeBy nat_cmp k) (x ∷ ks) h).1)

-- ---- a time that is new

pub absent : {A B : Type 0} (r : Result A B) (t : ℕ) (s : BTreeSet ℕ) → contains nat_cmp s t ≡ false → OnErr r (holds t s.keys ≡ false)
absent (Ok x) t s h = tt
absent (Err e) t s h = sym (holds_keys t s.keys) ∙ h

-- ---- the least of two lists

lesser_twice : (x u : ℕ) (o : Option ℕ) → lesser x (lesser u o) ≡ lesser (min x u) o
lesser_twice x u None = refl
lesser_twice x u (Some v) = ap Some (omega arith)

pub lesser_sooner : (x : ℕ) (a b : Option ℕ) → lesser x (sooner a b) ≡ sooner (lesser x a) b
lesser_sooner x None b = refl
lesser_sooner x (Some u) b = lesser_twice x u b

pub lesser_swap : (x u : ℕ) (o : Option ℕ) → lesser x (lesser u o) ≡ lesser u (lesser x o)
lesser_swap x u None = ap Some (omega arith)
lesser_swap x u (Some v) = ap Some (omega arith)

pub sooner_lesser : (x : ℕ) (a b : Option ℕ) → sooner a (lesser x b) ≡ lesser x (sooner a b)
sooner_lesser x None b = refl
sooner_lesser x (Some u) b = lesser_swap u x b

pub least_both : (xs ys : List ℕ) → sooner (least xs) (least ys) ≡ least (xs ++ ys)
least_both [] ys = refl
least_both (x ∷ xs) ys = sym (lesser_sooner x (least xs) (least ys)) ∙ ap (lesser x) (least_both xs ys)
