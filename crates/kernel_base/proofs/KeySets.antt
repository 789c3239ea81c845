-- Sets of keys that are taken out one after the other.
use Rattle.std.proofs.Common.{◌≡◌, ℕ, ◌&&◌, ◌||◌, Bool, true, false, not, List, [], ◌∷◌, ◌++◌, refl, sym, ◌∙◌}
use Rattle.gpi.specs.declared.types.Key.{Key}
use Rattle.gpi.specs.Keys.{Keys, has, among, same_key, IsWithout, raised, raised_by}

or_assoc : (a b c : Bool) → ((a || b) || c) ≡ (a || (b || c))
or_assoc true b c = refl
or_assoc false b c = refl

and_not_or : (a b c : Bool) → ((a && not b) && not c) ≡ (a && not (b || c))
and_not_or true true c = refl
and_not_or true false c = refl
and_not_or false true c = refl
and_not_or false false c = refl

pub among_append : (k : Key) (xs ys : List Key) → among k (xs ++ ys) ≡ (among k xs || among k ys)
among_append k [] ys = refl
among_append k (x ∷ xs) ys = rw (among_append k xs ys) (sym (or_assoc (same_key k x) (among k xs) (among k ys)))

pub without_both : (xs ys : List Key) (a b c : Keys) → IsWithout xs a b → IsWithout ys b c → IsWithout (xs ++ ys) a c
without_both xs ys a b c h j = λ k. j k ∙ rw (h k, among_append k xs ys) (and_not_or (has k a) (among k xs) (among k ys))

pub raised_both : (xs ys : List Key) (n : ℕ) → raised_by (xs ++ ys) n ≡ raised_by ys (raised_by xs n)
raised_both [] ys n = refl
raised_both (x ∷ xs) ys n = raised_both xs ys (raised n)

pub keep_all : (a : Bool) → a ≡ (a && true)
keep_all true = refl
keep_all false = refl
