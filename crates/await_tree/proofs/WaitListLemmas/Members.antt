-- Keys among lists.
use Rattle.std.proofs.Common.{◌≡◌, ℕ, ◌==◌, ◌||◌, ◌&&◌, Bool, true, false, not, List, [], ◌∷◌, ◌++◌, refl, sym, ap, ◌∙◌, rules, eqb-true}
use Rattle.gpi.specs.declared.types.Key.{Key}
use Rattle.gpi.specs.declared.types.Key.TheVariants as key
use Rattle.gpi.specs.declared.types.SigId.{SigId}
use Rattle.gpi.specs.Keys.{among, same_key}
use Rattle.await_tree.specs.Fire.{is_among}
use Rattle.await_tree.specs.declared.cause.Awaited.{Awaited}
use Rattle.await_tree.specs.declared.cause.Awaited.TheVariants as awaited
use Rattle.await_tree.specs.WaitList.Keys.{without, without_all}
use Rattle.await_tree.specs.WaitList.Waiting.{Waiting, keys_among, keys_of, named, tree_keys}
use Rattle.await_tree.specs.WaitList.Parts.{AreWithin}

-- ---- truth values

pub and_no : (b : Bool) → (b && false) ≡ false
and_no true = refl
and_no false = refl

pub and_yes : (b : Bool) → (b && true) ≡ b
and_yes true = refl
and_yes false = refl

pub or_no : (b : Bool) → (b || false) ≡ b
or_no true = refl
or_no false = refl

pub or_none : (b : Bool) → b ≡ (b || false)
or_none true = refl
or_none false = refl

pub or_yes : (b : Bool) → (b || true) ≡ true
or_yes true = refl
or_yes false = refl

or_or : (a b c : Bool) → ((a || b) || c) ≡ (a || (b || c))
or_or true b c = refl
or_or false b c = refl

pub or_left : (a b : Bool) → a ≡ true → (a || b) ≡ true
or_left true b h = refl
or_left false b h = absurd (cc)

pub or_right : (a b : Bool) → b ≡ true → (a || b) ≡ true
or_right a b h = ap (λ (x : Bool). a || x) h ∙ or_yes a

pub or_more : (a b c : Bool) → (a ≡ true → c ≡ true) → (b ≡ true → c ≡ true) → (a || b) ≡ true → c ≡ true
or_more true b c h k e = h refl
or_more false b c h k e = k e

pub or_false_left : (a b : Bool) → (a || b) ≡ false → a ≡ false
or_false_left true b h = h
or_false_left false b h = refl

pub or_false_right : (a b : Bool) → (a || b) ≡ false → b ≡ false
or_false_right true b h = absurd (cc)
or_false_right false b h = h

pub and_left : (a b : Bool) → (a && b) ≡ true → a ≡ true
and_left true b h = refl
and_left false b h = h

pub and_right : (a b : Bool) → (a && b) ≡ true → b ≡ true
and_right true b h = h
and_right false b h = absurd (cc)

-- each implies the other
pub alike : (a b : Bool) → (a ≡ true → b ≡ true) → (b ≡ true → a ≡ true) → a ≡ b
alike true b h k = sym (h refl)
alike false true h k = k refl
alike false false h k = refl

-- ---- keys

one_signal : (s t : SigId) → (s.0 == t.0) ≡ true → s ≡ t
one_signal s t h = ap (λ (n : ℕ). let x : SigId = record { 0 = n } in x) (eqb-true s.0 t.0 h)

-- keys that are one are equal
pub same_is : (x y : Key) → same_key x y ≡ true → x ≡ y
same_is (key.At s) (key.At t) h = ap key.At (eqb-true s t h)
same_is (key.Rise s) (key.Rise t) h = ap key.Rise (one_signal s t h)
same_is (key.Fall s) (key.Fall t) h = ap key.Fall (one_signal s t h)
same_is (key.Change s) (key.Change t) h = ap key.Change (one_signal s t h)
same_is key.ReadWrite key.ReadWrite h = refl
same_is key.ReadOnly key.ReadOnly h = refl
same_is key.NextStep key.NextStep h = refl
same_is x y h = cc

pub same_self : (k : Key) → same_key k k ≡ true
same_self (key.At t) = search rules
same_self (key.Rise s) = search rules
same_self (key.Fall s) = search rules
same_self (key.Change s) = search rules
same_self key.ReadWrite = refl
same_self key.ReadOnly = refl
same_self key.NextStep = refl

pub same_sym : (x y : Key) → same_key x y ≡ same_key y x
same_sym x y = alike (same_key x y) (same_key y x) (turned x y) (turned y x)
  where
    turned : (a b : Key) → same_key a b ≡ true → same_key b a ≡ true
    turned a b h = ap (same_key b) (same_is a b h) ∙ same_self b

-- one of a list that is the same as another is among it too
pub among_same : (k j : Key) (ks : List Key) → same_key k j ≡ true → among j ks ≡ true → among k ks ≡ true
among_same k j ks h m = ap (λ (x : Key). among x ks) (same_is k j h) ∙ m

pub among_first : (k : Key) (ks : List Key) → among k (k ∷ ks) ≡ true
among_first k ks = or_left (same_key k k) (among k ks) (same_self k)

pub among_append : (k : Key) (xs ys : List Key) → among k (xs ++ ys) ≡ (among k xs || among k ys)
among_append k [] ys = refl
among_append k (x ∷ xs) ys = ap (λ (b : Bool). same_key k x || b) (among_append k xs ys) ∙ sym (or_or (same_key k x) (among k xs) (among k ys))

pub among_left : (k : Key) (xs ys : List Key) → among k xs ≡ true → among k (xs ++ ys) ≡ true
among_left k xs ys h = among_append k xs ys ∙ or_left (among k xs) (among k ys) h

pub among_right : (k : Key) (xs ys : List Key) → among k ys ≡ true → among k (xs ++ ys) ≡ true
among_right k xs ys h = among_append k xs ys ∙ or_right (among k xs) (among k ys) h

pub among_none : (k : Key) (xs ys : List Key) → among k xs ≡ false → among k ys ≡ false → among k (xs ++ ys) ≡ false
among_none k xs ys h e = among_append k xs ys ∙ ap (λ (b : Bool). b || among k ys) h ∙ e

-- without a key
pub among_without : (k gone : Key) (xs : List Key) → among k (without gone xs) ≡ (among k xs && not (same_key gone k))
among_without k gone [] = refl
among_without k gone (x ∷ xs) = decided (same_key gone x) (same_key k x) refl refl (among_without k gone xs)
  where
    decided : (g s : Bool) → same_key gone x ≡ g → same_key k x ≡ s → among k (without gone xs) ≡ (among k xs && not (same_key gone k))
        → among k (without gone (x ∷ xs)) ≡ (among k (x ∷ xs) && not (same_key gone k))
    decided true true g s h = let e : same_key gone k ≡ true = ap (same_key gone) (same_is k x s) ∙ g in rw (g, s, e) (h ∙ rw e (and_no (among k xs)))
    decided true false g s h = rw (g, s) h
    decided false true g s h = let e : same_key gone k ≡ false = ap (same_key gone) (same_is k x s) ∙ g in rw (g, s, e) refl
    decided false false g s h = rw (g, s) h

-- ---- lists within others

pub within_self : (xs : List Key) → AreWithin xs xs
within_self xs = λ (k : Key) (h : among k xs ≡ true). h

pub within_through : (xs ys zs : List Key) → AreWithin xs ys → AreWithin ys zs → AreWithin xs zs
within_through xs ys zs h e = λ (k : Key) (m : among k xs ≡ true). e k (h k m)

pub within_both : (xs us ys vs : List Key) → AreWithin xs us → AreWithin ys vs → AreWithin (xs ++ ys) (us ++ vs)
within_both xs us ys vs h e =
    λ (k : Key) (m : among k (xs ++ ys) ≡ true).
    or_more (among k xs) (among k ys) (among k (us ++ vs)) (λ l. among_left k us vs (h k l)) (λ r. among_right k us vs (e k r)) (sym (among_append k xs ys) ∙ m)

pub without_within : (gone : Key) (xs : List Key) → AreWithin (without gone xs) xs
without_within gone xs = λ (k : Key) (m : among k (without gone xs) ≡ true). and_left (among k xs) (not (same_key gone k)) (sym (among_without k gone xs) ∙ m)

pub without_all_within : (gone xs : List Key) → AreWithin (without_all gone xs) xs
without_all_within [] xs = within_self xs
without_all_within (g ∷ gs) xs = within_through (without_all gs (without g xs)) (without g xs) xs (without_all_within gs (without g xs)) (without_within g xs)

-- a key that isn't taken out is left
pub without_all_kept : (k : Key) (gone xs : List Key) → among k gone ≡ false → among k (without_all gone xs) ≡ among k xs
without_all_kept k [] xs h = refl
without_all_kept k (g ∷ gs) xs h =
    without_all_kept k gs (without g xs) (or_false_right (same_key k g) (among k gs) h)
    ∙ among_without k g xs
    ∙ ap (λ (b : Bool). among k xs && not b) (same_sym g k ∙ or_false_left (same_key k g) (among k gs) h)
    ∙ and_yes (among k xs)

-- a key that is taken out isn't left
pub without_all_gone : (k : Key) (gone xs : List Key) → among k gone ≡ true → among k (without_all gone xs) ≡ false
without_all_gone k [] xs h = absurd (cc)
without_all_gone k (g ∷ gs) xs h = decided (same_key k g) refl (λ m. without_all_gone k gs (without g xs) m)
  where
    not_there : (b : Bool) → (b ≡ true → false ≡ true) → b ≡ false
    not_there true f = absurd (let z = f refl in cc)
    not_there false f = refl

    here : same_key k g ≡ true → among k (without g xs) ≡ false
    here s = among_without k g xs ∙ ap (λ (b : Bool). among k xs && not b) (same_sym g k ∙ s) ∙ and_no (among k xs)

    decided : (b : Bool) → same_key k g ≡ b → (among k gs ≡ true → among k (without_all gs (without g xs)) ≡ false) → among k (without_all gs (without g xs)) ≡ false
    decided true s more = not_there (among k (without_all gs (without g xs))) (λ m. sym (here s) ∙ without_all_within gs (without g xs) k m)
    decided false s more = more (ap (λ (b : Bool). b || among k gs) (sym s) ∙ h)

-- ---- keys among what is awaited

pub key_on : (k : Key) (on : Awaited) (xs : List Awaited) → (among k (keys_among (on ∷ [])) || among k (keys_among xs)) ≡ among k (keys_among (on ∷ xs))
key_on k (awaited.Key own) xs = ap (λ (b : Bool). b || among k (keys_among xs)) (or_no (same_key k own))
key_on k (awaited.Event event) xs = refl
key_on k (awaited.Lock lock) xs = refl
key_on k (awaited.Join task) xs = refl

pub keys_among_append : (xs ys : List Awaited) → keys_among (xs ++ ys) ≡ keys_among xs ++ keys_among ys
keys_among_append [] ys = refl
keys_among_append (awaited.Key own ∷ xs) ys = ap (λ (ks : List Key). own ∷ ks) (keys_among_append xs ys)
keys_among_append (awaited.Event event ∷ xs) ys = keys_among_append xs ys
keys_among_append (awaited.Lock lock ∷ xs) ys = keys_among_append xs ys
keys_among_append (awaited.Join task ∷ xs) ys = keys_among_append xs ys

-- the key is awaited where a leaf on it is
pub among_leaves : (k : Key) (xs : List Awaited) → among k (keys_among xs) ≡ is_among (awaited.Key k) xs
among_leaves k [] = refl
among_leaves k (awaited.Key own ∷ xs) = ap (λ (b : Bool). same_key k own || b) (among_leaves k xs)
among_leaves k (awaited.Event event ∷ xs) = among_leaves k xs
among_leaves k (awaited.Lock lock ∷ xs) = among_leaves k xs
among_leaves k (awaited.Join task ∷ xs) = among_leaves k xs

-- ---- keys of waiting tasks

pub keys_of_append : (xs ys : List Waiting) → keys_of (xs ++ ys) ≡ keys_of xs ++ keys_of ys
keys_of_append [] ys = refl
keys_of_append (x ∷ xs) ys = ap (λ (ks : List Key). tree_keys x.tree ++ ks) (keys_of_append xs ys) ∙ sym (assoc (tree_keys x.tree) (keys_of xs) (keys_of ys))
  where
    assoc : (ks ls ms : List Key) → (ks ++ ls) ++ ms ≡ ks ++ (ls ++ ms)
    assoc [] ls ms = refl
    assoc (k ∷ ks) ls ms = ap (λ (ns : List Key). k ∷ ns) (assoc ks ls ms)

pub named_waited : (k : Key) (waiting : List Waiting) (held : List Key) → among k (keys_of waiting) ≡ true → among k (named waiting held) ≡ true
named_waited k waiting held h = among_left k (keys_of waiting) held h

pub named_held : (k : Key) (waiting : List Waiting) (held : List Key) → among k held ≡ true → among k (named waiting held) ≡ true
named_held k waiting held h = among_right k (keys_of waiting) held h

pub named_unwaited : (k : Key) (waiting : List Waiting) (held : List Key) → among k (keys_of waiting) ≡ false → among k (named waiting held) ≡ among k held
named_unwaited k waiting held h = among_append k (keys_of waiting) held ∙ ap (λ (b : Bool). b || among k held) h

pub named_unheld : (k : Key) (waiting : List Waiting) (held : List Key) → among k held ≡ false → among k (named waiting held) ≡ among k (keys_of waiting)
named_unheld k waiting held h = among_append k (keys_of waiting) held ∙ ap (λ (b : Bool). among k (keys_of waiting) || b) h ∙ or_no (among k (keys_of waiting))
