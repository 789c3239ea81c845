-- What a tree waits for after a call it waited for before, in the same order.
use Rattle.std.proofs.Common.{◌≡◌, ℕ, zero, suc, Bool, true, false, List, [], ◌∷◌, ◌++◌, inl, inr, refl, ap, sym, ◌∙◌}
use Rattle.std.specs.Prelude.{Option, None, Some, if◌then◌else◌, ◌||◌}
use Rattle.gpi.specs.declared.types.Key.{Key}
use Rattle.gpi.specs.declared.types.Key.TheVariants.{At}
use Rattle.py_value.specs.declared.trigger.LockNo.{LockNo}
use Rattle.py_value.specs.Trigger.{Trig}
use Rattle.await_tree.specs.declared.cause.Awaited.{Awaited}
use Rattle.await_tree.specs.declared.cause.Awaited.TheVariants as awaited
use Rattle.await_tree.specs.declared.cause.Cause.{Cause}
use Rattle.await_tree.specs.declared.finish.Finish.{Finish}
use Rattle.await_tree.specs.declared.finish.Finish.TheVariants as finish
use Rattle.await_tree.specs.Tree as tree
use Rattle.await_tree.specs.Tree.{Tree, Trees, Over, Leaf, Cycles, First, Combine, Limit, NoTree, Then, leaves, all_leaves, is_over, first_over, first_faulted, are_over, first_by, combine_by, limit_by}
use Rattle.await_tree.specs.Begin.{Facts, begin, begin_until, begin_all, begun, all_begun, then_begun, leaf_begun, join_begun, is_set, is_held, ended, with_held}
use Rattle.await_tree.specs.Fire.{fire, fire_all, grant, grant_one, is_same, is_among, reach_of, reached, edge_passed, awaits}
use Rattle.await_tree.specs.Laws.{IsSubsequence, IsWithin, LeavesKeepOrder, LeavesOnlyGo}
use Rattle.await_tree.proofs.Few.{IsBare, first_bare, fault_bare}

none_within : (ys : List Awaited) → IsSubsequence [] ys
none_within ys = tt

same_within : (xs : List Awaited) → IsSubsequence xs xs
same_within [] = tt
same_within (x ∷ xs) = inl (refl, same_within xs)

through : (xs ys zs : List Awaited) → IsSubsequence xs ys → IsSubsequence ys zs → IsSubsequence xs zs
through [] ys zs h k = tt
through (x ∷ xs) [] zs h k = absurd h
through (x ∷ xs) (y ∷ ys) [] h k = absurd k
through (x ∷ xs) (y ∷ ys) (z ∷ zs) (inl here) (inl there) = inl (here.0 ∙ there.0, through xs ys zs here.1 there.1)
through (x ∷ xs) (y ∷ ys) (z ∷ zs) (inr later) (inl there) = inr (through (x ∷ xs) ys zs later there.1)
through (x ∷ xs) (y ∷ ys) (z ∷ zs) h (inr beyond) = inr (through (x ∷ xs) (y ∷ ys) zs h beyond)

one_later : (xs : List Awaited) (y : Awaited) (ys : List Awaited) → IsSubsequence xs ys → IsSubsequence xs (y ∷ ys)
one_later [] y ys h = tt
one_later (x ∷ xs) y ys h = inr h

both_within : (xs us ys vs : List Awaited) → IsSubsequence xs ys → IsSubsequence us vs → IsSubsequence (xs ++ us) (ys ++ vs)
both_within [] us [] vs h k = k
both_within [] us (y ∷ ys) vs h k = one_later us y (ys ++ vs) (both_within [] us ys vs tt k)
both_within (x ∷ xs) us [] vs h k = absurd h
both_within (x ∷ xs) us (y ∷ ys) vs (inl here) k = inl (here.0, both_within xs us ys vs here.1 k)
both_within (x ∷ xs) us (y ∷ ys) vs (inr later) k = inr (both_within (x ∷ xs) us ys vs later k)

front_within : (xs ys : List Awaited) → IsSubsequence xs (xs ++ ys)
front_within [] ys = tt
front_within (x ∷ xs) ys = inl (refl, front_within xs ys)

bare_within : (xs ys : List Awaited) → xs ≡ [] → IsSubsequence xs ys
bare_within xs ys e = rw e (none_within ys)

-- ---- what is made of parts

first_within : (o : Option Tree) (ts : Trees) → IsBare o → IsSubsequence (leaves (first_by o ts)) (all_leaves ts)
first_within (Some t) ts h = bare_within (leaves t) (all_leaves ts) h
first_within None ts h = same_within (all_leaves ts)

combine_within : (o : Option Tree) (all : Bool) (trig : Trig) (ts : Trees) → IsBare o → IsSubsequence (leaves (combine_by o all trig ts)) (all_leaves ts)
combine_within (Some t) all trig ts h = bare_within (leaves t) (all_leaves ts) h
combine_within None true trig ts h = none_within (all_leaves ts)
combine_within None false trig ts h = same_within (all_leaves ts)

limit_within : (over late : Bool) (due : ℕ) (t : Tree) → IsSubsequence (leaves (limit_by over late due t)) (leaves (Limit due t))
limit_within true late due t = front_within (leaves t) (awaited.Key (At due) ∷ [])
limit_within false true due t = none_within (leaves (Limit due t))
limit_within false false due t = same_within (leaves (Limit due t))

then_within : (t u : Tree) (ts us : Trees) → IsSubsequence (leaves u) (leaves t) → IsSubsequence (all_leaves us) (all_leaves ts)
    → IsSubsequence (all_leaves (Then u us)) (all_leaves (Then t ts))
then_within t u ts us h k = both_within (leaves u) (all_leaves us) (leaves t) (all_leaves ts) h k

first_parts : (ts us : Trees) → IsSubsequence (all_leaves us) (all_leaves ts) → IsSubsequence (leaves (tree.first_of us)) (all_leaves ts)
first_parts ts us h =
    through (leaves (tree.first_of us)) (all_leaves us) (all_leaves ts) (first_within (first_over us) us (first_bare us)) h

combine_parts : (trig : Trig) (ts us : Trees) → IsSubsequence (all_leaves us) (all_leaves ts) → IsSubsequence (leaves (tree.combine_of trig us)) (all_leaves ts)
combine_parts trig ts us h =
    through (leaves (tree.combine_of trig us)) (all_leaves us) (all_leaves ts) (combine_within (first_faulted us) (are_over us) trig us (fault_bare us)) h

limit_part : (late : Bool) (due : ℕ) (t u : Tree) → IsSubsequence (leaves u) (leaves t) → IsSubsequence (leaves (tree.limit_of late due u)) (leaves (Limit due t))
limit_part late due t u h =
    let last = awaited.Key (At due) ∷ [] in
    through (leaves (tree.limit_of late due u)) (leaves (Limit due u)) (leaves (Limit due t)) (limit_within (is_over u) late due u)
    (both_within (leaves u) last (leaves t) last h (same_within last))

-- ---- one leaf

leaf_within : (b : Bool) (f : Finish) (on : Awaited) (trig : Trig) → IsSubsequence (leaves (if b then Over f else Leaf on trig)) (on ∷ [])
leaf_within true f on trig = none_within (on ∷ [])
leaf_within false f on trig = same_within (on ∷ [])

edge_within : (left : ℕ) (key : Key) (trig : Trig) → IsSubsequence (leaves (edge_passed left key trig)) (awaited.Key key ∷ [])
edge_within zero key trig = none_within (awaited.Key key ∷ [])
edge_within (suc zero) key trig = none_within (awaited.Key key ∷ [])
edge_within (suc (suc left)) key trig = same_within (awaited.Key key ∷ [])

cycles_within : (b : Bool) (left : ℕ) (key : Key) (trig : Trig)
    → IsSubsequence (leaves (if b then edge_passed left key trig else Cycles key left trig)) (awaited.Key key ∷ [])
cycles_within true left key trig = edge_within left key trig
cycles_within false left key trig = same_within (awaited.Key key ∷ [])

-- ---- fire

mutual
  fire_within : (c : Cause) (t : Tree) → IsSubsequence (leaves (fire c t)) (leaves t)
  fire_within c (Over f) = same_within []
  fire_within c (Leaf on trig) = leaf_within (is_same (reach_of c) on) (reached c trig) on trig
  fire_within c (Cycles key left trig) = cycles_within (is_same (reach_of c) (awaited.Key key)) left key trig
  fire_within c (First ts) = first_parts ts (fire_all c ts) (fires_within c ts)
  fire_within c (Combine trig ts) = combine_parts trig ts (fire_all c ts) (fires_within c ts)
  fire_within c (Limit due t) = limit_part (is_same (reach_of c) (awaited.Key (At due))) due t (fire c t) (fire_within c t)

  fires_within : (c : Cause) (ts : Trees) → IsSubsequence (all_leaves (fire_all c ts)) (all_leaves ts)
  fires_within c NoTree = same_within []
  fires_within c (Then t ts) = then_within t (fire c t) ts (fire_all c ts) (fire_within c t) (fires_within c ts)

-- ---- grant

one_within : (b : Bool) (t u : Tree) (ts us : Trees) → IsSubsequence (leaves u) (leaves t) → IsSubsequence (all_leaves us) (all_leaves ts)
    → IsSubsequence (all_leaves (if b then Then u ts else Then t us)) (all_leaves (Then t ts))
one_within true t u ts us h k = then_within t u ts ts h (same_within (all_leaves ts))
one_within false t u ts us h k = then_within t t ts us (same_within (leaves t)) k

mutual
  grant_within : (l : LockNo) (t : Tree) → IsSubsequence (leaves (grant l t)) (leaves t)
  grant_within l (Over f) = same_within []
  grant_within l (Leaf on trig) = leaf_within (is_same (awaited.Lock l) on) (finish.Reached trig) on trig
  grant_within l (Cycles key left trig) = same_within (awaited.Key key ∷ [])
  grant_within l (First ts) = first_parts ts (grant_one l ts) (grants_within l ts)
  grant_within l (Combine trig ts) = combine_parts trig ts (grant_one l ts) (grants_within l ts)
  grant_within l (Limit due t) = limit_part false due t (grant l t) (grant_within l t)

  grants_within : (l : LockNo) (ts : Trees) → IsSubsequence (all_leaves (grant_one l ts)) (all_leaves ts)
  grants_within l NoTree = same_within []
  grants_within l (Then t ts) = one_within (awaits (awaited.Lock l) t) t (grant l t) ts (grant_one l ts) (grant_within l t) (grants_within l ts)

-- ---- begin

lock_within : (b : Bool) (l : LockNo) (trig : Trig) (f : Facts)
    → IsSubsequence (leaves (if b then begun (Leaf (awaited.Lock l) trig) f else begun (Over (finish.Reached trig)) (with_held l f)).tree) (awaited.Lock l ∷ [])
lock_within true l trig f = same_within (awaited.Lock l ∷ [])
lock_within false l trig f = none_within (awaited.Lock l ∷ [])

join_within : (o : Option Bool) (task : _) (trig : Trig) → IsSubsequence (leaves (join_begun o task trig)) (awaited.Join task ∷ [])
join_within None task trig = same_within (awaited.Join task ∷ [])
join_within (Some failed) task trig = none_within (awaited.Join task ∷ [])

begun_within : (on : Awaited) (trig : Trig) (f : Facts) → IsSubsequence (leaves (leaf_begun on trig f).tree) (on ∷ [])
begun_within (awaited.Key k) trig f = same_within (awaited.Key k ∷ [])
begun_within (awaited.Event e) trig f = leaf_within (is_set e f) (finish.Reached trig) (awaited.Event e) trig
begun_within (awaited.Lock l) trig f = lock_within (is_held l f) l trig f
begun_within (awaited.Join task) trig f = join_within (ended task f) task trig

until_within : (b : Bool) (t u : Tree) (ts us : Trees) (g k : Facts) → IsSubsequence (leaves u) (leaves t) → IsSubsequence (all_leaves us) (all_leaves ts)
    → IsSubsequence (all_leaves (if b then all_begun (Then u ts) g else then_begun u (all_begun us k)).trees) (all_leaves (Then t ts))
until_within true t u ts us g k h d = then_within t u ts ts h (same_within (all_leaves ts))
until_within false t u ts us g k h d = then_within t u ts us h d

mutual
  begin_within : (t : Tree) (f : Facts) → IsSubsequence (leaves (begin t f).tree) (leaves t)
  begin_within (Over x) f = same_within []
  begin_within (Leaf on trig) f = begun_within on trig f
  begin_within (Cycles key left trig) f = same_within (awaited.Key key ∷ [])
  begin_within (First ts) f = first_parts ts (begin_until ts f).trees (untils_within ts f)
  begin_within (Combine trig ts) f = combine_parts trig ts (begin_all ts f).trees (all_within ts f)
  begin_within (Limit due t) f = limit_part false due t (begin t f).tree (begin_within t f)

  untils_within : (ts : Trees) (f : Facts) → IsSubsequence (all_leaves (begin_until ts f).trees) (all_leaves ts)
  untils_within NoTree f = same_within []
  untils_within (Then t ts) f =
      until_within (is_over (begin t f).tree) t (begin t f).tree ts (begin_until ts (begin t f).facts).trees (begin t f).facts
      (begin_until ts (begin t f).facts).facts (begin_within t f) (untils_within ts (begin t f).facts)

  all_within : (ts : Trees) (f : Facts) → IsSubsequence (all_leaves (begin_all ts f).trees) (all_leaves ts)
  all_within NoTree f = same_within []
  all_within (Then t ts) f = then_within t (begin t f).tree ts (begin_all ts (begin t f).facts).trees (begin_within t f) (all_within ts (begin t f).facts)

pub leaves_keep_order : LeavesKeepOrder
leaves_keep_order = record { begins = begin_within; fires = fire_within; grants = grant_within }

-- ---- what is a part of a list is among it

or_more : (a b c d : Bool) → (a ≡ true → c ≡ true) → (b ≡ true → d ≡ true) → (a || b) ≡ true → (c || d) ≡ true
or_more true b c d h k e = rw (h refl) refl
or_more false b true d h k e = refl
or_more false b false d h k e = k e

or_right : (a b : Bool) → b ≡ true → (a || b) ≡ true
or_right true b h = refl
or_right false b h = h

within_of : (xs ys : List Awaited) → IsSubsequence xs ys → IsWithin xs ys
within_of [] ys h = λ (a : Awaited) (e : is_among a [] ≡ true). absurd (cc)
within_of (x ∷ xs) [] h = absurd h
within_of (x ∷ xs) (y ∷ ys) (inl here) =
    λ (a : Awaited) (e : is_among a (x ∷ xs) ≡ true).
    or_more (is_same a x) (is_among a xs) (is_same a y) (is_among a ys) (λ s. ap (is_same a) (sym here.0) ∙ s) (within_of xs ys here.1 a) e
within_of (x ∷ xs) (y ∷ ys) (inr later) =
    λ (a : Awaited) (e : is_among a (x ∷ xs) ≡ true). or_right (is_same a y) (is_among a ys) (within_of (x ∷ xs) ys later a e)

pub leaves_only_go : LeavesOnlyGo
leaves_only_go = record {
  begins = λ t f. within_of (leaves (begin t f).tree) (leaves t) (begin_within t f);
  fires = λ c t. within_of (leaves (fire c t)) (leaves t) (fire_within c t);
  grants = λ l t. within_of (leaves (grant l t)) (leaves t) (grant_within l t);
}
