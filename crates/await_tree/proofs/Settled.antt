-- What has begun is settled and stays so, and a cause that no leaf waits for changes no settled tree.
use Rattle.std.proofs.Common.{◌≡◌, ℕ, zero, suc, Bool, true, false, [], ◌∷◌, refl, ◌∙◌}
use Rattle.std.specs.Prelude.{Option, None, Some, if◌then◌else◌, ◌||◌}
use Rattle.gpi.specs.declared.types.Key.{Key}
use Rattle.gpi.specs.declared.types.Key.TheVariants.{At}
use Rattle.py_value.specs.declared.trigger.LockNo.{LockNo}
use Rattle.py_value.specs.Trigger.{Trig}
use Rattle.await_tree.specs.declared.cause.Awaited.{Awaited}
use Rattle.await_tree.specs.declared.cause.Awaited.TheVariants as awaited
use Rattle.await_tree.specs.declared.cause.Cause.{Cause}
use Rattle.await_tree.specs.declared.finish.Finish.{Finish}
use Rattle.await_tree.specs.declared.finish.Finish.TheVariants as finish
use Rattle.await_tree.specs.Tree as tree
use Rattle.await_tree.specs.Tree.{Tree, Trees, Over, Leaf, Cycles, First, Combine, Limit, NoTree, Then, leaves, all_leaves, is_over, or_left, is_faulted, first_over, first_faulted, are_over, first_by, combine_by, limit_by}
use Rattle.await_tree.specs.Begin.{Facts, begin, begin_until, begin_all, begun, all_begun, then_begun, leaf_begun, join_begun, is_set, is_held, ended, with_held}
use Rattle.await_tree.specs.Fire.{fire, fire_all, grant, grant_one, is_same, is_among, reach_of, reached, edge_passed, awaits}
use Rattle.await_tree.specs.Settled.{IsSettled, AreSettled}
use Rattle.await_tree.specs.Laws.{StaysSettled}
use Rattle.await_tree.proofs.AmongLaws.{among_more}

-- ---- what is made of settled parts

abbrev IsSettledPart : Option Tree → Type 0
IsSettledPart None = Unit {0}
IsSettledPart (Some t) = IsSettled t

left_settled : (b : Bool) (t : Tree) (other : Option Tree) → IsSettled t → IsSettledPart other → IsSettledPart (or_left b t other)
left_settled true t other h k = h
left_settled false t other h k = k

first_part : (ts : Trees) → AreSettled ts → IsSettledPart (first_over ts)
first_part NoTree h = tt
first_part (Then t ts) h = left_settled (is_over t) t (first_over ts) h.0 (first_part ts h.1)

fault_part : (ts : Trees) → AreSettled ts → IsSettledPart (first_faulted ts)
fault_part NoTree h = tt
fault_part (Then t ts) h = left_settled (is_faulted t) t (first_faulted ts) h.0 (fault_part ts h.1)

first_by_settled : (o : Option Tree) (ts : Trees) → first_over ts ≡ o → IsSettledPart o → AreSettled ts → IsSettled (first_by o ts)
first_by_settled None ts e k h = (e, h)
first_by_settled (Some t) ts e k h = k

combine_by_settled : (o : Option Tree) (all : Bool) (trig : Trig) (ts : Trees) → first_faulted ts ≡ o → are_over ts ≡ all → IsSettledPart o → AreSettled ts
    → IsSettled (combine_by o all trig ts)
combine_by_settled (Some t) all trig ts e d k h = k
combine_by_settled None true trig ts e d k h = tt
combine_by_settled None false trig ts e d k h = (e, d, h)

limit_by_settled : (over late : Bool) (due : ℕ) (t : Tree) → is_over t ≡ over → IsSettled t → IsSettled (limit_by over late due t)
limit_by_settled true late due t e h = h
limit_by_settled false true due t e h = tt
limit_by_settled false false due t e h = (e, h)

first_settled : (ts : Trees) → AreSettled ts → IsSettled (tree.first_of ts)
first_settled ts h = first_by_settled (first_over ts) ts refl (first_part ts h) h

combine_settled : (trig : Trig) (ts : Trees) → AreSettled ts → IsSettled (tree.combine_of trig ts)
combine_settled trig ts h = combine_by_settled (first_faulted ts) (are_over ts) trig ts refl refl (fault_part ts h) h

limit_settled : (late : Bool) (due : ℕ) (t : Tree) → IsSettled t → IsSettled (tree.limit_of late due t)
limit_settled late due t h = limit_by_settled (is_over t) late due t refl h

leaf_settled : (b : Bool) (f : Finish) (on : Awaited) (trig : Trig) → IsSettled (if b then Over f else Leaf on trig)
leaf_settled true f on trig = tt
leaf_settled false f on trig = tt

-- ---- fire

edge_settled : (left : ℕ) (key : Key) (trig : Trig) → IsSettled (edge_passed left key trig)
edge_settled zero key trig = tt
edge_settled (suc zero) key trig = tt
edge_settled (suc (suc left)) key trig = tt

cycles_settled : (b : Bool) (left : ℕ) (key : Key) (trig : Trig) → IsSettled (if b then edge_passed left key trig else Cycles key left trig)
cycles_settled true left key trig = edge_settled left key trig
cycles_settled false left key trig = tt

mutual
  pub fire_settled : (c : Cause) (t : Tree) → IsSettled t → IsSettled (fire c t)
  fire_settled c (Over f) h = tt
  fire_settled c (Leaf on trig) h = leaf_settled (is_same (reach_of c) on) (reached c trig) on trig
  fire_settled c (Cycles key left trig) h = cycles_settled (is_same (reach_of c) (awaited.Key key)) left key trig
  fire_settled c (First ts) h = first_settled (fire_all c ts) (fires_settled c ts h.1)
  fire_settled c (Combine trig ts) h = combine_settled trig (fire_all c ts) (fires_settled c ts h.2)
  fire_settled c (Limit due t) h = limit_settled (is_same (reach_of c) (awaited.Key (At due))) due (fire c t) (fire_settled c t h.1)

  fires_settled : (c : Cause) (ts : Trees) → AreSettled ts → AreSettled (fire_all c ts)
  fires_settled c NoTree h = tt
  fires_settled c (Then t ts) h = (fire_settled c t h.0, fires_settled c ts h.1)

-- ---- grant

one_settled : (b : Bool) (t u : Tree) (ts us : Trees) → IsSettled t → IsSettled u → AreSettled ts → AreSettled us
    → AreSettled (if b then Then u ts else Then t us)
one_settled true t u ts us h k d e = (k, d)
one_settled false t u ts us h k d e = (h, e)

mutual
  pub grant_settled : (l : LockNo) (t : Tree) → IsSettled t → IsSettled (grant l t)
  grant_settled l (Over f) h = tt
  grant_settled l (Leaf on trig) h = leaf_settled (is_same (awaited.Lock l) on) (finish.Reached trig) on trig
  grant_settled l (Cycles key left trig) h = tt
  grant_settled l (First ts) h = first_settled (grant_one l ts) (grants_settled l ts h.1)
  grant_settled l (Combine trig ts) h = combine_settled trig (grant_one l ts) (grants_settled l ts h.2)
  grant_settled l (Limit due t) h = limit_settled false due (grant l t) (grant_settled l t h.1)

  grants_settled : (l : LockNo) (ts : Trees) → AreSettled ts → AreSettled (grant_one l ts)
  grants_settled l NoTree h = tt
  grants_settled l (Then t ts) h =
      one_settled (awaits (awaited.Lock l) t) t (grant l t) ts (grant_one l ts) h.0 (grant_settled l t h.0) h.1 (grants_settled l ts h.1)

-- ---- begin

lock_settled : (b : Bool) (l : LockNo) (trig : Trig) (f : Facts)
    → IsSettled (if b then begun (Leaf (awaited.Lock l) trig) f else begun (Over (finish.Reached trig)) (with_held l f)).tree
lock_settled true l trig f = tt
lock_settled false l trig f = tt

join_settled : (o : Option Bool) (task : _) (trig : Trig) → IsSettled (join_begun o task trig)
join_settled None task trig = tt
join_settled (Some failed) task trig = tt

begun_settled : (on : Awaited) (trig : Trig) (f : Facts) → IsSettled (leaf_begun on trig f).tree
begun_settled (awaited.Key k) trig f = tt
begun_settled (awaited.Event e) trig f = leaf_settled (is_set e f) (finish.Reached trig) (awaited.Event e) trig
begun_settled (awaited.Lock l) trig f = lock_settled (is_held l f) l trig f
begun_settled (awaited.Join task) trig f = join_settled (ended task f) task trig

-- the first part that is done is the leftmost one that is, and all before it have begun
abbrev IsLedBy : Trees → Type 0
IsLedBy NoTree = Unit {0}
IsLedBy (Then t ts) = IsSettled t × (is_over t ≡ false → IsLedBy ts)

led_pick : (b : Bool) (t : Tree) (ts : Trees) → is_over t ≡ b → IsSettled t → (is_over t ≡ false → IsSettledPart (first_over ts))
    → IsSettledPart (or_left b t (first_over ts))
led_pick true t ts e h k = h
led_pick false t ts e h k = k e

led_first : (ts : Trees) → IsLedBy ts → IsSettledPart (first_over ts)
led_first NoTree h = tt
led_first (Then t ts) h = led_pick (is_over t) t ts refl h.0 (λ (e : is_over t ≡ false). led_first ts (h.1 e))

led_rest : (b : Bool) (t : Tree) (ts : Trees) → is_over t ≡ b → IsSettled t → (is_over t ≡ false → first_over ts ≡ None → AreSettled ts)
    → or_left b t (first_over ts) ≡ None → AreSettled (Then t ts)
led_rest true t ts d h k e = absurd (cc)
led_rest false t ts d h k e = (h, k d e)

led_all : (ts : Trees) → IsLedBy ts → first_over ts ≡ None → AreSettled ts
led_all NoTree h e = tt
led_all (Then t ts) h e = led_rest (is_over t) t ts refl h.0 (λ (d : is_over t ≡ false). led_all ts (h.1 d)) e

led_by : (o : Option Tree) (ts : Trees) → first_over ts ≡ o → IsSettledPart o → (first_over ts ≡ None → AreSettled ts) → IsSettled (first_by o ts)
led_by None ts e k h = (e, h e)
led_by (Some t) ts e k h = k

led_part : (ts : Trees) → IsLedBy ts → IsSettled (tree.first_of ts)
led_part ts h = led_by (first_over ts) ts refl (led_first ts h) (led_all ts h)

until_led : (b : Bool) (u : Tree) (ts us : Trees) (g k : Facts) → is_over u ≡ b → IsSettled u → IsLedBy us
    → IsLedBy (if b then all_begun (Then u ts) g else then_begun u (all_begun us k)).trees
until_led true u ts us g k e h d = (h, λ (n : is_over u ≡ false). absurd (cc))
until_led false u ts us g k e h d = (h, λ (n : is_over u ≡ false). d)

mutual
  pub begin_settled : (t : Tree) (f : Facts) → IsSettled (begin t f).tree
  begin_settled (Over x) f = tt
  begin_settled (Leaf on trig) f = begun_settled on trig f
  begin_settled (Cycles key left trig) f = tt
  begin_settled (First ts) f = led_part (begin_until ts f).trees (until_settled ts f)
  begin_settled (Combine trig ts) f = combine_settled trig (begin_all ts f).trees (all_settled ts f)
  begin_settled (Limit due t) f = limit_settled false due (begin t f).tree (begin_settled t f)

  until_settled : (ts : Trees) (f : Facts) → IsLedBy (begin_until ts f).trees
  until_settled NoTree f = tt
  until_settled (Then t ts) f =
      until_led (is_over (begin t f).tree) (begin t f).tree ts (begin_until ts (begin t f).facts).trees (begin t f).facts
      (begin_until ts (begin t f).facts).facts refl (begin_settled t f) (until_settled ts (begin t f).facts)

  all_settled : (ts : Trees) (f : Facts) → AreSettled (begin_all ts f).trees
  all_settled NoTree f = tt
  all_settled (Then t ts) f = (begin_settled t f, all_settled ts (begin t f).facts)

-- ---- a cause that no leaf waits for

or_left_false : (a b : Bool) → (a || b) ≡ false → a ≡ false
or_left_false true b h = cc
or_left_false false b h = refl

or_right_false : (a b : Bool) → (a || b) ≡ false → b ≡ false
or_right_false true b h = absurd (cc)
or_right_false false b h = h

leaf_still : (b : Bool) (u v : Tree) → (b || false) ≡ false → (if b then u else v) ≡ v
leaf_still true u v h = absurd (cc)
leaf_still false u v h = refl

first_still : (ts us : Trees) → us ≡ ts → first_over ts ≡ None → tree.first_of us ≡ First ts
first_still ts us e h = rw e (rw h refl)

combine_still : (trig : Trig) (ts us : Trees) → us ≡ ts → first_faulted ts ≡ None → are_over ts ≡ false → tree.combine_of trig us ≡ Combine trig ts
combine_still trig ts us e h k = rw e (rw h (rw k refl))

limit_still : (late : Bool) (due : ℕ) (t u : Tree) → u ≡ t → late ≡ false → is_over t ≡ false → tree.limit_of late due u ≡ Limit due t
limit_still late due t u e h k = rw e (rw h (rw k refl))

then_still : (t u : Tree) (ts us : Trees) → u ≡ t → us ≡ ts → Then u us ≡ Then t ts
then_still t u ts us e d = rw e (rw d refl)

mutual
  pub fire_still : (c : Cause) (t : Tree) → IsSettled t → is_among (reach_of c) (leaves t) ≡ false → fire c t ≡ t
  fire_still c (Over f) s h = refl
  fire_still c (Leaf on trig) s h = leaf_still (is_same (reach_of c) on) (Over (reached c trig)) (Leaf on trig) h
  fire_still c (Cycles key left trig) s h = leaf_still (is_same (reach_of c) (awaited.Key key)) (edge_passed left key trig) (Cycles key left trig) h
  fire_still c (First ts) s h = first_still ts (fire_all c ts) (all_still c ts s.1 h) s.0
  fire_still c (Combine trig ts) s h = combine_still trig ts (fire_all c ts) (all_still c ts s.2 h) s.0 s.1
  fire_still c (Limit due t) s h =
      let a = reach_of c in
      let last = awaited.Key (At due) ∷ [] in
      let e : (is_among a (leaves t) || is_among a last) ≡ false = among_more a (leaves t) last ∙ h in
      let d : is_among a last ≡ false = or_right_false (is_among a (leaves t)) (is_among a last) e in
      limit_still (is_same a (awaited.Key (At due))) due t (fire c t)
      (fire_still c t s.1 (or_left_false (is_among a (leaves t)) (is_among a last) e))
      (or_left_false (is_same a (awaited.Key (At due))) false d) s.0

  all_still : (c : Cause) (ts : Trees) → AreSettled ts → is_among (reach_of c) (all_leaves ts) ≡ false → fire_all c ts ≡ ts
  all_still c NoTree s h = refl
  all_still c (Then t ts) s h =
      let a = reach_of c in
      let e : (is_among a (leaves t) || is_among a (all_leaves ts)) ≡ false = among_more a (leaves t) (all_leaves ts) ∙ h in
      then_still t (fire c t) ts (fire_all c ts) (fire_still c t s.0 (or_left_false (is_among a (leaves t)) (is_among a (all_leaves ts)) e))
      (all_still c ts s.1 (or_right_false (is_among a (leaves t)) (is_among a (all_leaves ts)) e))

pub stays_settled : StaysSettled
stays_settled = record { begins = begin_settled; fires = fire_settled; grants = grant_settled }
