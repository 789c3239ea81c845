-- The keys of what is awaited, as they go and come one after the other.
use Rattle.std.proofs.Common.{◌≡◌, ◌<◌, ℕ, zero, suc, arith, ◌+◌, ◌-◌, ◌≤◌, ◌||◌, ◌&&◌, Bool, true, false, List, [], ◌∷◌, ◌++◌, length, take, drop, get_or, refl, sym, ap, ◌∙◌, subst, add-one}
use Rattle.std.proofs.lemmas.List.{drop-drop, drop_all, length-drop, take_rest}
use Rattle.gpi.specs.Content.{Content, IsAsked, Registers, Removes}
use Rattle.gpi.specs.Keys.{among, has, same_key}
use Rattle.gpi.specs.declared.types.Key.TheVariants as key
use Rattle.gpi.specs.State.{State}
use Rattle.gpi.specs.declared.types.Counts.{Counts}
use Rattle.gpi.specs.declared.types.Key.{Key}
use Rattle.await_tree.specs.declared.cause.Awaited.{Awaited}
use Rattle.await_tree.specs.declared.cause.Awaited.TheVariants as awaited
use Rattle.await_tree.specs.WaitList.Keys.{AreAsked, AreAlike, AreApart, AreFired, AreKeys, AreKeysBut, IsOfDesign, KeepsKeys, Rekeyed, without, without_all}
use Rattle.std.specs.Prelude.{Option, None, Some, not}
use Rattle.await_tree.specs.WaitList.Waiting.{Waiting, key_list, keys_among, keys_of, named}
use Rattle.await_tree.specs.WaitList.Parts.{AreWithin, Fits, Joins, Narrows}
use Rattle.await_tree.proofs.WaitListLemmas.Members.{among_append, among_first, among_left, among_right, and_no, keys_among_append, or_false_right, or_left, or_right, alike, among_none, among_without, and_yes, named_unheld, same_is, same_self, same_sym, without_all_kept, without_all_within, within_both, within_self}
use Rattle.await_tree.proofs.WaitListLemmas.Rekeys.{first_goes, first_stays, first_there, joins_registered, narrows_none, narrows_through, rekeyed_joined, rekeyed_more, rekeyed_none, rekeyed_removed, rekeyed_same}

-- ---- the first of a list

front_of : (xs : List Awaited) (d : Awaited) → 0 < length xs → xs ≡ get_or xs 0 d ∷ drop 1 xs
front_of [] d h = absurd (omega arith)
front_of (x ∷ xs) d h = refl

pub key_front : (xs : List Awaited) (d : Awaited) (own : Key) (names : List Key) → 0 < length xs → get_or xs 0 d ≡ awaited.Key own
    → keys_among xs ++ names ≡ own ∷ (keys_among (drop 1 xs) ++ names)
key_front xs d own names h e =
    ap (λ (ys : List Awaited). keys_among ys ++ names) (front_of xs d h) ∙ ap (λ (y : Awaited). keys_among (y ∷ drop 1 xs) ++ names) e

-- what is known of the first key, where the others are told by a part of the list
pub left_known : (xs : List Awaited) (names fired : List Key) (own : Key) (r b : Bool) → r ≡ (among own fired || among own (keys_among (take (length xs - 1) (drop 1 xs)) ++ names))
    → r ≡ b → (among own fired || among own (keys_among (drop 1 xs) ++ names)) ≡ b
left_known xs names fired own r b e h =
    ap (λ (ys : List Awaited). among own fired || among own (keys_among ys ++ names)) (sym (take_rest xs 1)) ∙ sym e ∙ h

module _ (before after : Content) (fired held names : List Key) (own : Key) (xs : List Awaited) (front : keys_among xs ++ names ≡ own ∷ (keys_among (drop 1 xs) ++ names))
    (f : Fits before fired held (keys_among xs ++ names)) (inside : AreWithin held names) where
  fits_front : Fits before fired held (own ∷ (keys_among (drop 1 xs) ++ names))
  fits_front = subst (λ (ks : List Key). Fits before fired held ks) front f

  held_inside : AreWithin held (keys_among (drop 1 xs) ++ names)
  held_inside = λ k m. among_right k (keys_among (drop 1 xs)) names (inside k m)

  pub list_there : (among own fired || among own (keys_among (drop 1 xs) ++ names)) ≡ false → has own before.keys ≡ true
  list_there n = first_there before after fired held own (keys_among (drop 1 xs) ++ names) fits_front held_inside n

  pub list_goes : (among own fired || among own (keys_among (drop 1 xs) ++ names)) ≡ false → Removes before own after
      → Narrows before after (keys_among xs ++ names) (keys_among (drop 1 xs) ++ names)
  list_goes n r =
      subst (λ (ks : List Key). Narrows before after ks (keys_among (drop 1 xs) ++ names)) (sym front)
      (first_goes before after fired held own (keys_among (drop 1 xs) ++ names) fits_front held_inside n r)

  pub list_stays : (among own fired || among own (keys_among (drop 1 xs) ++ names)) ≡ true → Narrows before before (keys_among xs ++ names) (keys_among (drop 1 xs) ++ names)
  list_stays n =
      subst (λ (ks : List Key). Narrows before before ks (keys_among (drop 1 xs) ++ names)) (sym front)
      (first_stays before before fired held own (keys_among (drop 1 xs) ++ names) fits_front held_inside n)

is_other : (on : Awaited) → ((own : Key) → on ≡ awaited.Key own → ⊥) → keys_among (on ∷ []) ≡ []
is_other (awaited.Key own) h = absurd (h own refl)
is_other (awaited.Event event) h = refl
is_other (awaited.Lock lock) h = refl
is_other (awaited.Join task) h = refl

other_front : (xs : List Awaited) (d : Awaited) (names : List Key) → 0 < length xs → keys_among (get_or xs 0 d ∷ []) ≡ [] → keys_among xs ++ names ≡ keys_among (drop 1 xs) ++ names
other_front xs d names h e =
    ap (λ (ys : List Awaited). keys_among ys ++ names) (front_of xs d h)
    ∙ ap (λ (ks : List Key). ks ++ names) (keys_among_append (get_or xs 0 d ∷ []) (drop 1 xs) ∙ ap (λ (ks : List Key). ks ++ keys_among (drop 1 xs)) e)

pub list_other : (c : Content) (fired held names : List Key) (xs : List Awaited) (d : Awaited) → 0 < length xs → ((own : Key) → get_or xs 0 d ≡ awaited.Key own → ⊥)
    → Fits c fired held (keys_among xs ++ names) → Narrows c c (keys_among xs ++ names) (keys_among (drop 1 xs) ++ names)
list_other c fired held names xs d h e f =
    subst (λ (ks : List Key). Narrows c c (keys_among xs ++ names) ks) (other_front xs d names h (is_other (get_or xs 0 d) e))
    (narrows_none c (keys_among xs ++ names) (keys_among xs ++ names) (λ k m. f.keys.within k m) (within_self (keys_among xs ++ names)))

-- ---- from a place on

pub some_left : (xs : List Awaited) (at : ℕ) → at < length xs → 0 < length (take (length xs - at) (drop at xs))
some_left xs at h = rw (take_rest xs at) (let l : length (drop at xs) ≡ length xs - at = length-drop at xs in omega arith)

pub fits_from : (c : Content) (fired held names : List Key) (xs : List Awaited) (at : ℕ) → Fits c fired held (keys_among (drop at xs) ++ names)
    → Fits c fired held (keys_among (take (length xs - at) (drop at xs)) ++ names)
fits_from c fired held names xs at f = subst (λ (ys : List Awaited). Fits c fired held (keys_among ys ++ names)) (sym (take_rest xs at)) f

pub narrows_from : (b c : Content) (names : List Key) (xs : List Awaited) (at : ℕ)
    → Narrows b c (keys_among (take (length xs - at) (drop at xs)) ++ names) (keys_among (drop 1 (take (length xs - at) (drop at xs))) ++ names)
    → Narrows b c (keys_among (drop at xs) ++ names) (keys_among (drop (at + 1) xs) ++ names)
narrows_from b c names xs at n =
    subst (λ (ys : List Awaited). Narrows b c (keys_among (drop at xs) ++ names) (keys_among ys ++ names)) (drop-drop 1 at xs)
    (subst (λ (ys : List Awaited). Narrows b c (keys_among ys ++ names) (keys_among (drop 1 ys) ++ names)) (take_rest xs at) n)

pub narrows_end : (b c : Content) (all names : List Key) (xs : List Awaited) (at : ℕ) → length xs ≤ at → Narrows b c all (keys_among (drop at xs) ++ names) → Narrows b c all names
narrows_end b c all names xs at h n = subst (λ (ys : List Awaited). Narrows b c all (keys_among ys ++ names)) (drop_all at xs h) n

-- ---- a place in a list

one_of_list : (xs : List Awaited) (at : ℕ) (d : Awaited) → at < length xs → take 1 (drop at xs) ≡ get_or xs at d ∷ []
one_of_list [] at d h = absurd (omega arith)
one_of_list (x ∷ xs) zero d h = refl
one_of_list (x ∷ xs) (suc at) d h = one_of_list xs at d (omega arith)

take_next : (at : ℕ) (xs : List Awaited) → take (suc at) xs ≡ take at xs ++ take 1 (drop at xs)
take_next zero xs = refl
take_next (suc at) [] = refl
take_next (suc at) (x ∷ xs) = ap (λ (ys : List Awaited). x ∷ ys) (take_next at xs)

list_split : (at : ℕ) (xs : List Awaited) → xs ≡ take at xs ++ drop at xs
list_split zero xs = refl
list_split (suc at) [] = refl
list_split (suc at) (x ∷ xs) = ap (λ (ys : List Awaited). x ∷ ys) (list_split at xs)

drop_split : (at : ℕ) (xs : List Awaited) → drop at xs ≡ take 1 (drop at xs) ++ drop 1 (drop at xs)
drop_split at xs = list_split 1 (drop at xs)

-- keys that stand before a place are keys of the list
pub front_within : (at : ℕ) (xs : List Awaited) → AreWithin (keys_among (take at xs)) (keys_among xs)
front_within at xs = λ k m. ap (λ (ys : List Awaited). among k (keys_among ys)) (list_split at xs)
    ∙ ap (among k) (keys_among_append (take at xs) (drop at xs)) ∙ among_left k (keys_among (take at xs)) (keys_among (drop at xs)) m

pub one_within : (at : ℕ) (xs : List Awaited) → AreWithin (keys_among (take 1 (drop at xs))) (keys_among xs)
one_within at xs = λ k m. ap (λ (ys : List Awaited). among k (keys_among ys)) (list_split at xs)
    ∙ ap (among k) (keys_among_append (take at xs) (drop at xs))
    ∙ among_right k (keys_among (take at xs)) (keys_among (drop at xs))
    (ap (λ (ys : List Awaited). among k (keys_among ys)) (drop_split at xs)
    ∙ ap (among k) (keys_among_append (take 1 (drop at xs)) (drop 1 (drop at xs)))
    ∙ among_left k (keys_among (take 1 (drop at xs))) (keys_among (drop 1 (drop at xs))) m)

pub key_one : (xs : List Awaited) (at : ℕ) (d : Awaited) (own : Key) → at < length xs → get_or xs at d ≡ awaited.Key own → keys_among (take 1 (drop at xs)) ≡ own ∷ []
key_one xs at d own h k = ap keys_among (one_of_list xs at d h ∙ ap (λ (y : Awaited). y ∷ []) k)

pub key_there : (xs : List Awaited) (at : ℕ) (d : Awaited) (own : Key) → at < length xs → get_or xs at d ≡ awaited.Key own → among own (keys_among xs) ≡ true
key_there xs at d own h k = one_within at xs own (ap (among own) (key_one xs at d own h k) ∙ among_first own [])

upto : (c : Content) (xs : List Awaited) (at : ℕ) (names : List Key) → AreKeys c.keys (keys_among (take at xs) ++ names) → (k : Key) → has k c.keys ≡ true
    → among k (keys_among xs ++ names) ≡ true
upto c xs at names g k h = within_both (keys_among (take at xs)) (keys_among xs) names names (front_within at xs) (within_self names) k (sym (g k) ∙ h)

pub other_at : (c : Content) (xs : List Awaited) (at : ℕ) (d : Awaited) (names : List Key) → at < length xs → ((own : Key) → get_or xs at d ≡ awaited.Key own → ⊥)
    → AreKeys c.keys (keys_among (take at xs) ++ names) → Rekeyed c c (keys_among (take 1 (drop at xs))) (keys_among xs ++ names) (keys_among xs ++ names)
other_at c xs at d names h e g =
    subst (λ (ks : List Key). Rekeyed c c ks (keys_among xs ++ names) (keys_among xs ++ names)) (sym (ap keys_among (one_of_list xs at d h) ∙ is_other (get_or xs at d) e))
    (rekeyed_none c (keys_among xs ++ names) (keys_among xs ++ names) (upto c xs at names g))

-- the key at a place is registered, if it wasn't
pub joined_at : (before after : Content) (xs : List Awaited) (at : ℕ) (own : Key) (names : List Key) → keys_among (take 1 (drop at xs)) ≡ own ∷ []
    → AreKeys before.keys (keys_among (take at xs) ++ names) → Joins before own after
    → Rekeyed before after (keys_among (take 1 (drop at xs))) (keys_among xs ++ names) (keys_among xs ++ names)
joined_at before after xs at own names e a j =
    subst (λ (ks : List Key). Rekeyed before after ks (keys_among xs ++ names) (keys_among xs ++ names)) (sym e)
    (rekeyed_joined before after own (keys_among xs ++ names) (keys_among xs ++ names) j
    (among_left own (keys_among xs) names (one_within at xs own (ap (among own) e ∙ among_first own [])))
    (upto before xs at names a))

-- what is registered before a place
pub keys_upto : (a b : Content) (xs : List Awaited) (at : ℕ) (names : List Key) → AreKeys a.keys names
    → Rekeyed a b (keys_among (take at xs)) names (keys_among xs ++ names) → AreKeys b.keys (keys_among (take at xs) ++ names)
keys_upto a b xs at names g h k =
    h.keys k
    ∙ ap (λ (x : Bool). x && (has k a.keys || among k (keys_among (take at xs)))) (among_append k (keys_among xs) names)
    ∙ ap (λ (x : Bool). (among k (keys_among xs) || among k names) && (x || among k (keys_among (take at xs)))) (g k)
    ∙ mixed (among k (keys_among xs)) (among k names) (among k (keys_among (take at xs))) (front_within at xs k)
    ∙ sym (among_append k (keys_among (take at xs)) names)
  where
    mixed : (l m t : Bool) → (t ≡ true → l ≡ true) → ((l || m) && (m || t)) ≡ (t || m)
    mixed true true true e = refl
    mixed true true false e = refl
    mixed true false true e = refl
    mixed true false false e = refl
    mixed false true true e = refl
    mixed false true false e = refl
    mixed false false true e = absurd (let z = e refl in cc)
    mixed false false false e = refl

-- what may be registered may be so later on
pub asked_upto : (a b : Content) (xs : List Awaited) (at : ℕ) (names : List Key) → AreKeys a.keys names
    → Rekeyed a b (keys_among (take at xs)) names (keys_among xs ++ names) → AreAsked a (keys_among xs) → AreAsked b (keys_among xs)
asked_upto a b xs at names g h asked k m n =
    subst (λ (s : State). IsAsked (length s.signals) s k) (sym h.state)
    (asked k m (g k ∙ or_false_right (among k (keys_among (take at xs))) (among k names) (sym (among_append k (keys_among (take at xs)) names) ∙ sym (keys_upto a b xs at names g h k) ∙ n)))

pub registered_next : (a b c : Content) (xs : List Awaited) (at : ℕ) (names : List Key) → Rekeyed a b (keys_among (take at xs)) names (keys_among xs ++ names)
    → Rekeyed b c (keys_among (take 1 (drop at xs))) (keys_among xs ++ names) (keys_among xs ++ names)
    → Rekeyed a c (keys_among (take (at + 1) xs)) names (keys_among xs ++ names)
registered_next a b c xs at names h e =
    subst (λ (ks : List Key). Rekeyed a c ks names (keys_among xs ++ names))
    (sym (ap (λ (i : ℕ). keys_among (take i xs)) (add-one at) ∙ ap keys_among (take_next at xs) ∙ keys_among_append (take at xs) (take 1 (drop at xs))))
    (rekeyed_more a b c (keys_among (take at xs)) (keys_among (take 1 (drop at xs))) names (keys_among xs ++ names) h e)

pub registered_first : (c : Content) (xs : List Awaited) (names : List Key) → AreKeys c.keys names → Rekeyed c c (keys_among (take 0 xs)) names (keys_among xs ++ names)
registered_first c xs names g = rekeyed_none c names (keys_among xs ++ names) (λ k h. among_right k (keys_among xs) names (sym (g k) ∙ h))

pub registered_all : (a b : Content) (xs : List Awaited) (at : ℕ) (names : List Key) → length xs ≡ at → Rekeyed a b (keys_among (take at xs)) names (keys_among xs ++ names)
    → Rekeyed a b (keys_among xs) names (keys_among xs ++ names)
registered_all a b xs at names e h = subst (λ (ys : List Awaited). Rekeyed a b (keys_among ys) names (keys_among xs ++ names)) (whole xs at e) h
  where
    whole : (ys : List Awaited) (i : ℕ) → length ys ≡ i → take i ys ≡ ys
    whole [] zero l = refl
    whole [] (suc i) l = refl
    whole (y ∷ ys) zero l = absurd (omega arith)
    whole (y ∷ ys) (suc i) l = ap (λ (zs : List Awaited). y ∷ zs) (whole ys i (omega arith))

-- what was registered before a place may go again
pub fits_again : (b : Content) (held ks : List Key) → AreKeys b.keys ks → Fits b [] held ks
fits_again b held ks g = record {
  keys = record { within = λ k h. sym (g k) ∙ h; rest = λ k m h. absurd (let z : true ≡ false = sym m ∙ sym (g k) ∙ h in cc) };
  out = λ k m. absurd (cc);
}

pub kept_again : (a b d : Content) (asked fronts names all : List Key) → AreKeys a.keys names → Rekeyed a b asked names all → AreKeys b.keys (fronts ++ names)
    → Narrows b d (fronts ++ names) names → KeepsKeys a d
kept_again a b d asked fronts names all g h e n = record {
  procs = n.keys.procs ∙ h.procs;
  nets = n.keys.nets ∙ h.nets;
  state = n.keys.state ∙ h.state;
  keys = λ k. n.keys.keys k
      ∙ ap (λ (x : Bool). among k names && (x || false)) (e k ∙ among_append k fronts names)
      ∙ twice (among k fronts) (among k names)
      ∙ sym (g k);
  fired = ap (λ (c : Counts). c.fired) n.keys.counts ∙ ap (λ (c : Counts). c.fired) h.counts;
}
  where
    twice : (f m : Bool) → (m && ((f || m) || false)) ≡ m
    twice true true = refl
    twice true false = refl
    twice false true = refl
    twice false false = refl

-- ---- keys that fired

pub some_key : (o : Option Key) (own : Key) → o ≡ Some own → among own (key_list o) ≡ true
some_key o own e = rw e (among_first own [])

pub not_true : (b : Bool) → b ≡ false → b ≡ true → ⊥
not_true b h e = let z : true ≡ false = sym e ∙ h in absurd (cc)

pub again_named : (before after : Content) (o : Option Key) (own : Key) (names : List Key) → o ≡ Some own → Registers before own after → has own before.keys ≡ false
    → among own names ≡ true → ((k : Key) → has k before.keys ≡ true → among k names ≡ true) → Rekeyed before after (key_list o) names names
again_named before after o own names e r h m w =
    rw e (rekeyed_joined before after own names names (joins_registered before after own r h) m w)

pub again_unnamed : (c : Content) (o : Option Key) (own : Key) (names : List Key) → o ≡ Some own → has own c.keys ≡ false
    → among own names ≡ false → ((k : Key) → has k c.keys ≡ true → among k names ≡ true) → Rekeyed c c (key_list o) names names
again_unnamed c o own names e h m w = rw e (rekeyed_same c (own ∷ []) names names (λ k. decided k (same_key k own) (has k c.keys) refl refl))
  where
    decided : (k : Key) (s b : Bool) → same_key k own ≡ s → has k c.keys ≡ b → has k c.keys ≡ (among k names && (has k c.keys || (same_key k own || false)))
    decided k true b s x =
        let y : has k c.keys ≡ false = ap (λ (j : Key). has j c.keys) (same_is k own s) ∙ h in
        let z : among k names ≡ false = ap (λ (j : Key). among j names) (same_is k own s) ∙ m in
        rw (y, z) refl
    decided k false true s x = rw (x, w k x) refl
    decided k false false s x = rw (s, x) (sym (and_no (among k names)))

pub again_none : (c : Content) (o : Option Key) (names : List Key) → o ≡ None → ((k : Key) → has k c.keys ≡ true → among k names ≡ true) → Rekeyed c c (key_list o) names names
again_none c o names e w = rw e (rekeyed_none c names names w)

apart_second : (f s : Option Key) → AreApart (key_list f ++ key_list s) → (k : Key) → among k (key_list s) ≡ true → among k (key_list f) ≡ false
apart_second None s a k m = refl
apart_second (Some x) None a k m = absurd (cc)
apart_second (Some x) (Some y) a k m = decided (same_key k x) refl
  where
    decided : (b : Bool) → same_key k x ≡ b → (same_key k x || false) ≡ false
    decided false e = rw e refl
    decided true e = absurd (let z : true ≡ false = sym (ap (λ (j : Key). same_key j y || false) (sym (same_is k x e)) ∙ m) ∙ a.0 in cc)

pub out_second : (a m : Content) (first second : Option Key) (names : List Key) → AreFired a (key_list first ++ key_list second) → Rekeyed a m (key_list first) names names
    → (k : Key) → among k (key_list second) ≡ true → has k m.keys ≡ false
out_second a m first second names f h k e =
    h.keys k
    ∙ ap (λ (b : Bool). among k names && (b || among k (key_list first))) (f.out k (among_right k (key_list first) (key_list second) e))
    ∙ ap (λ (b : Bool). among k names && b) (apart_second first second f.apart k e)
    ∙ and_no (among k names)

pub design_kept : (a m : Content) (k : Key) → m.state ≡ a.state → IsOfDesign a k → IsOfDesign m k
design_kept a m (key.At t) e h = tt
design_kept a m (key.Rise sig) e h = subst (λ (s : State). sig.0 < length s.signals) (sym e) h
design_kept a m (key.Fall sig) e h = subst (λ (s : State). sig.0 < length s.signals) (sym e) h
design_kept a m (key.Change sig) e h = subst (λ (s : State). sig.0 < length s.signals) (sym e) h
design_kept a m key.ReadWrite e h = tt
design_kept a m key.ReadOnly e h = tt
design_kept a m key.NextStep e h = tt

pub fired_kept : (a m : Content) (ks : List Key) (old new : List Key) → AreFired a ks → Narrows a m old new → AreFired m ks
fired_kept a m ks old new f n = record {
  apart = f.apart;
  out = λ k e. n.keys.keys k ∙ ap (λ (b : Bool). among k new && (b || false)) (f.out k e) ∙ and_no (among k new);
  signals = λ k e. design_kept a m k n.keys.state (f.signals k e);
}

-- the runner holds none of them any more
pub fits_out : (c : Content) (fired held : List Key) (waiting : List Waiting) → AreFired c fired → AreKeysBut c.keys (fired ++ held) (named waiting held)
    → Fits c fired (without_all fired held) (named waiting (without_all fired held))
fits_out c fired held waiting f b = record {
  keys = record { within = inside; rest = λ k m h. other k (among k fired) refl (b.rest k (was k m) h) };
  out = f.out;
}
  where
    was : (k : Key) → among k (named waiting (without_all fired held)) ≡ true → among k (named waiting held) ≡ true
    was k m = within_both (keys_of waiting) (keys_of waiting) (without_all fired held) held (within_self (keys_of waiting)) (without_all_within fired held) k m

    unfired : (k : Key) (x : Bool) → among k fired ≡ x → has k c.keys ≡ true → among k fired ≡ false
    unfired k true e h = absurd (let z : true ≡ false = sym h ∙ f.out k e in cc)
    unfired k false e h = e

    inside : (k : Key) → has k c.keys ≡ true → among k (named waiting (without_all fired held)) ≡ true
    inside k h =
        among_append k (keys_of waiting) (without_all fired held)
        ∙ ap (λ (x : Bool). among k (keys_of waiting) || x) (without_all_kept k fired held (unfired k (among k fired) refl h))
        ∙ sym (among_append k (keys_of waiting) held)
        ∙ b.within k h

    other : (k : Key) (x : Bool) → among k fired ≡ x → among k (fired ++ held) ≡ true → among k (fired ++ without_all fired held) ≡ true
    other k true e m = among_left k fired (without_all fired held) e
    other k false e m =
        among_right k fired (without_all fired held)
        (without_all_kept k fired held e ∙ sym (ap (λ (x : Bool). x || among k held) e) ∙ sym (among_append k fired held) ∙ m)

-- what was registered stays so while the runner lets go of them
pub narrows_out : (a b : Content) (fired held : List Key) (waiting : List Waiting) (new : List Key) → AreFired a fired → AreKeysBut a.keys (fired ++ held) (named waiting held)
    → Narrows a b (named waiting (without_all fired held)) new → Narrows a b (named waiting held) new
narrows_out a b fired held waiting new f k n =
    narrows_through a a b (named waiting held) (named waiting (without_all fired held)) new
    (narrows_none a (named waiting held) (named waiting (without_all fired held)) (λ j h. (fits_out a fired held waiting f k).keys.within j h)
    (within_both (keys_of waiting) (keys_of waiting) (without_all fired held) held (within_self (keys_of waiting)) (without_all_within fired held))) n

pub fired_again : (a b c : Content) (fired old new : List Key) → Narrows a b old new → Rekeyed b c fired new new → Rekeyed a c fired old new
fired_again a b c fired old new n r = rekeyed_more a b c [] fired old new n.keys r

-- ---- keys that the runner holds

held_last : (own : Key) (held : List Key) → AreAlike (held ++ own ∷ []) (own ∷ held)
held_last own held k = among_append k held (own ∷ []) ∙ turned (among k held) (same_key k own)
  where
    turned : (h s : Bool) → (h || (s || false)) ≡ (s || h)
    turned true true = refl
    turned true false = refl
    turned false true = refl
    turned false false = refl

pub held_push : (own : Key) (held after : List Key) → after ≡ held ++ own ∷ [] → AreAlike after (own ∷ held)
held_push own held after e k = ap (among k) e ∙ held_last own held k

-- it is registered where a task waits for it
pub held_there : (c : Content) (own : Key) (held : List Key) (waiting : List Waiting) → among own held ≡ false → AreKeysBut c.keys held (named waiting held)
    → has own c.keys ≡ among own (keys_of waiting)
held_there c own held waiting n b =
    alike (has own c.keys) (among own (keys_of waiting))
    (λ h. sym (named_unheld own waiting held n) ∙ b.within own h)
    (λ m. decided (has own c.keys) refl m)
  where
    decided : (x : Bool) → has own c.keys ≡ x → among own (keys_of waiting) ≡ true → has own c.keys ≡ true
    decided true h m = h
    decided false h m = absurd (let z : true ≡ false = sym (b.rest own (among_left own (keys_of waiting) held m) h) ∙ n in cc)

pub held_joined : (before after : Content) (own : Key) (held now : List Key) (waiting : List Waiting) → now ≡ held ++ own ∷ [] → AreKeysBut before.keys held (named waiting held)
    → Joins before own after → Rekeyed before after (own ∷ []) (named waiting held) (named waiting now)
held_joined before after own held now waiting e b j =
    rekeyed_joined before after own (named waiting held) (named waiting now) j
    (among_right own (keys_of waiting) now (held_push own held now e own ∙ among_first own held))
    (λ k h. within_both (keys_of waiting) (keys_of waiting) held now (within_self (keys_of waiting)) (λ i m. held_push own held now e i ∙ or_right (same_key i own) (among i held) m) k (b.within k h))

module _ (c : Content) (own : Key) (held now : List Key) (waiting : List Waiting) (e : now ≡ without own held) (there : among own held ≡ true) (known : has own c.keys ≡ true)
    (b : AreKeysBut c.keys held (named waiting held)) where
  -- one that is named is that key, or is named on
  still_named : (k : Key) → among k (named waiting held) ≡ true → (same_key k own || among k (named waiting now)) ≡ true
  still_named k m = decided (same_key k own) refl
    where
      decided : (s : Bool) → same_key k own ≡ s → (same_key k own || among k (named waiting now)) ≡ true
      decided true s = or_left (same_key k own) (among k (named waiting now)) s
      decided false s = or_right (same_key k own) (among k (named waiting now))
          (among_append k (keys_of waiting) now
          ∙ ap (λ (x : Bool). among k (keys_of waiting) || x)
          (ap (among k) e ∙ among_without k own held ∙ ap (λ (x : Bool). among k held && not x) (same_sym own k ∙ s) ∙ and_yes (among k held))
          ∙ sym (among_append k (keys_of waiting) held) ∙ m)

  gone_now : among own now ≡ false
  gone_now = ap (among own) e ∙ among_without own own held ∙ ap (λ (x : Bool). among own held && not x) (same_self own) ∙ and_no (among own held)

  pub released_waited : among own (keys_of waiting) ≡ true → Rekeyed c c [] (named waiting held) (named waiting now)
  released_waited w = rekeyed_none c (named waiting held) (named waiting now) (λ k h. kept k (same_key k own) refl (still_named k (b.within k h)))
    where
      kept : (k : Key) (s : Bool) → same_key k own ≡ s → (same_key k own || among k (named waiting now)) ≡ true → among k (named waiting now) ≡ true
      kept k true s m = among_left k (keys_of waiting) now (ap (λ (j : Key). among j (keys_of waiting)) (same_is k own s) ∙ w)
      kept k false s m = ap (λ (x : Bool). x || among k (named waiting now)) (sym s) ∙ m

  pub released_gone : (after : Content) → among own (keys_of waiting) ≡ false → Removes c own after → Rekeyed c after [] (named waiting held) (named waiting now)
  released_gone after w r =
      rekeyed_removed c after own (named waiting held) (named waiting now) r known (among_right own (keys_of waiting) held there) (among_none own (keys_of waiting) now w gone_now)
      (λ k h. still_named k (b.within k h))
