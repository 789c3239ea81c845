-- What a simulator comes to when keys are registered and removed, one after the other.
use Rattle.std.proofs.Common.{◌≡◌, ℕ, arith, ◌+◌, ◌||◌, ◌&&◌, Bool, true, false, not, if◌then◌else◌, List, [], ◌∷◌, ◌++◌, length, refl, sym, ap, ◌∙◌}
use Rattle.gpi.specs.Content.{Content, IsAsked, Registers, Removes}
use Rattle.gpi.specs.Keys.{Keys, among, has, is_time, same_key}
use Rattle.gpi.specs.declared.types.Counts.{Counts}
use Rattle.gpi.specs.declared.types.Key.{Key}
use Rattle.gpi.specs.declared.types.Key.TheVariants as key
use Rattle.await_tree.specs.WaitList.Counts.{count_keys, raised_times}
use Rattle.await_tree.specs.WaitList.Keys.{AreAlike, AreKeysBut, IsOfDesign, Rekeyed}
use Rattle.await_tree.specs.WaitList.Edges.{is_edge}
use Rattle.await_tree.specs.WaitList.Parts.{AreWithin, Fits, Joins, Narrows}
use Rattle.await_tree.proofs.WaitListLemmas.Counts.{count_none, count_passing, count_single, count_sum, count_tests, raised_sum}
use Rattle.await_tree.proofs.WaitListLemmas.Members.{among_append, among_first, among_same, and_left, and_no, or_false_left, or_false_right, or_no, or_none, or_right, or_yes, same_is, within_through}

-- a key that is registered then and wasn't, and one that was and isn't
abbrev is_new : Keys → Keys → Key → Bool
is_new before after k = has k after && not (has k before)

abbrev is_gone : Keys → Keys → Key → Bool
is_gone before after k = has k before && not (has k after)

and_not : (b : Bool) → (b && not b) ≡ false
and_not true = refl
and_not false = refl

-- the counts, where it is known how many are registered and removed
counted : (before after : Content) (old new : List Key) (p r : ℕ) → count_keys (λ k. is_new before.keys after.keys k) new ≡ p
    → count_keys (λ k. is_gone before.keys after.keys k) old ≡ r
    → after.counts ≡ record before.counts { primed = raised_times p before.counts.primed; removed = raised_times r before.counts.removed }
    → after.counts ≡ record before.counts {
      primed = raised_times (count_keys (λ k. has k after.keys && not (has k before.keys)) new) before.counts.primed;
      removed = raised_times (count_keys (λ k. has k before.keys && not (has k after.keys)) old) before.counts.removed;
    }
counted before after old new p r hp hr e = rw (hp, hr) e

-- ---- nothing changes

pub rekeyed_same : (c : Content) (asked old new : List Key) → ((k : Key) → has k c.keys ≡ (among k new && (has k c.keys || among k asked))) → Rekeyed c c asked old new
rekeyed_same c asked old new h = record {
  procs = refl;
  nets = refl;
  state = refl;
  keys = h;
  counts = counted c c old new 0 0 (count_none (λ k. is_new c.keys c.keys k) new (λ k m. and_not (has k c.keys)))
      (count_none (λ k. is_gone c.keys c.keys k) old (λ k m. and_not (has k c.keys))) refl;
}

same_named : (c : Content) (new : List Key) → ((k : Key) → has k c.keys ≡ true → among k new ≡ true) → (k : Key) → has k c.keys ≡ (among k new && (has k c.keys || among k []))
same_named c new h k = decided (has k c.keys) refl
  where
    decided : (b : Bool) → has k c.keys ≡ b → has k c.keys ≡ (among k new && (has k c.keys || among k []))
    decided true e = rw (e, h k e) refl
    decided false e = rw e (sym (and_no (among k new)))

pub rekeyed_none : (c : Content) (old new : List Key) → ((k : Key) → has k c.keys ≡ true → among k new ≡ true) → Rekeyed c c [] old new
rekeyed_none c old new h = rekeyed_same c [] old new (same_named c new h)

pub narrows_none : (c : Content) (old new : List Key) → ((k : Key) → has k c.keys ≡ true → among k new ≡ true) → AreWithin new old → Narrows c c old new
narrows_none c old new h w = record { keys = rekeyed_same c [] old new (same_named c new h); within = w }

-- ---- one key is removed

module _ (before after : Content) (gone : Key) (old new : List Key) (r : Removes before gone after) (there : has gone before.keys ≡ true) (was : among gone old ≡ true)
    (isnt : among gone new ≡ false) (rest : (k : Key) → has k before.keys ≡ true → (same_key k gone || among k new) ≡ true) where
  removed_keys : (k : Key) → has k after.keys ≡ (among k new && (has k before.keys || among k []))
  removed_keys k = r.keys k ∙ decided (same_key k gone) (has k before.keys) refl refl
    where
      decided : (s h : Bool) → same_key k gone ≡ s → has k before.keys ≡ h → (has k before.keys && not (same_key k gone || false)) ≡ (among k new && (has k before.keys || false))
      decided true h s e = let n : among k new ≡ false = ap (λ (j : Key). among j new) (same_is k gone s) ∙ isnt in rw (s, n) (and_no (has k before.keys))
      decided false true s e = let n : among k new ≡ true = ap (λ (b : Bool). b || among k new) (sym s) ∙ rest k e in rw (s, e, n) refl
      decided false false s e = rw (s, e) (sym (and_no (among k new)))

  removed_new : (k : Key) → is_new before.keys after.keys k ≡ false
  removed_new k = ap (λ (b : Bool). b && not (has k before.keys)) (r.keys k) ∙ never (has k before.keys) (among k (gone ∷ []))
    where
      never : (h s : Bool) → ((h && not s) && not h) ≡ false
      never true true = refl
      never true false = refl
      never false s = refl

  removed_gone : (k : Key) → is_gone before.keys after.keys k ≡ same_key k gone
  removed_gone k = ap (λ (b : Bool). has k before.keys && not b) (r.keys k) ∙ decided (same_key k gone) (has k before.keys) refl refl
    where
      decided : (s h : Bool) → same_key k gone ≡ s → has k before.keys ≡ h → (has k before.keys && not (has k before.keys && not (same_key k gone || false))) ≡ same_key k gone
      decided true h s e = let t : has k before.keys ≡ true = ap (λ (j : Key). has j before.keys) (same_is k gone s) ∙ there in rw (s, t) refl
      decided false true s e = rw (s, e) refl
      decided false false s e = rw (s, e) refl

  pub rekeyed_removed : Rekeyed before after [] old new
  rekeyed_removed = record {
    procs = r.procs;
    nets = r.nets;
    state = r.state;
    keys = removed_keys;
    counts = counted before after old new 0 1 (count_none (λ k. is_new before.keys after.keys k) new (λ k m. removed_new k))
        (count_single (λ k. is_gone before.keys after.keys k) gone old was (λ k m. removed_gone k)) r.counts;
  }

-- ---- one key is registered

pub joins_registered : (before after : Content) (own : Key) → Registers before own after → has own before.keys ≡ false → Joins before own after
joins_registered before after own r h = record {
  procs = r.procs;
  nets = r.nets;
  state = r.state;
  keys = r.keys;
  counts = rw h r.counts;
}

pub joins_there : (c : Content) (own : Key) → has own c.keys ≡ true → Joins c own c
joins_there c own h = record {
  procs = refl;
  nets = refl;
  state = refl;
  keys = λ k. same k (same_key k own) refl;
  counts = rw h refl;
}
  where
    same : (k : Key) (b : Bool) → same_key k own ≡ b → has k c.keys ≡ (same_key k own || has k c.keys)
    same k true s = rw s (ap (λ (j : Key). has j c.keys) (same_is k own s) ∙ h)
    same k false s = rw s refl

module _ (before after : Content) (own : Key) (old new : List Key) (j : Joins before own after) (named : among own new ≡ true)
    (rest : (k : Key) → has k before.keys ≡ true → among k new ≡ true) where
  joined_keys : (k : Key) → has k after.keys ≡ (among k new && (has k before.keys || among k (own ∷ [])))
  joined_keys k = j.keys k ∙ decided (same_key k own) (has k before.keys) refl refl
    where
      decided : (s h : Bool) → same_key k own ≡ s → has k before.keys ≡ h → (same_key k own || has k before.keys) ≡ (among k new && (has k before.keys || (same_key k own || false)))
      decided true h s e = let n : among k new ≡ true = among_same k own new s named in rw (s, n) (sym (or_yes (has k before.keys)))
      decided false true s e = rw (s, e, rest k e) refl
      decided false false s e = rw (s, e) (sym (and_no (among k new)))

  joined_gone : (k : Key) → is_gone before.keys after.keys k ≡ false
  joined_gone k = ap (λ (b : Bool). has k before.keys && not b) (j.keys k) ∙ never (has k before.keys) (same_key k own)
    where
      never : (h s : Bool) → (h && not (s || h)) ≡ false
      never true true = refl
      never true false = refl
      never false s = refl

  -- where it was registered before
  known_new : has own before.keys ≡ true → (k : Key) → is_new before.keys after.keys k ≡ false
  known_new h k = ap (λ (b : Bool). b && not (has k before.keys)) (j.keys k) ∙ decided (same_key k own) refl
    where
      decided : (s : Bool) → same_key k own ≡ s → ((same_key k own || has k before.keys) && not (has k before.keys)) ≡ false
      decided true s = let t : has k before.keys ≡ true = ap (λ (i : Key). has i before.keys) (same_is k own s) ∙ h in rw (s, t) refl
      decided false s = rw s (and_not (has k before.keys))

  fresh_new : has own before.keys ≡ false → (k : Key) → is_new before.keys after.keys k ≡ same_key k own
  fresh_new h k = ap (λ (b : Bool). b && not (has k before.keys)) (j.keys k) ∙ decided (same_key k own) refl
    where
      decided : (s : Bool) → same_key k own ≡ s → ((same_key k own || has k before.keys) && not (has k before.keys)) ≡ same_key k own
      decided true s = let t : has k before.keys ≡ false = ap (λ (i : Key). has i before.keys) (same_is k own s) ∙ h in rw (s, t) refl
      decided false s = rw s (and_not (has k before.keys))

  joined_counts : after.counts ≡ record before.counts {
    primed = raised_times (count_keys (λ k. has k after.keys && not (has k before.keys)) new) before.counts.primed;
    removed = raised_times (count_keys (λ k. has k before.keys && not (has k after.keys)) old) before.counts.removed;
  }
  joined_counts = decided (has own before.keys) refl
    where
      none : count_keys (λ k. is_gone before.keys after.keys k) old ≡ 0
      none = count_none (λ k. is_gone before.keys after.keys k) old (λ k m. joined_gone k)

      decided : (b : Bool) → has own before.keys ≡ b → after.counts ≡ record before.counts {
        primed = raised_times (count_keys (λ k. has k after.keys && not (has k before.keys)) new) before.counts.primed;
        removed = raised_times (count_keys (λ k. has k before.keys && not (has k after.keys)) old) before.counts.removed;
      }
      decided true e =
          counted before after old new 0 0 (count_none (λ k. is_new before.keys after.keys k) new (λ k m. known_new e k)) none
          (j.counts ∙ ap (λ (b : Bool). let x : Counts = record before.counts { primed = raised_times (if b then 0 else 1) before.counts.primed } in x) e)
      decided false e =
          counted before after old new 1 0 (count_single (λ k. is_new before.keys after.keys k) own new named (λ k m. fresh_new e k)) none
          (j.counts ∙ ap (λ (b : Bool). let x : Counts = record before.counts { primed = raised_times (if b then 0 else 1) before.counts.primed } in x) e)

  pub rekeyed_joined : Rekeyed before after (own ∷ []) old new
  rekeyed_joined = record { procs = j.procs; nets = j.nets; state = j.state; keys = joined_keys; counts = joined_counts }

-- ---- one change after the other

-- counts that rise twice
two_rises : (a b c : Counts) (p q r s : ℕ) → b ≡ record a { primed = raised_times p a.primed; removed = raised_times r a.removed }
    → c ≡ record b { primed = raised_times q b.primed; removed = raised_times s b.removed }
    → c ≡ record a { primed = raised_times (p + q) a.primed; removed = raised_times (r + s) a.removed }
two_rises a b c p q r s h e =
    e ∙ ap (λ (x : Counts). let y : Counts = record x { primed = raised_times q x.primed; removed = raised_times s x.removed } in y) h
    ∙ (rw (raised_sum p q a.primed, raised_sum r s a.removed) refl)

module _ (a b c : Content) (old mid new : List Key) (h : Rekeyed a b [] old mid) (e : Rekeyed b c [] mid new) (w : AreWithin new mid) (v : AreWithin mid old) where
  kept_once : (k : Key) → has k b.keys ≡ (among k mid && has k a.keys)
  kept_once k = h.keys k ∙ ap (λ (x : Bool). among k mid && x) (or_no (has k a.keys))

  kept_twice : (k : Key) → has k c.keys ≡ (among k new && has k b.keys)
  kept_twice k = e.keys k ∙ ap (λ (x : Bool). among k new && x) (or_no (has k b.keys))

  less_keys : (k : Key) → has k c.keys ≡ (among k new && (has k a.keys || among k []))
  less_keys k = kept_twice k ∙ ap (λ (x : Bool). among k new && x) (kept_once k) ∙ decided (among k new) refl
    where
      decided : (n : Bool) → among k new ≡ n → (among k new && (among k mid && has k a.keys)) ≡ (among k new && (has k a.keys || false))
      decided true n = rw (n, w k n) (or_none (has k a.keys))
      decided false n = rw n refl

  less_new : (k : Key) → is_new a.keys c.keys k ≡ false
  less_new k = ap (λ (x : Bool). x && not (has k a.keys)) (kept_twice k ∙ ap (λ (x : Bool). among k new && x) (kept_once k)) ∙ never (among k new) (among k mid) (has k a.keys)
    where
      never : (n m x : Bool) → ((n && (m && x)) && not x) ≡ false
      never true true x = and_not x
      never true false x = refl
      never false m x = refl

  less_parts : (k : Key) → is_gone a.keys c.keys k ≡ (is_gone a.keys b.keys k || is_gone b.keys c.keys k)
  less_parts k = rw (kept_twice k, kept_once k) (parts (among k new) (among k mid) (has k a.keys))
    where
      parts : (n m x : Bool) → (x && not (n && (m && x))) ≡ ((x && not (m && x)) || ((m && x) && not (n && (m && x))))
      parts true true true = refl
      parts true true false = refl
      parts true false true = refl
      parts true false false = refl
      parts false true true = refl
      parts false true false = refl
      parts false false true = refl
      parts false false false = refl

  less_apart : (k : Key) → (is_gone a.keys b.keys k && is_gone b.keys c.keys k) ≡ false
  less_apart k = rw (kept_twice k, kept_once k) (parts (among k new) (among k mid) (has k a.keys))
    where
      parts : (n m x : Bool) → ((x && not (m && x)) && ((m && x) && not (n && (m && x)))) ≡ false
      parts true true true = refl
      parts true true false = refl
      parts true false true = refl
      parts true false false = refl
      parts false true true = refl
      parts false true false = refl
      parts false false true = refl
      parts false false false = refl

  -- what goes later was named before
  later_named : (k : Key) → is_gone b.keys c.keys k ≡ true → among k mid ≡ true
  later_named k g = and_left (among k mid) (has k a.keys) (sym (kept_once k) ∙ and_left (has k b.keys) (not (has k c.keys)) g)

  less_gone : count_keys (λ k. is_gone a.keys c.keys k) old ≡ count_keys (λ k. is_gone a.keys b.keys k) old + count_keys (λ k. is_gone b.keys c.keys k) mid
  less_gone =
      count_sum (λ k. is_gone a.keys c.keys k) (λ k. is_gone a.keys b.keys k) (λ k. is_gone b.keys c.keys k) old (λ k m. less_parts k) (λ k m. less_apart k)
      ∙ ap (λ (n : ℕ). count_keys (λ k. is_gone a.keys b.keys k) old + n)
      (count_passing (λ k. is_gone b.keys c.keys k) old mid (λ k g. v k (later_named k g) ∙ sym (later_named k g)))

  less_rises : c.counts ≡ record a.counts {
    primed = raised_times 0 a.counts.primed;
    removed = raised_times (count_keys (λ k. is_gone a.keys b.keys k) old + count_keys (λ k. is_gone b.keys c.keys k) mid) a.counts.removed;
  }
  less_rises =
      two_rises a.counts b.counts c.counts 0 0 (count_keys (λ k. is_gone a.keys b.keys k) old) (count_keys (λ k. is_gone b.keys c.keys k) mid)
      (rw none_first at h.counts) (rw none_second at e.counts)
    where
      none_first : count_keys (λ k. has k b.keys && not (has k a.keys)) mid ≡ 0
      none_first = count_none (λ k. has k b.keys && not (has k a.keys)) mid
          (λ k m. ap (λ (x : Bool). x && not (has k a.keys)) (kept_once k) ∙ never (among k mid) (has k a.keys))
        where
          never : (m x : Bool) → ((m && x) && not x) ≡ false
          never true x = and_not x
          never false x = refl

      none_second : count_keys (λ k. has k c.keys && not (has k b.keys)) new ≡ 0
      none_second = count_none (λ k. has k c.keys && not (has k b.keys)) new
          (λ k m. ap (λ (x : Bool). x && not (has k b.keys)) (kept_twice k) ∙ never (among k new) (has k b.keys))
        where
          never : (m x : Bool) → ((m && x) && not x) ≡ false
          never true x = and_not x
          never false x = refl

  rekeyed_less : Rekeyed a c [] old new
  rekeyed_less = record {
    procs = e.procs ∙ h.procs;
    nets = e.nets ∙ h.nets;
    state = e.state ∙ h.state;
    keys = less_keys;
    counts = counted a c old new 0 (count_keys (λ k. is_gone a.keys b.keys k) old + count_keys (λ k. is_gone b.keys c.keys k) mid)
        (count_none (λ k. is_new a.keys c.keys k) new (λ k m. less_new k)) less_gone less_rises;
  }

pub narrows_through : (a b c : Content) (old mid new : List Key) → Narrows a b old mid → Narrows b c mid new → Narrows a c old new
narrows_through a b c old mid new h e = record {
  keys = rekeyed_less a b c old mid new h.keys e.keys e.within h.within;
  within = within_through new mid old e.within h.within;
}

-- more keys are registered of those that are named then
module _ (a b c : Content) (asked more old new : List Key) (h : Rekeyed a b asked old new) (e : Rekeyed b c more new new) where
  more_keys : (k : Key) → has k c.keys ≡ (among k new && (has k a.keys || among k (asked ++ more)))
  more_keys k = e.keys k ∙ rw (h.keys k, among_append k asked more) (joined (among k new) (has k a.keys) (among k asked) (among k more))
    where
      joined : (n x y z : Bool) → (n && ((n && (x || y)) || z)) ≡ (n && (x || (y || z)))
      joined true true y z = refl
      joined true false y z = refl
      joined false x y z = refl

  -- what was registered and named stays
  more_gone : (k : Key) → is_gone a.keys c.keys k ≡ is_gone a.keys b.keys k
  more_gone k = rw (e.keys k, h.keys k) (parts (among k new) (has k a.keys) (among k asked) (among k more))
    where
      parts : (n x y z : Bool) → (x && not (n && ((n && (x || y)) || z))) ≡ (x && not (n && (x || y)))
      parts true true y z = refl
      parts true false y z = refl
      parts false true y z = refl
      parts false false y z = refl

  more_none : (k : Key) → is_gone b.keys c.keys k ≡ false
  more_none k = rw (e.keys k, h.keys k) (parts (among k new) (has k a.keys) (among k asked) (among k more))
    where
      parts : (n x y z : Bool) → ((n && (x || y)) && not (n && ((n && (x || y)) || z))) ≡ false
      parts true true y z = refl
      parts true false true z = refl
      parts true false false z = refl
      parts false x y z = refl

  more_parts : (k : Key) → is_new a.keys c.keys k ≡ (is_new a.keys b.keys k || is_new b.keys c.keys k)
  more_parts k = rw (e.keys k, h.keys k) (parts (among k new) (has k a.keys) (among k asked) (among k more))
    where
      parts : (n x y z : Bool) → ((n && ((n && (x || y)) || z)) && not x) ≡ (((n && (x || y)) && not x) || ((n && ((n && (x || y)) || z)) && not (n && (x || y))))
      parts true true y z = refl
      parts true false true z = refl
      parts true false false true = refl
      parts true false false false = refl
      parts false x y z = refl

  more_apart : (k : Key) → (is_new a.keys b.keys k && is_new b.keys c.keys k) ≡ false
  more_apart k = rw (e.keys k, h.keys k) (parts (among k new) (has k a.keys) (among k asked) (among k more))
    where
      parts : (n x y z : Bool) → (((n && (x || y)) && not x) && ((n && ((n && (x || y)) || z)) && not (n && (x || y)))) ≡ false
      parts true true y z = refl
      parts true false true z = refl
      parts true false false z = refl
      parts false x y z = refl

  more_new : count_keys (λ k. is_new a.keys c.keys k) new ≡ count_keys (λ k. is_new a.keys b.keys k) new + count_keys (λ k. is_new b.keys c.keys k) new
  more_new = count_sum (λ k. is_new a.keys c.keys k) (λ k. is_new a.keys b.keys k) (λ k. is_new b.keys c.keys k) new (λ k m. more_parts k) (λ k m. more_apart k)

  more_rises : c.counts ≡ record a.counts {
    primed = raised_times (count_keys (λ k. is_new a.keys b.keys k) new + count_keys (λ k. is_new b.keys c.keys k) new) a.counts.primed;
    removed = raised_times (count_keys (λ k. is_gone a.keys b.keys k) old + 0) a.counts.removed;
  }
  more_rises =
      two_rises a.counts b.counts c.counts (count_keys (λ k. is_new a.keys b.keys k) new) (count_keys (λ k. is_new b.keys c.keys k) new)
      (count_keys (λ k. is_gone a.keys b.keys k) old) 0 h.counts (rw none at e.counts)
    where
      none : count_keys (λ k. has k b.keys && not (has k c.keys)) new ≡ 0
      none = count_none (λ k. has k b.keys && not (has k c.keys)) new (λ k m. more_none k)

  pub rekeyed_more : Rekeyed a c (asked ++ more) old new
  rekeyed_more = record {
    procs = e.procs ∙ h.procs;
    nets = e.nets ∙ h.nets;
    state = e.state ∙ h.state;
    keys = more_keys;
    counts = counted a c old new (count_keys (λ k. is_new a.keys b.keys k) new + count_keys (λ k. is_new b.keys c.keys k) new) (count_keys (λ k. is_gone a.keys b.keys k) old + 0)
        more_new (count_tests (λ k. is_gone a.keys c.keys k) (λ k. is_gone a.keys b.keys k) old (λ k m. more_gone k) ∙ plus (count_keys (λ k. is_gone a.keys b.keys k) old)) more_rises;
  }
    where
      plus : (n : ℕ) → n ≡ n + 0
      plus n = omega arith

-- ---- other lists with the same keys

pub rekeyed_alike : (a b : Content) (asked asked' old old' new new' : List Key) → AreAlike asked asked' → AreAlike old old' → AreAlike new new'
    → Rekeyed a b asked old new → Rekeyed a b asked' old' new'
rekeyed_alike a b asked asked' old old' new new' x y z h = record {
  procs = h.procs;
  nets = h.nets;
  state = h.state;
  keys = λ k. h.keys k ∙ rw (x k, z k) refl;
  counts = counted a b old' new' (count_keys (λ k. is_new a.keys b.keys k) new) (count_keys (λ k. is_gone a.keys b.keys k) old)
      (count_passing (λ k. is_new a.keys b.keys k) new' new (λ k t. sym (z k))) (count_passing (λ k. is_gone a.keys b.keys k) old' old (λ k t. sym (y k))) h.counts;
}

pub narrows_alike : (a b : Content) (old old' new new' : List Key) → AreAlike old old' → AreAlike new new' → Narrows a b old new → Narrows a b old' new'
narrows_alike a b old old' new new' y z h = record {
  keys = rekeyed_alike a b [] [] old old' new new' (λ k. refl) y z h.keys;
  within = λ k m. sym (y k) ∙ h.within k (z k ∙ m);
}

-- ---- what is asked of a part follows from the parts before

pub fits_after : (a b : Content) (fired held old new : List Key) → Fits a fired held old → Narrows a b old new → Fits b fired held new
fits_after a b fired held old new f n = record {
  keys = record {
    within = λ k h. and_left (among k new) (has k a.keys || false) (sym (n.keys.keys k) ∙ h);
    rest = λ k m h. f.keys.rest k (n.within k m) (sym (or_no (has k a.keys)) ∙ wasnt (among k new) (has k a.keys || false) m (sym (n.keys.keys k) ∙ h));
  };
  out = λ k m. n.keys.keys k ∙ rw (f.out k m) (and_no (among k new));
}
  where
    wasnt : (x y : Bool) → x ≡ true → (x && y) ≡ false → y ≡ false
    wasnt true y h e = e
    wasnt false y h e = absurd (cc)

pub fits_alike : (a : Content) (fired held old old' : List Key) → AreAlike old old' → Fits a fired held old → Fits a fired held old'
fits_alike a fired held old old' y f = record {
  keys = record { within = λ k h. sym (y k) ∙ f.keys.within k h; rest = λ k m h. f.keys.rest k (y k ∙ m) h };
  out = f.out;
}

-- where no key fired
pub fits_unfired : (a : Content) (held names : List Key) → AreKeysBut a.keys held names → Fits a [] held names
fits_unfired a held names f = record { keys = f; out = λ k m. absurd (cc) }

-- ---- the first of some keys goes

module _ (before after : Content) (fired held : List Key) (gone : Key) (rest : List Key) (f : Fits before fired held (gone ∷ rest)) (inside : AreWithin held rest) where
  -- it is registered, where it isn't left
  pub first_there : (among gone fired || among gone rest) ≡ false → has gone before.keys ≡ true
  first_there n = decided (has gone before.keys) refl
    where
      unfired : among gone fired ≡ false
      unfired = or_false_left (among gone fired) (among gone rest) n

      unnamed : among gone rest ≡ false
      unnamed = or_false_right (among gone fired) (among gone rest) n

      decided : (b : Bool) → has gone before.keys ≡ b → has gone before.keys ≡ true
      decided true h = h
      decided false h =
          absurd (let m : among gone (fired ++ held) ≡ true = f.keys.rest gone (among_first gone rest) h in
          let o : among gone held ≡ true = sym (among_append gone fired held ∙ ap (λ (b : Bool). b || among gone held) unfired) ∙ m in
          let z : true ≡ false = sym (inside gone o) ∙ unnamed in
          cc)

  later_within : AreWithin rest (gone ∷ rest)
  later_within = λ k m. or_right (same_key k gone) (among k rest) m

  pub first_goes : (among gone fired || among gone rest) ≡ false → Removes before gone after → Narrows before after (gone ∷ rest) rest
  first_goes n r = record {
    keys = rekeyed_removed before after gone (gone ∷ rest) rest r (first_there n) (among_first gone rest) (or_false_right (among gone fired) (among gone rest) n)
        (λ k h. f.keys.within k h);
    within = later_within;
  }

  pub first_stays : (among gone fired || among gone rest) ≡ true → Narrows before before (gone ∷ rest) rest
  first_stays n = narrows_none before (gone ∷ rest) rest (λ k h. decided k (same_key k gone) (among gone rest) h (f.keys.within k h) refl refl) later_within
    where
      decided : (k : Key) (s m : Bool) → has k before.keys ≡ true → (same_key k gone || among k rest) ≡ true → same_key k gone ≡ s → among gone rest ≡ m → among k rest ≡ true
      decided k false m h t s e = ap (λ (b : Bool). b || among k rest) (sym s) ∙ t
      decided k true true h t s e = among_same k gone rest s e
      decided k true false h t s e =
          absurd (let x : among gone fired ≡ true = sym (ap (λ (b : Bool). among gone fired || b) e ∙ or_no (among gone fired)) ∙ n in
          let y : has gone before.keys ≡ false = f.out gone x in
          let z : true ≡ false = sym h ∙ ap (λ (j : Key). has j before.keys) (same_is k gone s) ∙ y in
          cc)

-- ---- edges that fired are registered again

pub edge_untimed : (k : Key) → is_edge k ≡ true → is_time k ≡ false
edge_untimed (key.At t) h = absurd (cc)
edge_untimed (key.Rise s) h = refl
edge_untimed (key.Fall s) h = refl
edge_untimed (key.Change s) h = refl
edge_untimed key.ReadWrite h = refl
edge_untimed key.ReadOnly h = refl
edge_untimed key.NextStep h = refl

pub edge_asked : (c : Content) (k : Key) → is_edge k ≡ true → IsOfDesign c k → IsAsked (length c.state.signals) c.state k
edge_asked c (key.At t) h s = absurd (cc)
edge_asked c (key.Rise sig) h s = s
edge_asked c (key.Fall sig) h s = s
edge_asked c (key.Change sig) h s = absurd (cc)
edge_asked c key.ReadWrite h s = absurd (cc)
edge_asked c key.ReadOnly h s = absurd (cc)
edge_asked c key.NextStep h s = tt
