-- What a keeper's call does to the registered keys and the counts is what the definition counts as one effect.
use Rattle.std.proofs.Common.{◌≡◌, ◌+◌, ◌≤◌, ℕ, ◌||◌, ◌&&◌, Bool, true, false, not, List, [], ◌∷◌, length, refl, sym, ap, ◌∙◌}
use Rattle.std.specs.Prelude.{filter}
use Rattle.gpi.specs.Content.{Content}
use Rattle.gpi.specs.Keys.{has, among}
use Rattle.gpi.specs.State.{State}
use Rattle.gpi.specs.Terms.{widths_of}
use Rattle.gpi.specs.declared.design.Flat.{Flat}
use Rattle.gpi.specs.declared.types.Counts.{Counts}
use Rattle.gpi.specs.declared.types.Key.{Key}
use Rattle.await_tree.specs.WaitList.Counts.{count_keys, counts_after, raised_times, primed_keys, removed_keys}
use Rattle.await_tree.specs.WaitList.Keys.{AreAlike, AreKeys, AreKeysBut, Rekeyed}
use Rattle.await_tree.specs.WaitList.Waiting.{named}
use Rattle.rig_model.specs.Run.Rig.{Rig}
use Rattle.rig_model.specs.Run.Counts.{counted}
use Rattle.rig_model.specs.Parts.Fits.{AreSoundWrites, FitsQueue, KeepsQueue}
use Rattle.rig_model.specs.Parts.Queue.{Queue, Leads, queue_awaited, queue_held, rig_amid, rig_at}
use Rattle.run_state.specs.Queue.Sheds.{Sheds}
use Rattle.run_state.proofs.QueueLemmas.Tests.{and_true, and_false, and_not, and_follows, left_of_and, or_left}
use Rattle.run_state.proofs.QueueLemmas.KeyLaws.{named_alike}
use Rattle.run_state.proofs.QueueLemmas.CountLaws.{count_alike, count_none, count_tests, raised_both}

-- ---- registered keys

-- where what is named then was named before or was asked for, it is registered
pub rekeyed_keys : (k k' : Content) (asked old new : List Key) → AreKeys k.keys old
    → ((x : Key) → among x new ≡ true → (among x old || among x asked) ≡ true) → Rekeyed k k' asked old new → AreKeys k'.keys new
rekeyed_keys k k' asked old new a grows r x =
    r.keys x
    ∙ ap (λ (b : Bool). among x new && (b || among x asked)) (a x)
    ∙ and_follows (among x new) (among x old || among x asked) (grows x)

-- no key that is named was lost
pub are_but : (k : Content) (others ks : List Key) → AreKeys k.keys ks → AreKeysBut k.keys others ks
are_but k others ks a = record {
  within = λ x h. sym (a x) ∙ h;
  rest = λ x m h. absurd (let z : true ≡ false = sym m ∙ sym (a x) ∙ h in cc);
}

-- The counts after a call. The keys that were awaited before the effect are registered before the call but for these, which fired, and those that are awaited
-- after the effect are registered after it.
pub rekeyed_counts : (before after : Content) (asked old new fired had has' : List Key) → Rekeyed before after asked old new
    → ((x : Key) → has x before.keys ≡ (among x had && not (among x fired))) → AreKeys after.keys has'
    → ((x : Key) → among x had ≡ true → among x old ≡ true) → ((x : Key) → among x has' ≡ true → among x new ≡ true)
    → after.counts ≡ record before.counts {
      primed = raised_times (primed_keys fired had has') before.counts.primed;
      removed = raised_times (removed_keys fired had has') before.counts.removed;
    }
rekeyed_counts before after asked old new fired had has' r out are within among_new = r.counts ∙ rw (primed, removed) refl
  where
    enters : (n y x f : Bool) → (y ≡ true → n ≡ true) → (n && (y && not (x && not f))) ≡ (y && (not x || f))
    enters true true true true h = refl
    enters true true true false h = refl
    enters true true false f h = refl
    enters true false x f h = refl
    enters false true x f h = absurd (let z = h refl in cc)
    enters false false x f h = refl

    entered : (x : Key) → (among x new && (has x after.keys && not (has x before.keys))) ≡ (among x has' && (not (among x had) || among x fired))
    entered x =
        ap (λ (h : Bool). among x new && (h && not (has x before.keys))) (are x)
        ∙ ap (λ (h : Bool). among x new && (among x has' && not h)) (out x)
        ∙ enters (among x new) (among x has') (among x had) (among x fired) (among_new x)

    primed : count_keys (λ x. has x after.keys && not (has x before.keys)) new ≡ primed_keys fired had has'
    primed = count_alike (λ x. has x after.keys && not (has x before.keys)) (λ x. not (among x had) || among x fired) new has' entered

    leaves : (o x f y : Bool) → (x ≡ true → o ≡ true) → (o && ((x && not f) && not y)) ≡ (x && not (y || f))
    leaves true true true true h = refl
    leaves true true true false h = refl
    leaves true true false true h = refl
    leaves true true false false h = refl
    leaves true false f y h = refl
    leaves false true f y h = absurd (let z = h refl in cc)
    leaves false false f y h = refl

    left : (x : Key) → (among x old && (has x before.keys && not (has x after.keys))) ≡ (among x had && not (among x has' || among x fired))
    left x =
        ap (λ (h : Bool). among x old && (h && not (has x after.keys))) (out x)
        ∙ ap (λ (h : Bool). among x old && ((among x had && not (among x fired)) && not h)) (are x)
        ∙ leaves (among x old) (among x had) (among x fired) (among x has') (within x)

    removed : count_keys (λ x. has x before.keys && not (has x after.keys)) old ≡ removed_keys fired had has'
    removed = count_alike (λ x. has x before.keys && not (has x after.keys)) (λ x. not (among x has' || among x fired)) old had left

-- ---- the same keys are named

-- nothing has changed
pub still_rekeyed : (k : Content) (asked old new : List Key) → AreKeys k.keys new → Rekeyed k k asked old new
still_rekeyed k asked old new a = record {
  procs = refl;
  nets = refl;
  state = refl;
  keys = λ x. a x ∙ sym (ap (λ (h : Bool). among x new && (h || among x asked)) (a x) ∙ and_follows (among x new) (among x new || among x asked) (or_left (among x new) (among x asked)));
  counts = rw (none new, none old) refl;
}
  where
    none : (ks : List Key) → count_keys (λ x. has x k.keys && not (has x k.keys)) ks ≡ 0
    none ks = count_none (λ x. has x k.keys && not (has x k.keys)) ks (λ x m. and_not (has x k.keys))

-- the keys are told by another list that has the same ones
pub rekeyed_alike : (k k' : Content) (asked old new new' : List Key) → AreAlike new new' → Rekeyed k k' asked old new → Rekeyed k k' asked old new'
rekeyed_alike k k' asked old new new' e r = record {
  procs = r.procs;
  nets = r.nets;
  state = r.state;
  keys = λ x. r.keys x ∙ ap (λ (b : Bool). b && (has x k.keys || among x asked)) (e x);
  counts = r.counts ∙ rw (members) refl;
}
  where
    members : count_keys (λ x. has x k'.keys && not (has x k.keys)) new ≡ count_keys (λ x. has x k'.keys && not (has x k.keys)) new'
    members = count_alike (λ x. has x k'.keys && not (has x k.keys)) (λ x. has x k'.keys && not (has x k.keys)) new new' (λ x. ap (λ (b : Bool). b && (has x k'.keys && not (has x k.keys))) (e x))

-- ---- calls that remove keys alone

-- one after the other they are one
pub sheds_both : (k mid k' : Content) (old between new : List Key) → Sheds k mid old between → Sheds mid k' between new → Sheds k k' old new
sheds_both k mid k' old between new f g = record {
  rekeyed = record {
    procs = g.rekeyed.procs ∙ f.rekeyed.procs;
    nets = g.rekeyed.nets ∙ f.rekeyed.nets;
    state = g.rekeyed.state ∙ f.rekeyed.state;
    keys = λ x. g.rekeyed.keys x ∙ ap (λ (h : Bool). among x new && (h || false)) (f.rekeyed.keys x) ∙ meets (among x new) (among x between) (has x k.keys) (g.less x);
    counts = g.rekeyed.counts ∙ ap (λ (c : Counts). let d : Counts = record c {
      primed = raised_times (count_keys (λ x. has x k'.keys && not (has x mid.keys)) new) c.primed;
      removed = raised_times (count_keys (λ x. has x mid.keys && not (has x k'.keys)) between) c.removed;
    } in d) f.rekeyed.counts ∙ rw (none_first, none_next, none_both, moved, raised_both one next old k.counts.removed apart, together) refl;
  };
  less = λ x m. f.less x (g.less x m);
}
  where
    one : Key → Bool
    one x = has x k.keys && not (has x mid.keys)

    next : Key → Bool
    next x = has x mid.keys && not (has x k'.keys)

    meets : (n b h : Bool) → (n ≡ true → b ≡ true) → (n && ((b && (h || false)) || false)) ≡ (n && (h || false))
    meets true true true e = refl
    meets true true false e = refl
    meets true false h e = absurd (let z = e refl in cc)
    meets false b h e = refl

    first_less : (x : Key) → has x mid.keys ≡ true → has x k.keys ≡ true
    first_less x h = had (among x between) (has x k.keys) (sym (f.rekeyed.keys x) ∙ h)
      where
        had : (b h : Bool) → (b && (h || false)) ≡ true → h ≡ true
        had true true e = refl
        had true false e = cc
        had false h e = cc

    next_less : (x : Key) → has x k'.keys ≡ true → has x mid.keys ≡ true
    next_less x h = had (among x new) (has x mid.keys) (sym (g.rekeyed.keys x) ∙ h)
      where
        had : (b h : Bool) → (b && (h || false)) ≡ true → h ≡ true
        had true true e = refl
        had true false e = cc
        had false h e = cc

    gone : (a b : Bool) → (a ≡ true → b ≡ true) → (a && not b) ≡ false
    gone true true h = refl
    gone true false h = absurd (let z = h refl in cc)
    gone false b h = refl

    none_first : count_keys (λ x. has x mid.keys && not (has x k.keys)) between ≡ 0
    none_first = count_none (λ x. has x mid.keys && not (has x k.keys)) between (λ x m. gone (has x mid.keys) (has x k.keys) (first_less x))

    none_next : count_keys (λ x. has x k'.keys && not (has x mid.keys)) new ≡ 0
    none_next = count_none (λ x. has x k'.keys && not (has x mid.keys)) new (λ x m. gone (has x k'.keys) (has x mid.keys) (next_less x))

    none_both : count_keys (λ x. has x k'.keys && not (has x k.keys)) new ≡ 0
    none_both = count_none (λ x. has x k'.keys && not (has x k.keys)) new (λ x m. gone (has x k'.keys) (has x k.keys) (λ h. first_less x (next_less x h)))

    within : (m p b o : Bool) → (m ≡ true → b ≡ true) → (b ≡ true → o ≡ true) → (b && (m && p)) ≡ (o && (m && p))
    within true p true true h e = refl
    within true p true false h e = absurd (let z = e refl in cc)
    within true p false o h e = absurd (let z = h refl in cc)
    within false p b o h e = and_false b ∙ sym (and_false o)

    moved : count_keys (λ x. has x mid.keys && not (has x k'.keys)) between ≡ count_keys next old
    moved = count_alike (λ x. has x mid.keys && not (has x k'.keys)) next between old
        (λ x. within (has x mid.keys) (not (has x k'.keys)) (among x between) (among x old)
        (λ h. left_of_and (among x between) (has x k.keys || false) (sym (f.rekeyed.keys x) ∙ h)) (f.less x))

    apart : (x : Key) → among x old ≡ true → (one x && next x) ≡ false
    apart x m = never (has x k.keys) (has x mid.keys) (has x k'.keys)
      where
        never : (a b c : Bool) → ((a && not b) && (b && not c)) ≡ false
        never true true c = refl
        never true false c = refl
        never false b c = refl

    together : count_keys (λ x. one x || next x) old ≡ count_keys (λ x. has x k.keys && not (has x k'.keys)) old
    together = count_tests (λ x. one x || next x) (λ x. has x k.keys && not (has x k'.keys)) old
        (λ x m. both (has x k.keys) (has x mid.keys) (has x k'.keys) (first_less x) (next_less x))
      where
        both : (a b c : Bool) → (b ≡ true → a ≡ true) → (c ≡ true → b ≡ true) → ((a && not b) || (b && not c)) ≡ (a && not c)
        both true true c h e = refl
        both true false true h e = absurd (let z = e refl in cc)
        both true false false h e = refl
        both false true c h e = absurd (let z = h refl in cc)
        both false false c h e = refl

-- nothing was removed
pub sheds_none : (k : Content) (ks : List Key) → AreKeys k.keys ks → Sheds k k ks ks
sheds_none k ks a = record {
  rekeyed = still_rekeyed k [] ks ks a;
  less = λ x m. m;
}

-- ---- awaited keys

filter_all : (keys : List Key) → filter (λ key. not (among key [])) keys ≡ keys
filter_all [] = refl
filter_all (k ∷ ks) = ap (λ (xs : List Key). k ∷ xs) (filter_all ks)

-- where nothing has fired they are those that are named
pub awaited_named : (q : Queue) → queue_awaited [] q ≡ named q.waiting (queue_held q)
awaited_named q = filter_all (named q.waiting (queue_held q))

-- the registered keys are the awaited ones
pub keys_awaited : (held : List Key) (q : Queue) (k : Content) → KeepsQueue held q k → AreKeys k.keys (queue_awaited [] q)
keys_awaited held q k p x =
    p.keys_are x ∙ named_alike q.waiting held (queue_held q) p.held_are x ∙ ap (among x) (sym (awaited_named q))

-- ---- effects that fire nothing

-- an effect whose counts are these
pub counted_leads : (f : Rig → Rig) (q q' : Queue) (k k' : Content) → k'.state ≡ k.state → k'.counts ≡ counts_after [] (queue_awaited [] q) (queue_awaited [] q') k.counts
    → ((c : Rig) → f (rig_at q k c) ≡ rig_amid [] k.counts q' k.state c) → Leads (λ c. counted [] c (f c)) q k q' k'
counted_leads f q q' k k' s n is c =
    ap (counted [] (rig_at q k c)) (is c)
    ∙ ap (λ (m : Counts). rig_amid [] m q' k.state c) (sym n)
    ∙ ap (λ (t : State). rig_amid [] k'.counts q' t c) (sym s)

-- a call led from one queue and simulator to another
module _ (q q' : Queue) (held held' : List Key) (k k' : Content) (asked : List Key) (p : KeepsQueue held q k) (alike : AreAlike held' (queue_held q'))
    (grows : (x : Key) → among x (named q'.waiting held') ≡ true → (among x (named q.waiting held) || among x asked) ≡ true)
    (r : Rekeyed k k' asked (named q.waiting held) (named q'.waiting held')) where
  pub keeps_on : KeepsQueue held' q' k'
  keeps_on = record {
    keys_are = rekeyed_keys k k' asked (named q.waiting held) (named q'.waiting held') p.keys_are grows r;
    held_are = alike;
  }

  pub counts_on : k'.counts ≡ counts_after [] (queue_awaited [] q) (queue_awaited [] q') k.counts
  counts_on = rekeyed_counts k k' asked (named q.waiting held) (named q'.waiting held') [] (queue_awaited [] q) (queue_awaited [] q') r
      (λ x. keys_awaited held q k p x ∙ sym (and_true (among x (queue_awaited [] q)))) (keys_awaited held' q' k' keeps_on)
      (λ x m. sym (p.keys_are x) ∙ keys_awaited held q k p x ∙ m) (λ x m. sym (keeps_on.keys_are x) ∙ keys_awaited held' q' k' keeps_on x ∙ m)

  pub leads_on : (f : Rig → Rig) → ((c : Rig) → f (rig_at q k c) ≡ rig_amid [] k.counts q' k.state c) → Leads (λ c. counted [] c (f c)) q k q' k'
  leads_on f is = counted_leads f q q' k k' r.state counts_on is

  pub fits_on : (flat : Flat) (room : ℕ) → FitsQueue flat room held q k → AreSoundWrites flat.signals q'.staged → length q'.ready + length q'.waiting ≤ room
      → FitsQueue flat room held' q' k'
  fits_on flat room f w l = record {
    procs_are = r.procs ∙ f.procs_are;
    nets_are = r.nets ∙ f.nets_are;
    signals = ap (λ (s : State). widths_of s.signals) r.state ∙ f.signals;
    keys_are = keeps_on.keys_are;
    held_are = alike;
    writes = w;
    room_is = l;
  }
