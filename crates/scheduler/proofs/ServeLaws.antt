-- Keys that fired are served, while others may be left to be.
use Rattle.std.proofs.Common.{◌≡◌, ℕ, ◌+◌, ◌≤◌, ◌||◌, ◌&&◌, Bool, true, false, not, List, [], ◌∷◌, ◌++◌, length, refl, sym, ap, ◌∙◌, arith, length-append, append_assoc, append-nil}
use Rattle.gpi.specs.Content.{Content}
use Rattle.gpi.specs.Keys.{has, among, raised, raised_by}
use Rattle.gpi.specs.declared.types.Counts.{Counts}
use Rattle.gpi.specs.declared.types.Key.{Key}
use Rattle.await_tree.specs.declared.cause.Cause.TheVariants as cause
use Rattle.await_tree.specs.WaitList.Keys.{AreAlike, AreKeys, Rekeyed, without_all}
use Rattle.await_tree.specs.WaitList.Waiting.{Waiting, all_waiting, all_woken, keys_of, named, still_waiting, woken}
use Rattle.await_tree.specs.declared.wait_list.ready.Entry.{Entry}
use Rattle.rig_model.specs.Run.Serve.{serve_keys, wake}
use Rattle.rig_model.specs.Run.Rig.{Rig}
use Rattle.rig_model.specs.Parts.Fits.{ahead}
use Rattle.rig_model.specs.Parts.Queue.{Queue, queue_awaited, queue_held}
use Rattle.run_state.proofs.QueueLemmas.KeyLaws.{among-filter, among_named, among_without_all}
use Rattle.run_state.proofs.QueueLemmas.StillLaws.{served_count}
use Rattle.run_state.proofs.QueueLemmas.Tests.{and_false, and_true, or_false, or_true}
use Rattle.run_state.proofs.QueueLemmas.WaitLaws.{still_within}

-- ---- tests

-- both are true
pub both_true : (a b : Bool) → (a && b) ≡ true → (a ≡ true) × (b ≡ true)
both_true true b h = (refl, h)
both_true false b h = cc

pub not_true : (b : Bool) → not b ≡ true → b ≡ false
not_true true h = cc
not_true false h = refl

-- A key is registered once these keys are served exactly where it is awaited then. Told of one key: a task waits for it before, and after; the runner holds
-- it; the queue says so; it is served; it is one of the others.
same_held : (w w' h : Bool) → (w' ≡ true → w ≡ true) → ((w' || h) && (w || h)) ≡ (w' || h)
same_held w true h within = rw (within refl) refl
same_held w false true within = or_true w
same_held w false false within = refl

serve_key : (w w' h qh g o : Bool) → (w' ≡ true → w ≡ true) → (o ≡ false → g ≡ false → h ≡ qh) → (g ≡ true → qh ≡ false) → (g ≡ true → o ≡ false)
    → ((w' || (h && not g)) && ((((w || qh) && not o) && not g) || g)) ≡ ((w' || qh) && not o)
serve_key w w' h qh true true within same free apart = absurd (let z : true ≡ false = apart refl in cc)
serve_key w w' h qh false true within same free apart = simp (and_false, and_true, or_false)
serve_key w w' h qh true false within same free apart = rw (free refl) (simp (and_false, and_true, or_false, or_true))
serve_key w w' h qh false false within same free apart = rw (same refl refl) (simp (and_true, or_false) (same_held w w' qh within))

-- an awaited key was named
named_key : (w h qh g o : Bool) → (o ≡ false → g ≡ false → h ≡ qh) → (g ≡ true → qh ≡ false) → ((w || qh) && not o) ≡ true → (w || h) ≡ true
named_key true h qh g o same free m = refl
named_key false h qh true o same free m = absurd (let z : qh ≡ true = (both_true qh (not o) m).0 in let y : qh ≡ false = free refl in cc)
named_key false h qh false o same free m =
    let p : (qh ≡ true) × (not o ≡ true) = both_true qh (not o) m in
    same (not_true o p.1) refl ∙ p.0

-- an awaited key is named
named_then : (w' h qh g o : Bool) → (o ≡ false → g ≡ false → h ≡ qh) → (g ≡ true → qh ≡ false) → ((w' || qh) && not o) ≡ true → (w' || (h && not g)) ≡ true
named_then true h qh g o same free m = refl
named_then false h qh true o same free m = absurd (let z : qh ≡ true = (both_true qh (not o) m).0 in let y : qh ≡ false = free refl in cc)
named_then false h qh false o same free m =
    let p : (qh ≡ true) × (not o ≡ true) = both_true qh (not o) m in
    and_true h ∙ same (not_true o p.1) refl ∙ p.0

-- ---- awaited keys

-- a key is awaited where it is named and hasn't fired
pub among_awaited : (x : Key) (fired : List Key) (q : Queue) → among x (queue_awaited fired q) ≡ ((among x (keys_of q.waiting) || among x (queue_held q)) && not (among x fired))
among_awaited x fired q =
    among-filter x fired (named q.waiting (queue_held q)) ∙ ap (λ (b : Bool). b && not (among x fired)) (among_named x q.waiting (queue_held q))

-- ---- keys are served in order

-- what serving keys leaves
pub serve_keys_is : (ks others : List Key) (c : Rig)
    → serve_keys ks others c ≡ record c { fired = others; waiting = all_waiting ks c.waiting; ready = c.ready ++ all_woken ks c.waiting }
serve_keys_is [] others c = sym (ap (λ (r : List Entry). record c { fired = others; ready = r }) (append-nil c.ready))
serve_keys_is (k ∷ ks) others c =
    serve_keys_is ks others (record (wake (cause.Key k) c) { fired = others ++ ks })
    ∙ ap (λ (r : List Entry). record c { fired = others; waiting = all_waiting (k ∷ ks) c.waiting; ready = r }) (append_assoc c.ready (woken (cause.Key k) c.waiting) (all_woken ks (still_waiting (cause.Key k) c.waiting)))

-- what is awaited then was awaited before
pub all_within : (ks : List Key) (ws : List Waiting) (x : Key) → among x (keys_of (all_waiting ks ws)) ≡ true → among x (keys_of ws) ≡ true
all_within [] ws x h = h
all_within (k ∷ ks) ws x h = still_within (cause.Key k) ws x (all_within ks (still_waiting (cause.Key k) ws) x h)

-- there is room for whom the keys wake
pub all_fit : (ks : List Key) (ws ws' : List Waiting) (ready ready' : List Entry) (room : ℕ) → ws' ≡ all_waiting ks ws → ready' ≡ ready ++ all_woken ks ws → length ready + length ws ≤ room
    → length ready' + length ws' ≤ room
all_fit ks ws ws' ready ready' room w r h =
    let all : length (all_woken ks ws) + length (all_waiting ks ws) ≡ length ws = served_count ks ws in
    let left : length ws' ≡ length (all_waiting ks ws) = ap length w in
    let back : length ready' ≡ length ready + length (all_woken ks ws) = ap length r ∙ length-append ready (all_woken ks ws) in
    omega arith

-- ---- counts of fired keys

raised_later : (fired : List Key) (n : ℕ) → raised_by fired (raised n) ≡ raised (raised_by fired n)
raised_later [] n = refl
raised_later (k ∷ ks) n = raised_later ks (raised n)

-- the order in which keys are counted as fired doesn't matter
raised_both : (xs ys : List Key) (n : ℕ) → raised_by xs (raised_by ys n) ≡ raised_by ys (raised_by xs n)
raised_both [] ys n = refl
raised_both (x ∷ xs) ys n = ap (raised_by xs) (sym (raised_later ys n)) ∙ raised_both xs ys (raised n)

pub ahead_both : (xs ys : List Key) (c : Counts) → ahead xs (ahead ys c) ≡ ahead ys (ahead xs c)
ahead_both xs ys c = ap (λ (n : ℕ). let r : Counts = record c { fired = n } in r) (raised_both xs ys c.fired)

-- ---- the keys and the counts that serving leaves

-- These keys, which fired and aren't registered any more, are served, while the others are still to be. Of a key that is neither served nor one of the
-- others the runner holds what the queue says; the queue holds none of the served keys, and none of these is one of the others.
module _ (k k' : Content) (served others held held' : List Key) (q q' : Queue)
    (waiting_is : q'.waiting ≡ all_waiting served q.waiting) (same : queue_held q' ≡ queue_held q) (held_is : AreAlike held' (without_all served held))
    (before : (x : Key) → has x k.keys ≡ (among x (queue_awaited others q) && not (among x served)))
    (held_are : (x : Key) → among x others ≡ false → among x served ≡ false → among x held ≡ among x (queue_held q))
    (free : (x : Key) → among x served ≡ true → among x (queue_held q) ≡ false) (apart : (x : Key) → among x served ≡ true → among x others ≡ false)
    (r : Rekeyed k k' served (named q.waiting held) (named q'.waiting held')) where
  within : (x : Key) → among x (keys_of q'.waiting) ≡ true → among x (keys_of q.waiting) ≡ true
  within x m = all_within served q.waiting x (ap (λ (ws : List Waiting). among x (keys_of ws)) (sym waiting_is) ∙ m)

  -- what is named then
  new_is : (x : Key) → among x (named q'.waiting held') ≡ (among x (keys_of q'.waiting) || (among x held && not (among x served)))
  new_is x = among_named x q'.waiting held' ∙ ap (λ (b : Bool). among x (keys_of q'.waiting) || b) (held_is x ∙ among_without_all x served held)

  -- what is awaited then
  awaited_is : (x : Key) → among x (queue_awaited others q') ≡ ((among x (keys_of q'.waiting) || among x (queue_held q)) && not (among x others))
  awaited_is x = among_awaited x others q' ∙ ap (λ (ks : List Key). (among x (keys_of q'.waiting) || among x ks) && not (among x others)) same

  pub served_keys : AreKeys k'.keys (queue_awaited others q')
  served_keys x =
      r.keys x
      ∙ ap (λ (b : Bool). b && (has x k.keys || among x served)) (new_is x)
      ∙ ap (λ (b : Bool). (among x (keys_of q'.waiting) || (among x held && not (among x served))) && (b || among x served))
      (before x ∙ ap (λ (b : Bool). b && not (among x served)) (among_awaited x others q))
      ∙ serve_key (among x (keys_of q.waiting)) (among x (keys_of q'.waiting)) (among x held) (among x (queue_held q)) (among x served) (among x others) (within x) (held_are x) (free x) (apart x)
      ∙ sym (awaited_is x)

  -- those that were awaited before and hadn't fired were named, and those that are awaited then are
  pub were_named : (x : Key) → among x (queue_awaited others q) ≡ true → among x (named q.waiting held) ≡ true
  were_named x m =
      among_named x q.waiting held
      ∙ named_key (among x (keys_of q.waiting)) (among x held) (among x (queue_held q)) (among x served) (among x others) (held_are x) (free x) (sym (among_awaited x others q) ∙ m)

  pub are_named : (x : Key) → among x (queue_awaited others q') ≡ true → among x (named q'.waiting held') ≡ true
  are_named x m =
      new_is x
      ∙ named_then (among x (keys_of q'.waiting)) (among x held) (among x (queue_held q)) (among x served) (among x others) (held_are x) (free x) (sym (awaited_is x) ∙ m)
