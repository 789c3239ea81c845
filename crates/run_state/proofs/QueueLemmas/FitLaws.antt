-- A queue and a simulator fit, before and after calls.
use Rattle.std.proofs.Common.{◌≡◌, ◌==◌, ◌+◌, ◌≤◌, ℕ, Bool, true, false, not, if◌then◌else◌, List, [], ◌∷◌, ◌++◌, length, sym, ap, ◌∙◌, subst}
use Rattle.std.specs.Prelude.{filter, Result, Ok, Err, OnErr}
use Rattle.gpi.specs.Content.{Content}
use Rattle.gpi.specs.Keys.{has, among}
use Rattle.gpi.specs.Terms.{widths_of}
use Rattle.gpi.specs.declared.design.Flat.{Flat}
use Rattle.gpi.specs.declared.design.Signal.{Signal}
use Rattle.gpi.specs.declared.types.Key.{Key}
use Rattle.gpi.specs.declared.types.SigId.{SigId}
use Rattle.gpi.specs.declared.types.Write.{Write}
use Rattle.run_view.specs.SignalPort.Staging.{restaged}
use Rattle.run_view.specs.declared.signal_port.staged.Staged.{Staged}
use Rattle.await_tree.specs.WaitList.Keys.{AreAlike, AreKeysBut, Rekeyed}
use Rattle.await_tree.specs.WaitList.Waiting.{Waiting, keys_of, named}
use Rattle.rig_model.specs.Parts.Fits.{AreSoundWrites, FitsQueue, IsSoundWrite, KeepsQueue}
use Rattle.rig_model.specs.Parts.Queue.{Queue}
use Rattle.run_state.specs.Queue.Fits.{Fits, Keeps, Stays}
use Rattle.run_state.specs.Queue.Sheds.{Sheds}
use Rattle.run_state.specs.declared.queue.queue.RunQueue.{RunQueue}
use Rattle.run_state.proofs.QueueLemmas.KeyLaws.{named_alike, named_less}
use Rattle.run_state.proofs.QueueLemmas.Rekeys.{are_but}

-- what fits is kept
pub fits_keeps : {W : Type 0} (flat : Flat) (waiting : W → List Waiting) (held : W → List Key) (q : RunQueue W) (content : Content)
    → Fits flat waiting held q content → Keeps waiting held q content
fits_keeps flat waiting held q content f = record { keys_are = f.queue.keys_are; held_are = f.queue.held_are }

-- each named key is registered
pub keeps_but : (held : List Key) (q : Queue) (k : Content) → KeepsQueue held q k → AreKeysBut k.keys held (named q.waiting held)
keeps_but held q k p = are_but k held (named q.waiting held) p.keys_are

-- the simulator has the same keys, and the runner holds the same
pub keeps_kept : (held held' : List Key) (q : Queue) (k k' : Content) (ws : List Waiting) → ws ≡ q.waiting → AreAlike held' held
    → ((x : Key) → has x k'.keys ≡ has x k.keys) → KeepsQueue held q k → KeepsQueue held' (record q { waiting = ws }) k'
keeps_kept held held' q k k' ws e a h p = record {
  keys_are = λ x. h x ∙ p.keys_are x ∙ sym (ap (λ (vs : List Waiting). among x (named vs held')) e ∙ named_alike q.waiting held' held a x);
  held_are = λ x. a x ∙ p.held_are x;
}

-- and the rest stays
pub fits_kept : (flat : Flat) (room : ℕ) (held held' : List Key) (q : Queue) (k k' : Content) (ws : List Waiting) → ws ≡ q.waiting
    → Stays k k' → KeepsQueue held' (record q { waiting = ws }) k' → FitsQueue flat room held q k → FitsQueue flat room held' (record q { waiting = ws }) k'
fits_kept flat room held held' q k k' ws e s p f = record {
  procs_are = s.procs ∙ f.procs_are;
  nets_are = s.nets ∙ f.nets_are;
  signals = ap (λ (t : _). widths_of t.signals) s.state ∙ f.signals;
  keys_are = p.keys_are;
  held_are = p.held_are;
  writes = f.writes;
  room_is = subst (λ (vs : List Waiting). length q.ready + length vs ≤ room) (sym e) f.room_is;
}

-- ---- staged writes

sound_filter : (signals : List Signal) (test : Staged → Bool) (ws : List Staged) → AreSoundWrites signals ws → AreSoundWrites signals (filter test ws)
sound_filter signals test [] h = tt
sound_filter signals test (w ∷ ws) h = decided (test w) (sound_filter signals test ws h.1)
  where
    decided : (b : Bool) → AreSoundWrites signals (filter test ws) → AreSoundWrites signals (let r : List Staged = if b then w ∷ filter test ws else filter test ws in r)
    decided true k = (h.0, k)
    decided false k = k

sound_last : (signals : List Signal) (ws : List Staged) (w : Staged) → AreSoundWrites signals ws → IsSoundWrite signals w → AreSoundWrites signals (ws ++ w ∷ [])
sound_last signals [] w h k = (k, tt)
sound_last signals (x ∷ xs) w h k = (h.0, sound_last signals xs w h.1 k)

pub sound_restaged : (signals : List Signal) (sig : SigId) (act : Write) (ws : List Staged) → IsSoundWrite signals (record { sig = sig; act = act }) → AreSoundWrites signals ws
    → AreSoundWrites signals (restaged sig act ws)
sound_restaged signals sig act ws k h =
    sound_last signals (filter (λ (w : Staged). not (w.sig.0 == sig.0)) ws) (record { sig = sig; act = act })
    (sound_filter signals (λ (w : Staged). not (w.sig.0 == sig.0)) ws h) k

-- ---- calls that remove keys alone

pub sheds_of : (k k' : Content) (ws ws' : List Waiting) (held held' : List Key) → Rekeyed k k' [] (named ws held) (named ws' held')
    → ((x : Key) → among x (keys_of ws') ≡ true → among x (keys_of ws) ≡ true) → ((x : Key) → among x held' ≡ true → among x held ≡ true)
    → Sheds k k' (named ws held) (named ws' held')
sheds_of k k' ws ws' held held' r f g = record {
  rekeyed = r;
  less = λ x m. named_less x ws ws' held held' (f x) (g x) m;
}

-- the ring has the same room
pub fits_room : (flat : Flat) (room room' : ℕ) (held : List Key) (q : Queue) (k : Content) → room' ≡ room → FitsQueue flat room held q k → FitsQueue flat room' held q k
fits_room flat room room' held q k e f = subst (λ (n : ℕ). FitsQueue flat n held q k) (sym e) f

pub few_room : (n room room' : ℕ) → room' ≡ room → n ≤ room → n ≤ room'
few_room n room room' e l = subst (λ (m : ℕ). n ≤ m) (sym e) l

-- what holds whatever the answer is holds after an error
pub on_err : {T E P : Type 0} (r : Result T E) → P → OnErr r P
on_err (Ok x) p = tt
on_err (Err e) p = p
