-- Updates with a delay: those that fit their signals, and one after the other.
use Rattle.std.proofs.Common.{◌≡◌, ℕ, ◌+◌, ◌<◌, ◌==◌, ◌&&◌, nat_lt, nat_le, not, Bool, true, false, List, [], ◌∷◌, ◌++◌, length, drop, get_or, refl, if◌then◌else◌, append_assoc}
use Rattle.std.proofs.lemmas.List.{drop_more}
use Rattle.std.specs.List.{filter}
use Rattle.gpi.specs.declared.types.Update.{Update}
use Rattle.gpi.specs.declared.types.Delayed.{Delayed}
use Rattle.gpi.specs.Limits.{latest_update}
use Rattle.gpi.specs.Targets.{IsFitting, AreFitting}
use Rattle.gpi.specs.State.{at_once, with_delayed, delaying, all_delaying, arriving, waiting_on}
use Rattle.kernel_base.specs.Lists.{updates_in}

-- ---- updates that fit

pub fitting_both : (us vs : List Update) (ws : List ℕ) → AreFitting us ws → AreFitting vs ws → AreFitting (us ++ vs) ws
fitting_both [] vs ws h k = k
fitting_both (u ∷ us) vs ws h k = (h.0, fitting_both us vs ws h.1 k)

fitting_choice : (t : Bool) (us vs : List Update) (ws : List ℕ) → AreFitting us ws → AreFitting vs ws → AreFitting (if t then us else vs) ws
fitting_choice true us vs ws h k = h
fitting_choice false us vs ws h k = k

pub fitting_at_once : (us : List Update) (ws : List ℕ) → AreFitting us ws → AreFitting (at_once us) ws
fitting_at_once [] ws h = tt
fitting_at_once (u ∷ us) ws h = let k = fitting_at_once us ws h.1 in fitting_choice (u.delay == 0) (u ∷ at_once us) (at_once us) ws (h.0, k) k

delayed_choice : (t : Bool) (ds es : List Delayed) (ws : List ℕ) → AreFitting (updates_in ds) ws → AreFitting (updates_in es) ws → AreFitting (updates_in (if t then ds else es)) ws
delayed_choice true ds es ws h k = h
delayed_choice false ds es ws h k = k

fitting_with : (d : Delayed) (ds : List Delayed) (ws : List ℕ) → IsFitting d.update ws → AreFitting (updates_in ds) ws → AreFitting (updates_in (with_delayed d ds)) ws
fitting_with d [] ws i h = (i, tt)
fitting_with d (e ∷ es) ws i h =
    delayed_choice (nat_le e.time d.time) (e ∷ with_delayed d es) (d ∷ e ∷ es) ws (h.0, fitting_with d es ws i h.1) (i, h)

fitting_delaying : (now : ℕ) (u : Update) (ds : List Delayed) (ws : List ℕ) → IsFitting u ws → AreFitting (updates_in ds) ws → AreFitting (updates_in (delaying now u ds)) ws
fitting_delaying now u ds ws i h =
    delayed_choice (nat_lt 0 u.delay && nat_le (now + u.delay) latest_update) (with_delayed (record { time = now + u.delay; update = u }) ds) ds ws
    (fitting_with (record { time = now + u.delay; update = u }) ds ws i h) h

pub fitting_all_delaying : (now : ℕ) (us : List Update) (ds : List Delayed) (ws : List ℕ) → AreFitting us ws → AreFitting (updates_in ds) ws → AreFitting (updates_in (all_delaying now us ds)) ws
fitting_all_delaying now [] ds ws h k = k
fitting_all_delaying now (u ∷ us) ds ws h k = fitting_all_delaying now us (delaying now u ds) ws h.1 (fitting_delaying now u ds ws h.0 k)

pub fitting_arriving : (t : ℕ) (ds : List Delayed) (ws : List ℕ) → AreFitting (updates_in ds) ws → AreFitting (arriving t ds) ws
fitting_arriving t [] ws h = tt
fitting_arriving t (d ∷ ds) ws h =
    let k = fitting_arriving t ds ws h.1 in
    delayed_choice (d.time == t) (d ∷ filter (λ e. e.time == t) ds) (filter (λ e. e.time == t) ds) ws (h.0, k) k

pub fitting_waiting : (t : ℕ) (ds : List Delayed) (ws : List ℕ) → AreFitting (updates_in ds) ws → AreFitting (updates_in (waiting_on t ds)) ws
fitting_waiting t [] ws h = tt
fitting_waiting t (d ∷ ds) ws h =
    let k = fitting_waiting t ds ws h.1 in
    delayed_choice (not (d.time == t)) (d ∷ waiting_on t ds) (waiting_on t ds) ws (h.0, k) k

-- ---- the updates of an activation, one after the other

choice_split : (t : Bool) (u : Update) (us : List Update) → (if t then u ∷ us else us) ≡ (if t then u ∷ [] else []) ++ us
choice_split true u us = refl
choice_split false u us = refl

at_once_split : (u : Update) (us : List Update) → at_once (u ∷ us) ≡ at_once (u ∷ []) ++ at_once us
at_once_split u us = choice_split (u.delay == 0) u (at_once us)

pub at_once_more : (us : List Update) (n : ℕ) (u : Update) (front : List Update) → n < length us → u ≡ get_or us n u
    → (front ++ at_once (u ∷ [])) ++ at_once (drop (n + 1) us) ≡ front ++ at_once (drop n us)
at_once_more us n u front h e = rw (drop_more us n u h, ← e, at_once_split u (drop (n + 1) us), append_assoc) refl

pub delaying_more : (now : ℕ) (us : List Update) (n : ℕ) (u : Update) (ds : List Delayed) → n < length us → u ≡ get_or us n u
    → all_delaying now (drop (n + 1) us) (delaying now u ds) ≡ all_delaying now (drop n us) ds
delaying_more now us n u ds h e = rw (drop_more us n u h, ← e) refl
