-- What a configuration of a queue and a simulator is, and which keys are registered where the two fit.
use Rattle.std.proofs.Common.{◌≡◌, ℕ, ◌||◌, Bool, true, false, not, List, [], ◌∷◌, ◌++◌, Option, Some, refl, ap, sym, ◌∙◌, eq-eqb}
use Rattle.std.specs.Prelude.{filter}
use Rattle.gpi.specs.Content.{Content}
use Rattle.gpi.specs.Keys.{among, has, same_key}
use Rattle.gpi.specs.State.{State}
use Rattle.gpi.specs.declared.types.Counts.{Counts}
use Rattle.gpi.specs.declared.types.Key.{Key}
use Rattle.gpi.specs.declared.types.Key.TheVariants.{At, ReadWrite}
use Rattle.await_tree.specs.WaitList.Keys.{AreKeys}
use Rattle.await_tree.specs.WaitList.Waiting.{keys_of, named, phase_key, time_key}
use Rattle.rig_model.specs.Run.Rig.{Rig, Setup, is_any}
use Rattle.rig_model.specs.Parts.Fits.{FitsQueue, StandsFor}
use Rattle.rig_model.specs.Parts.Queue.{Leads, Queue, queue_held, rig_amid, rig_at}
use Rattle.rig_model.specs.Parts.Made.{HasOwnKeys, IsMadeOf}

pub made_of : (fired : List Key) (counts : Counts) (q : Queue) (sim : State) (c : Rig) → IsMadeOf fired counts q sim c (rig_amid fired counts q sim c)
made_of fired counts q sim c = record {
  queue_is = refl;
  sim_is = refl;
  fired_are = refl;
  counts_are = refl;
  tasks = refl;
  endings = refl;
  running = refl;
  objects = refl;
  queues = refl;
  random = refl;
  outcome = refl;
}

pub leads_on : (first second : Rig → Rig) (q : Queue) (k : Content) (q' : Queue) (k' : Content) (q'' : Queue) (k'' : Content)
    → Leads first q k q' k' → Leads second q' k' q'' k'' → Leads (λ c. second (first c)) q k q'' k''
leads_on first second q k q' k' q'' k'' f g c = ap second (f c) ∙ g c

-- ---- keys

-- the same keys behind others
same_behind : (k : Key) (front xs ys : List Key) → among k xs ≡ among k ys → among k (front ++ xs) ≡ among k (front ++ ys)
same_behind k [] xs ys h = h
same_behind k (x ∷ front) xs ys h = ap (λ (b : Bool). same_key k x || b) (same_behind k front xs ys h)

-- a key of a list stands behind others too
there_behind : (k : Key) (front xs : List Key) → among k xs ≡ true → among k (front ++ xs) ≡ true
there_behind k [] xs h = h
there_behind k (x ∷ front) xs h = or_true (same_key k x) (among k (front ++ xs)) (there_behind k front xs h)
  where
    or_true : (a b : Bool) → b ≡ true → (a || b) ≡ true
    or_true true b e = refl
    or_true false b e = e

-- and before others
there_before : (k : Key) (xs back : List Key) → among k xs ≡ true → among k (xs ++ back) ≡ true
there_before k [] back h = cc
there_before k (x ∷ xs) back h = decided (same_key k x) h (there_before k xs back)
  where
    decided : (b : Bool) → (b || among k xs) ≡ true → (among k xs ≡ true → among k (xs ++ back) ≡ true) → (b || among k (xs ++ back)) ≡ true
    decided true m more = refl
    decided false m more = more m

-- none is left out
all_stay : (ks : List Key) → filter (λ (key : Key). not (among key [])) ks ≡ ks
all_stay [] = refl
all_stay (k ∷ ks) = ap (λ (xs : List Key). k ∷ xs) (all_stay ks)

module _ (setup : Setup) (room : ℕ) (held : List Key) (q : Queue) (content : Content) (fits : FitsQueue setup.flat room held q content) where
  -- the named keys are those of the waiting tasks and of the queue itself
  named_are : AreKeys content.keys (named q.waiting (queue_held q))
  named_are k = fits.keys_are k ∙ same_behind k (keys_of q.waiting) held (queue_held q) (fits.held_are k)

  pub stands : (c : Rig) → StandsFor setup content (rig_at q content c)
  stands c = record {
    procs_are = fits.procs_are;
    nets_are = fits.nets_are;
    state_is = refl;
    keys_are = λ k. named_are k ∙ sym (ap (among k) (all_stay (named q.waiting (queue_held q))));
    counts_are = refl;
  }

  own_there : (k : Key) → among k (queue_held q) ≡ true → has k content.keys ≡ true
  own_there k h = named_are k ∙ there_behind k (keys_of q.waiting) (queue_held q) h

  time_there : (time : ℕ) (due : Option ℕ) → due ≡ Some time → among (At time) (time_key due) ≡ true
  time_there time due h = rw (h, eq-eqb time time refl) refl

  pub own_keys : HasOwnKeys q content.keys
  own_keys = record {
    phase = λ h. own_there ReadWrite (rw h refl);
    deadline = λ time h.
        own_there (At time)
        (there_before (At time) (phase_key (is_any q.staged) ++ time_key q.deadline) (time_key q.planned)
        (there_behind (At time) (phase_key (is_any q.staged)) (time_key q.deadline) (time_there time q.deadline h)));
    planned = λ time h.
        own_there (At time) (there_behind (At time) (phase_key (is_any q.staged) ++ time_key q.deadline) (time_key q.planned) (time_there time q.planned h));
  }
