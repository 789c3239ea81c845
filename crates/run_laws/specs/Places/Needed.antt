-- A means of proof: which keys a configuration needs, for the laws of what runs reach.
use Rattle.std.specs.Prelude.{◌≡◌, ℕ, ◌||◌, ◌&&◌, Bool, false, List, [], Option, None, Some}
use Rattle.std.specs.List.{list_any}
use Rattle.gpi.specs.Keys.{among, same_key}
use Rattle.gpi.specs.declared.types.Key.{Key}
use Rattle.gpi.specs.declared.types.Key.TheVariants.{At, ReadWrite}
use Rattle.await_tree.specs.Fire.{awaits}
use Rattle.await_tree.specs.declared.cause.Awaited.TheVariants as awaited
use Rattle.await_tree.specs.WaitList.Waiting.{Waiting}
use Rattle.rig_model.specs.Run.Rig.{Rig, is_any}
use Rattle.rig_model.specs.Run.Rig as rig

-- a tree that waits has a leaf on the key that hasn't fired
abbrev pub has_leaf : Key → List Waiting → Bool
has_leaf key waiting = list_any (λ (w : Waiting). awaits (awaited.Key key) w.tree) waiting

-- it is this time
abbrev pub is_at : Key → Option ℕ → Bool
is_at key None = false
is_at key (Some time) = same_key key (At time)

-- the runner itself awaits the key: it is the read-write phase and a write is staged, or the time at which the test is given up or the next one begins
abbrev pub is_own : Key → Rig → Bool
is_own key c = (is_any c.staged && same_key key ReadWrite) || is_at key c.deadline || is_at key c.planned

-- a tree that waits has a leaf on the key that hasn't fired, or the runner itself awaits it
abbrev pub is_needed : Key → Rig → Bool
is_needed key c = has_leaf key c.waiting || is_own key c

-- No key that fired is left to be served, and the awaited keys are those that are needed.
pub record AwaitsNeeded (c : Rig) : Type 0 where
  pub served : c.fired ≡ []
  pub needed : (key : Key) → among key (rig.awaited c) ≡ is_needed key c
