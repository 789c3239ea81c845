-- A means of proof: what the parts of a call do to the registered keys, for the proofs of the keepers of waiting tasks.
use Rattle.std.specs.Prelude.{◌≡◌, ◌||◌, true, List, [], ◌++◌, if◌then◌else◌}
use Rattle.gpi.specs.Content.{Content}
use Rattle.gpi.specs.Keys.{among, has, same_key}
use Rattle.gpi.specs.declared.types.Key.{Key}
use Rattle.await_tree.specs.WaitList.Counts.{raised_times}
use Rattle.await_tree.specs.WaitList.Keys.{AreKeysBut, AreOut, Rekeyed}

-- each key of the first list is one of the second
abbrev pub AreWithin : List Key → List Key → Type 0
AreWithin xs ys = (k : Key) → among k xs ≡ true → among k ys ≡ true

-- The registered keys are among the named ones, and each named one that isn't registered has fired or is held. None of those that fired is
-- registered.
pub record Fits (content : Content) (fired held names : List Key) : Type 0 where
  pub keys : AreKeysBut content.keys (fired ++ held) names
  pub out : AreOut content.keys fired

-- Fewer keys are named: of those that were registered those are left that are named still.
pub record Narrows (before after : Content) (old new : List Key) : Type 0 where
  pub keys : Rekeyed before after [] old new
  pub within : AreWithin new old

-- One key is registered, if it wasn't.
pub record Joins (before : Content) (key : Key) (after : Content) : Type 0 where
  pub procs : after.procs ≡ before.procs
  pub nets : after.nets ≡ before.nets
  pub state : after.state ≡ before.state
  pub keys : (k : Key) → has k after.keys ≡ (same_key k key || has k before.keys)
  pub counts : after.counts ≡ record before.counts { primed = raised_times (if has key before.keys then 0 else 1) before.counts.primed }
