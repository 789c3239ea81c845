-- How many keys are registered and removed.
use Rattle.std.specs.Prelude.{ℕ, zero, suc, Bool, not, ◌&&◌, ◌||◌, List, [], ◌∷◌, if◌then◌else◌}
use Rattle.gpi.specs.declared.types.Counts.{Counts}
use Rattle.gpi.specs.declared.types.Key.{Key}
use Rattle.gpi.specs.Keys.{among, raised, raised_by}

-- how many different keys of a list pass a test
abbrev pub count_keys : (Key → Bool) → List Key → ℕ
count_keys test [] = 0
count_keys test (k ∷ ks) = if test k && not (among k ks) then suc (count_keys test ks) else count_keys test ks

-- a count of 64 bits that is raised so often, which stays at its top
abbrev pub raised_times : ℕ → ℕ → ℕ
raised_times zero count = count
raised_times (suc times) count = raised_times times (raised count)

-- ---- effects that lead from one list of awaited keys to another

-- the keys that leave the list unfired
abbrev pub removed_keys : List Key → List Key → List Key → ℕ
removed_keys fired before after = count_keys (λ k. not (among k after || among k fired)) before

-- the keys that enter the list, or were fired and are in it again
abbrev pub primed_keys : List Key → List Key → List Key → ℕ
primed_keys fired before after = count_keys (λ k. not (among k before) || among k fired) after

-- an effect that fired these keys
abbrev pub counts_after : List Key → List Key → List Key → Counts → Counts
counts_after fired before after counts = record {
  primed = raised_times (primed_keys fired before after) counts.primed;
  removed = raised_times (removed_keys fired before after) counts.removed;
  fired = raised_by fired counts.fired;
}
