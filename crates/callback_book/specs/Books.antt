-- A means of proof: the keys and the counts that a book holds, and what firing keys leaves of them.
use Rattle.std.specs.Prelude.{◌≡◌, ℕ, ◌<◌, ◌==◌, Bool, false, List, [], ◌∷◌, Option, None, Some, slice_index_or, length, if◌then◌else◌}
use Rattle.gpi.specs.declared.types.Key.{Key}
use Rattle.gpi.specs.declared.types.Key.TheVariants.{At, Rise, Fall, Change, ReadWrite, ReadOnly, NextStep}
use Rattle.gpi.specs.declared.types.Report.{Report}
use Rattle.gpi.specs.declared.types.Counts.{Counts}
use Rattle.four_value.specs.Vector.{digit_at}
use Rattle.gpi.specs.Keys.{Keys, IsWithout, raised_by}
use Rattle.gpi.specs.Events.{level_keys}
use Rattle.kernel_base.specs.TimeSets.{IsWithTime, IsWithoutTime}
use Rattle.callback_book.specs.declared.book.Watch.{Watch}
use Rattle.callback_book.specs.declared.book.Book.{Book}

abbrev pub no_watch : Watch
no_watch = record { rise = false; fall = false; change = false }

-- a test of the keys that are no times
abbrev pub flag : List Watch → Bool → Bool → Bool → Key → Bool
flag ws read_write read_only next_step (At t) = false
flag ws read_write read_only next_step (Rise s) = (slice_index_or ws s.0 no_watch).rise
flag ws read_write read_only next_step (Fall s) = (slice_index_or ws s.0 no_watch).fall
flag ws read_write read_only next_step (Change s) = (slice_index_or ws s.0 no_watch).change
flag ws read_write read_only next_step ReadWrite = read_write
flag ws read_write read_only next_step ReadOnly = read_only
flag ws read_write read_only next_step NextStep = next_step

-- which keys other than times are registered
abbrev pub flag_of : Book → Key → Bool
flag_of b = flag b.watches.items b.read_write b.read_only b.next_step

-- the registered keys, where these times are registered
abbrev pub keys_with : List ℕ → Book → Keys
keys_with ts b = record { times = ts; others = flag b.watches.items b.read_write b.read_only b.next_step }

abbrev pub counts_of : Book → Counts
counts_of b = b.counts

-- of how many signals it holds keys
abbrev pub signals_of : Book → ℕ
signals_of b = length b.watches.items

-- a key's signal is one of the n
abbrev pub IsPlaced : ℕ → Key → Type 0
IsPlaced n (Rise s) = s.0 < n
IsPlaced n (Fall s) = s.0 < n
IsPlaced n (Change s) = s.0 < n
IsPlaced n _ = Unit {0}

-- what becomes of the times where a key is registered, and where it is taken away
abbrev pub AddsTime : Key → List ℕ → List ℕ → Type 0
AddsTime (At t) before after = IsWithTime t before after
AddsTime _ before after = after ≡ before

abbrev pub DropsTime : Key → List ℕ → List ℕ → Type 0
DropsTime (At t) before after = IsWithoutTime t before after
DropsTime _ before after = after ≡ before

abbrev pub option_list : Option Key → List Key
option_list None = []
option_list (Some k) = k ∷ []

-- the key, if it is registered
abbrev pub if_flag : Key → Book → List Key
if_flag k b = if flag_of b k then k ∷ [] else []

-- the time, if it is registered
abbrev pub if_there : Bool → ℕ → List Key
if_there there t = if there then At t ∷ [] else []

-- the keys of a change other than Change
abbrev pub level_part : Report → Keys → List Key
level_part c keys = if length c.after == 1 then level_keys c.sig (digit_at c.after 0) keys else []

-- the keys are fired, where these times are registered before and those after
pub record Fires (fired : List Key) (times_before : List ℕ) (before : Book) (times_after : List ℕ) (after : Book) : Type 0 where
  pub keys : IsWithout fired (keys_with times_before before) (keys_with times_after after)
  pub counts : counts_of after ≡ record (counts_of before) { fired = raised_by fired (counts_of before).fired }
  pub signals : signals_of after ≡ signals_of before
