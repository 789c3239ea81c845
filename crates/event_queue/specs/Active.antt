-- A means of proof: the active processes, and when a ring with flags holds them.
use Rattle.std.specs.Prelude.{◌≡◌, ℕ, ◌<◌, ◌≤◌, Bool, false, List, length, slice_index_or}
use Rattle.gpi.specs.Keys.{holds}
use Rattle.kernel_base.specs.Lists.{AreBelow, AreDistinct}

-- the active processes, and how many processes there are
pub record Active : Type 0 where
  pub list : List ℕ
  pub count : ℕ

-- the flag of a process says whether it is in the list; each is there at most once; there is room for all
pub record IsRing (list : List ℕ) (flags : List Bool) (capacity : ℕ) : Type 0 where
  pub flag : (p : ℕ) → p < length flags → slice_index_or flags p false ≡ holds p list
  pub distinct : AreDistinct list
  pub below : AreBelow (length flags) list
  pub room : length flags ≤ capacity
