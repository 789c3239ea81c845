-- Selects from vectors and memories (IEEE 1364-2005, clauses 5.2.1 and 5.2.2).
use Rattle.std.specs.Prelude.{ℕ, ◌+◌, ◌-◌, ◌≤◌, ◌&&◌, List, ◌++◌, length, min, max, Option, None, Some, nat_lt, nat_le, if◌then◌else◌}
use Rattle.four_value.specs.declared.Digit.{Digit}
use Rattle.four_value.specs.Vector.{all_x, slice}
use Rattle.gpi.specs.declared.selects.Order.{Order}
use Rattle.gpi.specs.declared.selects.Order.TheVariants.{Falling, Rising}
use Rattle.gpi.specs.declared.selects.Range.{Range}
use Rattle.gpi.specs.declared.selects.Words.{Words}
use Rattle.gpi.specs.declared.selects.Overlap.{Overlap}

-- the indices of the select that the range has run from first up to, and without, end; low and top bound the range's
-- indices, base and last those of the select. The lowest digit of either is that of its least index where indices fall,
-- and that of its greatest where they rise.
abbrev pub laid : Order → ℕ → ℕ → ℕ → ℕ → ℕ → ℕ → Overlap
laid Falling low top base last first end = record { place = first - low; skip = first - base; count = end - first }
laid Rising low top base last first end = record { place = top - end; skip = last - end; count = end - first }

abbrev pub overlap_between : Order → ℕ → ℕ → ℕ → ℕ → Option Overlap
overlap_between order low top base last =
    if nat_lt (max low base) (min top last) then Some (laid order low top base last (max low base) (min top last)) else None

-- the part of the indices base, base + 1, .., as many as width, that a vector of whole digits with this range has
abbrev pub overlap_of : Range → ℕ → Option ℕ → ℕ → Option Overlap
overlap_of r whole None width = None
overlap_of r whole (Some base) width = overlap_between r.order r.low (r.low + whole) base (base + width)

-- it has a digit, and lies in the vector and in the select
pub record IsInside (whole width : ℕ) (o : Overlap) : Type 0 where
  pub some : 1 ≤ o.count
  pub vector : o.place + o.count ≤ whole
  pub select : o.skip + o.count ≤ width

-- width digits: these from the place skip on, and x elsewhere
abbrev pub shown : List Digit → ℕ → ℕ → List Digit
shown ds skip width = (all_x skip ++ ds) ++ all_x (width - (skip + length ds))

abbrev pub shown_of : List Digit → Option Overlap → ℕ → List Digit
shown_of xs None width = all_x width
shown_of xs (Some o) width = shown (slice xs o.place o.count) o.skip width

-- the digits of the indices base, base + 1, .., as many as width
abbrev pub selected : List Digit → Range → Option ℕ → ℕ → List Digit
selected xs r base width = shown_of xs (overlap_of r (length xs) base width) width

-- the signal of a memory's word
abbrev pub word_at : Words → Option ℕ → Option ℕ
word_at ws None = None
word_at ws (Some i) = if nat_le ws.low i && nat_lt i (ws.low + ws.count) then Some (ws.first.0 + (i - ws.low)) else None
