-- A means of proof: the signals of a design with a table of how far the width of each stretches.
use Rattle.std.specs.Prelude.{◌≡◌, ℕ, ◌+◌, ◌<◌, ◌≤◌, IsTrue, List, length, slice_index}
use Rattle.gpi.specs.declared.stretches.WidthTable.{WidthTable}
use Rattle.gpi.specs.Design.{widths}
use Rattle.gpi.specs.Limits.{most_elements}
use Rattle.gpi.specs.Soundness.{are_wide}

-- from signal s on, n signals have one width, and the next, if there is one, has another; ws are the widths
pub record IsStretch (n s : ℕ) (ws : List ℕ) : Type 0 where
  pub some : 0 < n
  pub inside : s + n ≤ length ws
  pub same : (t : ℕ) → s ≤ t → t < s + n → slice_index ws t ≡ slice_index ws s
  pub ends : s + n < length ws → slice_index ws (s + n) ≡ slice_index ws s → ⊥

-- the table tells the stretch of each signal from k on; it may be longer than the list of signals
pub record AreStretchesFrom (k : ℕ) (stretches ws : List ℕ) : Type 0 where
  pub count : length ws ≤ length stretches
  pub each : (s : ℕ) → k ≤ s → s < length ws → IsStretch (slice_index stretches s) s ws

-- the table tells the stretch of each signal
abbrev pub AreStretches : List ℕ → List ℕ → Type 0
AreStretches stretches ws = AreStretchesFrom 0 stretches ws

-- there aren't too many signals, each has a width of 1 to 128, and the table tells their stretches
pub record IsWidthTable (table : WidthTable) : Type 0 where
  pub wide : IsTrue (are_wide table.signals.now)
  pub few : length table.signals.now ≤ most_elements
  pub stretches : AreStretches table.stretches.now (widths table.signals.now)
