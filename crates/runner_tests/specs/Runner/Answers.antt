-- A means of proof: what is asked of a row, and what the answer shows, for the test program of runs.
use Rattle.std.specs.Prelude.{◌≡◌, ◌≢◌, ℕ, List, ◌++◌, Option, None, Some, codes, if◌then◌else◌}
use Rattle.std.specs.Str.{bytes_eq}
use Rattle.gpi.specs.Content.{Content}
use Rattle.table_rows.specs.Rows.{part_at, written}
use Rattle.table_rows.specs.Shown.{latin}
use Rattle.runner_tests.specs.declared.runner.answer.Asked.{Asked}
use Rattle.runner_tests.specs.declared.runner.answer.Asked.TheVariants as asked
use Rattle.runner_tests.specs.Runner.Commands.{ShowsCommand, ShowsKept, ShowsLong}
use Rattle.runner_tests.specs.Runner.Designs.{ShowsDesign}
use Rattle.runner_tests.specs.Runner.Tests.{ShowsTests}
use Rattle.runner_tests.specs.Runner.Turns.{ShowsTurns}

-- what a word asks, if anything
abbrev pub asked_by : List ℕ → Option Asked
asked_by word =
    if bytes_eq word (codes "command") then Some asked.Command
    else (if bytes_eq word (codes "kept") then Some asked.Kept
    else (if bytes_eq word (codes "long") then Some asked.Long
    else (if bytes_eq word (codes "design") then Some asked.Design
    else (if bytes_eq word (codes "tests") then Some asked.Tests
    else (if bytes_eq word (codes "turns") then Some asked.Turns else None)))))

-- What is shown of a row. The simulator of the `kept` rows was the first one and is the second one then.
abbrev pub ShowsAsked : {K : Type 0} → (K → Content) → (K → Type 0) → Asked → List ℕ → K → K → List ℕ → Type 0
ShowsAsked content loaded asked.Command row before after text = ShowsCommand row text
ShowsAsked content loaded asked.Kept row before after text = ShowsKept content loaded row before after text
ShowsAsked content loaded asked.Long row before after text = ShowsLong row text
ShowsAsked content loaded asked.Design row before after text = ShowsDesign (written (part_at 2 row)) text
ShowsAsked content loaded asked.Tests row before after text = ShowsTests (written (part_at 2 row)) text
ShowsAsked content loaded asked.Turns row before after text = ShowsTurns (written (part_at 2 row)) (written (part_at 3 row)) text

-- A row whose word asks nothing shows that it doesn't.
abbrev pub ShowsWord : {K : Type 0} → (K → Content) → (K → Type 0) → Option Asked → List ℕ → K → K → List ℕ → Type 0
ShowsWord content loaded None row before after text = text ≡ codes "not asked"
ShowsWord content loaded (Some a) row before after text = ShowsAsked content loaded a row before after text

-- Unless a row is a `kept` one, the simulator of these is as it was.
abbrev pub LeavesKept : {K : Type 0} → Option Asked → K → K → Type 0
LeavesKept a before after = a ≢ Some asked.Kept → after ≡ before

-- A row's rule, and what is shown of it. The row is parted by tabs: what is asked, the rule and what is given.
pub record ShowsRow {K : Type 0} (content : K → Content) (loaded : K → Type 0) (row : List ℕ) (before after : K) (out : List ℕ) : Type 0 where
  pub shown : List ℕ
  pub is_shown : ShowsWord content loaded (asked_by (part_at 0 row)) row before after shown
  pub is_out : out ≡ latin (part_at 1 row) ++ codes ": " ++ shown
