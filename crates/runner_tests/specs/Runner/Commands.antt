-- A means of proof: what the command of a row comes to, and how it is shown, for the test program of runs.
use Rattle.std.specs.Prelude.{◌≡◌, ◌⊎◌, ℕ, List, [], ◌∷◌, codes}
use Rattle.std.specs.List.{flat_map, slice_split}
use Rattle.port_io.specs.Memory.{Files, Lines}
use Rattle.gpi.specs.Content.{Content}
use Rattle.command.specs.declared.regression.status.Status.{Status}
use Rattle.command.specs.Answer.{Answered, LeavesKernel, Quit}
use Rattle.table_rows.specs.Rows.{is_byte, part_at}
use Rattle.table_rows.specs.Shown.{latin}
use Rattle.runner_tests.specs.Runner.Files.{decimal_at, file_means, line_means, long_store, sink_failing, store_at}
use Rattle.runner_tests.specs.Runner.Words.{counted_word, ended_word}

-- what stands between spaces is a word, unless it is empty
abbrev pub word_in : List ℕ → List (List ℕ)
word_in [] = []
word_in (byte ∷ bytes) = latin (byte ∷ bytes) ∷ []

-- the words of a command, between spaces
abbrev pub words_of : List ℕ → List (List ℕ)
words_of text = flat_map word_in (slice_split (is_byte 32) text)

-- A command with the words of a text, over this store and this sink, leaves the simulator with this content, has this status and leaves
-- this sink.
pub record Ends (text : List ℕ) (store : Files) (sink : Lines) (content : Content) (own : Status) (out : Lines) : Type 0 where
  pub after : Files
  pub answer : Answered file_means line_means (words_of text) own store after content sink out ⊎ Quit own sink out

-- The command of a row ends so.
abbrev pub RowEnds : List ℕ → Content → Status → Lines → Type 0
RowEnds row content own out = Ends (part_at 2 row) (store_at row) (sink_failing (decimal_at 6 row)) content own out

-- The status, and what was put.
pub record ShowsCommand (row text : List ℕ) : Type 0 where
  pub content : Content
  pub own : Status
  pub out : Lines
  pub ends : RowEnds row content own out
  pub shows : text ≡ ended_word own out.bytes

-- The status, the counts of the simulator, and what was put; the simulator was the first one and is the second one then.
pub record ShowsKept {K : Type 0} (content : K → Content) (loaded : K → Type 0) (row : List ℕ) (before after : K) (text : List ℕ) : Type 0 where
  pub own : Status
  pub out : Lines
  pub ends : RowEnds row (content after) own out
  pub leaves : LeavesKernel loaded own before after
  pub shows : text ≡ counted_word own (content after).counts out.bytes

-- The status of the command over the long files of a row, and what was put.
pub record ShowsLong (row text : List ℕ) : Type 0 where
  pub content : Content
  pub own : Status
  pub out : Lines
  pub ends : Ends (codes "d.v t.py") (long_store row) (sink_failing 0) content own out
  pub shows : text ≡ ended_word own out.bytes
