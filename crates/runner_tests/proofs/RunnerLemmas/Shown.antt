-- Outcomes that are shown.
use Rattle.std.proofs.Common.{◌≡◌, ℕ, List, Result, Ok, Err, IfOk, ap, ◌∙◌}
use Rattle.std.specs.Prelude.{codes}
use Rattle.port_io.specs.Memory.{Lines}
use Rattle.port_io.specs.declared.ports.NoMemory.{NoMemory}
use Rattle.gpi.specs.Content.{Content}
use Rattle.command.specs.declared.regression.status.Status.{Status}
use Rattle.command.specs.Answer.{LeavesKernel}
use Rattle.runner_tests.specs.Runner.Commands.{Ends, RowEnds, ShowsCommand, ShowsKept, ShowsLong}
use Rattle.runner_tests.specs.Runner.Files.{long_store, sink_failing}
use Rattle.runner_tests.specs.Runner.Words.{counted_word, ended_word}

-- a command without its counts
pub command_shown : {T : Type 0} (bytes : T → List ℕ) (row : List ℕ) (content : Content) (own : Status) (out : Lines) (lines : List ℕ)
    → RowEnds row content own out → lines ≡ out.bytes → (r : Result T NoMemory) → IfOk r (λ text. bytes text ≡ ended_word own lines)
    → IfOk r (λ text. ShowsCommand row (bytes text))
command_shown bytes row content own out lines ends same (Err no_memory) shows = tt
command_shown bytes row content own out lines ends same (Ok text) shows = record {
  content = content;
  own = own;
  out = out;
  ends = ends;
  shows = shows ∙ ap (ended_word own) same;
}

-- a command with its counts
pub kept_shown : {T K : Type 0} (content : K → Content) (loaded : K → Type 0) (bytes : T → List ℕ) (row : List ℕ) (before after : K) (own : Status) (out : Lines) (lines : List ℕ)
    → RowEnds row (content after) own out → LeavesKernel loaded own before after → lines ≡ out.bytes
    → (r : Result T NoMemory) → IfOk r (λ text. bytes text ≡ counted_word own (content after).counts lines)
    → IfOk r (λ text. ShowsKept content loaded row before after (bytes text))
kept_shown content loaded bytes row before after own out lines ends leaves same (Err no_memory) shows = tt
kept_shown content loaded bytes row before after own out lines ends leaves same (Ok text) shows = record {
  own = own;
  out = out;
  ends = ends;
  leaves = leaves;
  shows = shows ∙ ap (counted_word own (content after).counts) same;
}

-- a command over long files
pub long_shown : {T : Type 0} (bytes : T → List ℕ) (row : List ℕ) (content : Content) (own : Status) (out : Lines) (lines : List ℕ)
    → Ends (codes "d.v t.py") (long_store row) (sink_failing 0) content own out → lines ≡ out.bytes
    → (r : Result T NoMemory) → IfOk r (λ text. bytes text ≡ ended_word own lines) → IfOk r (λ text. ShowsLong row (bytes text))
long_shown bytes row content own out lines ends same (Err no_memory) shows = tt
long_shown bytes row content own out lines ends same (Ok text) shows = record {
  content = content;
  own = own;
  out = out;
  ends = ends;
  shows = shows ∙ ap (ended_word own) same;
}
