use Rattle.std.proofs.Common.{◌≡◌, ◌⊎◌, ℕ, List, [], ◌∷◌, ◌++◌, ap, ◌∙◌, map, subst}
use Rattle.std.specs.Prelude.{string_bytes}
use Rattle.port_io.specs.Memory.{Files, Lines}
use Rattle.gpi.specs.Content.{Content}
use Rattle.command.specs.declared.regression.status.Status.{Status}
use Rattle.command.specs.Answer.{Answered, Quit}
use Rattle.runner_tests.specs.Runner.Commands.{Ends, words_of}
use Rattle.runner_tests.specs.Runner.Files.{file_means, line_means, sink_failing}
use Rattle.runner_tests.proofs.runner.commands.ended.Goals as goal

ends : (text : List ℕ) (words : List (List ℕ)) (store after : Files) (call : ℕ) (sink out : Lines) (own : Status) (content : Content)
    → Answered file_means line_means words own store after content sink out ⊎ Quit own sink out
    → words ≡ words_of text → sink ≡ sink_failing call → Ends text store (sink_failing call) content own out
ends text words store after call sink out own content answer are_words is_sink = record {
  after = after;
  answer = subst (λ (w : List (List ℕ)). Answered file_means line_means w own store after content (sink_failing call) out ⊎ Quit own (sink_failing call) out)
      are_words (subst (λ (s : Lines). Answered file_means line_means words own store after content s out ⊎ Quit own s out) is_sink answer);
}

with_failing_put : ℕ → Lines → Lines
with_failing_put call sink = record sink { failing = sink.failing ++ call ∷ [] }

sink_is : (call : ℕ) (sink failing : Lines) → failing ≡ record sink { failing = sink.failing ++ call ∷ [] }
    → sink ≡ record { bytes = []; calls = 0; failing = []; faults = 0 } → failing ≡ sink_failing call
unfolding with_failing_put
sink_is call sink failing e is_sink = e ∙ ap (with_failing_put call) is_sink

pub returns-clause-ends : goal.returns-clause-ends
returns-clause-ends g c =
    ends c.args.text.now (map string_bytes c.deref.result.now) c.args.store c.run-status.new.store c.args.failing c.fail_at.new.self
    c.run-status.new.sink c.run-status.result _ c.run-status.ensures.answer
    (ap (map string_bytes) c.deref.ensures.value ∙ c.in_ok-words.ensures)
    (sink_is c.args.failing c.new-sink.result c.fail_at.new.self c.in_ok-fail_at.ensures.ok c.new-sink.ensures)
