use Rattle.std.proofs.Common.{◌∙◌}
use Rattle.std.specs.Prelude.{string_bytes}
use Rattle.edge_tests.proofs.PortLemmas.NumberLaws.{number_more}
use Rattle.edge_tests.proofs.port.lines.numbers_text.Goals as goal

pub loop-at-preserved : goal.loop-at-preserved
loop-at-preserved c =
    number_more c.args.numbers.now c.loop-at.at c.get.result.now (string_bytes c.loop-at.out) c.deref.result.now _ _
    c.loop-at.invariant c.get.ensures (c.deref.ensures ∙ c.in_ok-number_text.ensures) c.in_ok-push_str.ensures.bytes
