use Rattle.edge_tests.specs.Port.Lines.{after_put, line_at, put_word, third_fails}
use Rattle.std.specs.Prelude.{string_bytes}
use Rattle.edge_tests.proofs.PortLemmas.CallLaws.{steps_more, told_more}
use Rattle.edge_tests.proofs.port.lines.sink_text.Goals as goal

pub loop-n-preserved : goal.loop-n-preserved
loop-n-preserved c = (
  steps_more put_word after_put third_fails c.loop-n.sink c.push_put.new.sink (line_at c.args.row.now) c.loop-n.n
      c.loop-n.invariant.0 c.in_ok-push_put.ensures.sink,
  told_more put_word after_put third_fails c.loop-n.sink (line_at c.args.row.now) c.loop-n.n (string_bytes c.loop-n.out)
      (string_bytes c.push_put.new.out) c.loop-n.invariant.0 c.loop-n.invariant.1 c.in_ok-push_put.ensures.out,
)
