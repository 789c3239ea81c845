-- The signals of one name more, or some of them.
use Rattle.std.proofs.Common.{drop}
use Rattle.v_layout.specs.Order.{lines_in}
use Rattle.v_layout.specs.Steps.{signals_below}
use Rattle.v_layout.proofs.Adding.{stopped, err_so}
use Rattle.v_layout.proofs.InOrder.{no_line, line_proper}
use Rattle.v_layout.proofs.Turns.{line_signals}
use Rattle.v_layout.proofs.signals.add_lines.Goals as goal

pub add_line-requires : goal.add_line-requires
add_line-requires c = line_proper c.args.lines.now c.loop-line.line-index no_line c.loop-line-test.true c.requires

pub returns-in_err-add_line-clause-err : goal.returns-in_err-add_line-clause-err
returns-in_err-add_line-clause-err c =
    err_so c.from_residual.result
    (stopped c.args.signals.now _ (signals_below c.args.path.now (lines_in (drop c.loop-line.line-index c.args.lines.now))) _ _ c.loop-line.signals c.add_line.new.signals
    c.loop-line.invariant (line_signals c.args.path.now c.args.lines.now c.loop-line.line-index no_line c.loop-line-test.true) c.in_err-add_line.ensures.err)
