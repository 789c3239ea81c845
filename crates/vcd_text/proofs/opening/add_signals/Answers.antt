use Rattle.vcd_text.specs.OpeningLines.{signal_lines}
use Rattle.vcd_text.proofs.ListSteps.{one_more}
use Rattle.vcd_text.proofs.LineSteps.{signals_split}
use Rattle.vcd_text.proofs.opening.add_signals.Goals as goal

pub loop-at-preserved : goal.loop-at-preserved
loop-at-preserved c =
    one_more (signal_lines c.args.signals.now) (signals_split c.args.signals.now) c.loop-at.lines c.add_signal.new.lines _ c.args.children.now c.loop-at.at c.get.result.now
    c.get.ensures c.in_ok-add_signal.ensures c.loop-at.invariant
