use Rattle.std.proofs.Common.{◌∙◌}
use Rattle.vcd_text.proofs.LineSteps.{on_ok, opening_made}
use Rattle.vcd_text.proofs.opening.add_opening.Goals as goal

pub returns : goal.returns
returns c =
    on_ok c.add_line-4.result
    (λ last. opening_made c.args.signals.now.flat.now c.deref.result.now c.args.lines.now c.add_line.new.lines c.add_line-2.new.lines c.add_line-3.new.lines c.add_values.new.lines
    c.add_line-4.new.lines (c.deref.ensures.value ∙ c.args.signals.now.listed) c.in_ok-add_line.ensures c.in_ok-add_line-2.ensures c.in_ok-add_line-3.ensures c.in_ok-add_values.ensures last)
    c.add_line-4.ensures
