use Rattle.std.proofs.Common.{sym, ◌∙◌}
use Rattle.vcd_text.proofs.ToldLaws.{change_told, no_width_told}
use Rattle.vcd_text.proofs.sink.change_at.Goals as goal

pub returns-then-has_width : goal.returns-then-has_width
returns-then-has_width c = λ text parts.
    change_told c.args.signals.now.flat.now text c.args.parts.time c.args.parts.path.now c.args.parts.digits.now parts c.args.signal c.requires
    (sym c.has_width.ensures ∙ c.if-has_width.true)

pub returns-else-has_width : goal.returns-else-has_width
returns-else-has_width c = λ text parts.
    no_width_told c.args.signals.now.flat.now text c.args.parts.time c.args.parts.path.now c.args.parts.digits.now parts c.args.signal c.requires
    (sym c.has_width.ensures ∙ c.if-has_width.false)
