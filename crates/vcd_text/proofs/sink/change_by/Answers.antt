use Rattle.std.proofs.Common.{sym, ◌∙◌}
use Rattle.vcd_text.proofs.ToldLaws.{no_path_told}
use Rattle.vcd_text.proofs.sink.change_by.Goals as goal

pub returns-in-None : goal.returns-in-None
returns-in-None c = λ text parts.
    no_path_told c.args.signals.now.flat.now text c.args.parts.time c.args.parts.path.now c.args.parts.digits.now parts (sym c.find.ensures ∙ c.in-None.is)
