use Rattle.std.proofs.Common.{sym, ◌∙◌}
use Rattle.vcd_text.specs.Reader.{state_of}
use Rattle.vcd_text.proofs.TakeLaws.{no_code_refused}
use Rattle.vcd_text.proofs.reader.Reader.take_pair.Goals as goal

pub returns-in-None-clause-takes : goal.returns-in-None-clause-takes
returns-in-None-clause-takes c =
    no_code_refused (state_of c.args.self.now) c.args.line.now c.requires.none c.args.pair.digits.now c.args.pair.code.now c.requires.is c.args.self.now.codes c.args.self.now.free c.requires.kept (sym c.find.ensures ∙ c.in-None.is)
