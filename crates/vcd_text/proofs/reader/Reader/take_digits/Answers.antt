use Rattle.vcd_text.specs.Reader.{state_of}
use Rattle.vcd_text.proofs.TakeLaws.{no_width_refused}
use Rattle.vcd_text.proofs.reader.Reader.take_digits.Goals as goal

pub returns-in-Ok-None-clause-takes : goal.returns-in-Ok-None-clause-takes
returns-in-Ok-None-clause-takes c =
    no_width_refused (state_of c.args.self.now) c.args.line.now c.requires.none c.args.pair.digits.now c.args.pair.code.now c.requires.is c.args.self.now.codes c.args.self.now.free c.requires.kept c.args.place c.requires.there (rw c.in-Ok-None.field-0-is at c.in-Ok-None.ensures)
