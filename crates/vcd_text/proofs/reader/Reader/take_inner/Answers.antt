use Rattle.vcd_text.specs.Reader.{state_of}
use Rattle.vcd_text.proofs.TakeLaws.{end_answers}
use Rattle.vcd_text.proofs.reader.Reader.take_inner.Goals as goal

pub returns-in-Ok-None-clause-takes : goal.returns-in-Ok-None-clause-takes
returns-in-Ok-None-clause-takes c =
    end_answers (state_of c.args.self.now) c.args.line.now c.take_end.result (state_of c.take_end.new.self) c.requires.none (rw c.in-Ok-None.field-0-is at c.in-Ok-None.ensures) c.take_end.ensures.takes
