use Rattle.std.proofs.Common.{List, ℕ, subst}
use Rattle.vcd_text.specs.Reader.{Answers, state_of}
use Rattle.vcd_text.specs.Rules.{TakesWord}
use Rattle.vcd_text.specs.declared.reader.Part.TheVariants.{Step, Top, Ended, Start, Dump}
use Rattle.vcd_text.proofs.LineSteps.{time_zero}
use Rattle.vcd_text.proofs.TakeLaws.{in_part, in_part_ok}
use Rattle.vcd_text.proofs.reader.Reader.take.Goals as goal

pub returns-in-Step-clause-takes : goal.returns-in-Step-clause-takes
returns-in-Step-clause-takes c =
    in_part Step (state_of c.args.self.now) c.args.line.now c.take_step.result (state_of c.take_step.new.self) c.in-Step.is c.take_step.ensures.takes

pub returns-in-Top-clause-takes : goal.returns-in-Top-clause-takes
returns-in-Top-clause-takes c =
    in_part_ok Top (state_of c.args.self.now) c.args.line.now c.take_top.result (state_of c.take_top.new.self) c.in-Top.is c.take_top.ensures.takes

pub returns-in-Ended-clause-takes : goal.returns-in-Ended-clause-takes
returns-in-Ended-clause-takes c =
    in_part Ended (state_of c.args.self.now) c.args.line.now c.take_word.result (state_of c.take_word.new.self) c.in-Ended.is c.take_word.ensures.takes

pub returns-in-Start-clause-takes : goal.returns-in-Start-clause-takes
returns-in-Start-clause-takes c =
    in_part Start (state_of c.args.self.now) c.args.line.now c.take_word-in-Start.result (state_of c.take_word-in-Start.new.self) c.in-Start.is
    (subst (λ (word : List ℕ). Answers (TakesWord word Dump) (state_of c.args.self.now) c.args.line.now c.take_word-in-Start.result (state_of c.take_word-in-Start.new.self)) time_zero
    c.take_word-in-Start.ensures.takes)

pub returns-in-Dump-clause-takes : goal.returns-in-Dump-clause-takes
returns-in-Dump-clause-takes c =
    in_part Dump (state_of c.args.self.now) c.args.line.now c.take_word-in-Dump.result (state_of c.take_word-in-Dump.new.self) c.in-Dump.is c.take_word-in-Dump.ensures.takes
