use Rattle.vcd_text.specs.Reader.{state_of}
use Rattle.vcd_text.proofs.TakeLaws.{signal_refused}
use Rattle.vcd_text.proofs.reader.Reader.take_signal.Goals as goal

pub returns-then-not-may_have-clause-takes : goal.returns-then-not-may_have-clause-takes
returns-then-not-may_have-clause-takes c =
    signal_refused (state_of c.args.self.now) c.args.line.now c.args.var.number c.args.var.name.now c.args.var.start c.args.var.width c.may_have.result c.requires.is c.may_have.ensures c.if-not-may_have.true
