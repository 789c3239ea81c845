use Rattle.vcd_text.specs.Reader.{state_of}
use Rattle.vcd_text.proofs.TakeLaws.{instance_refused}
use Rattle.vcd_text.proofs.reader.Reader.take_instance.Goals as goal

pub returns-then-not-may_begin-clause-takes : goal.returns-then-not-may_begin-clause-takes
returns-then-not-may_begin-clause-takes c =
    instance_refused (state_of c.args.self.now) c.args.line.now c.args.name.now c.may_begin.result c.requires c.may_begin.ensures c.if-not-may_begin.true
