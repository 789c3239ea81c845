use Rattle.vcd_text.specs.Reader.{state_of}
use Rattle.vcd_text.proofs.TakeLaws.{time_refused}
use Rattle.vcd_text.proofs.reader.Reader.take_time.Goals as goal

pub returns-then-not-may_tell-clause-takes : goal.returns-then-not-may_tell-clause-takes
returns-then-not-may_tell-clause-takes c =
    time_refused (state_of c.args.self.now) c.args.line.now c.args.time c.may_tell.result c.requires c.may_tell.ensures c.if-not-may_tell.true
