use Rattle.port_io.specs.WrittenLaws.{on_err, broken_told}
use Rattle.port_io.proofs.write_sink.WriteSinkSink.put.Goals as goal

pub returns-then-is_err-clause-part : goal.returns-then-is_err-clause-part
returns-then-is_err-clause-part g c =
    rw (← c.self.view_is)
    (on_err c.write_whole-written.result
    (broken_told g.W.Outlet.takes g.W.Outlet.told g.met.W.Outlet.takes_told g.W.Outlet.fails g.met.W.Outlet.fails_told
    c.self.inside.writer c.args.bytes.now c.write_whole-written.new.writer) c.write_whole-written.ensures.broken)
