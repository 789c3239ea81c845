use Rattle.std.proofs.Common.{◌++◌, ◌∷◌, [], arith}
use Rattle.port_io.specs.WrittenLaws.{takes_more, slice_rest}
use Rattle.port_io.proofs.write_sink.write_whole.Goals as goal

pub loop-rest-preserved : goal.loop-rest-preserved
loop-rest-preserved g c =
    let rest = c.loop-rest.rest.now in (
      c.loop-rest.invariant.0 ++ c.in-Some.count ∷ [],
      rw (slice_rest rest c.in-Some.count)
          (takes_more g.W.Outlet.takes c.args.writer.now c.args.bytes.now c.loop-rest.invariant.0 rest c.loop-rest.writer c.in-Some.count c.write_once.new.self
          c.loop-rest.invariant.1 (omega arith) c.in-Some.ensures.taken),
    )
