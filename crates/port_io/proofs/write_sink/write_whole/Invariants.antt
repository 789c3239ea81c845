use Rattle.std.proofs.Common.{List, ℕ, length}
use Rattle.port_io.specs.Written.{TakesEach}
use Rattle.port_io.proofs.write_sink.write_whole.Given as goal

-- what was written so far, and what is left
abbrev pub invariant-loop-rest : goal.invariant-loop-rest
invariant-loop-rest g l = (counts : List ℕ) × TakesEach g.W.Outlet.takes l.fn.writer l.bytes counts l.rest l.writer

abbrev pub decreases-loop-rest : goal.decreases-loop-rest
decreases-loop-rest g l = length l.rest
