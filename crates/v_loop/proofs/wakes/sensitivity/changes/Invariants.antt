-- The wakes that stand, and those of the spans that are left.
use Rattle.v_loop.proofs.WakesLemmas.Sweep.{Sweeps}
use Rattle.v_loop.proofs.wakes.sensitivity.changes.Given as goal

abbrev pub invariant-loop-span : goal.invariant-loop-span
invariant-loop-span l = Sweeps l.spans l.signals l.span-index l.next l.wakes
