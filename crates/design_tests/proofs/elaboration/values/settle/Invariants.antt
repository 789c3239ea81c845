use Rattle.std.proofs.Common.{◌≡◌, length}
use Rattle.design_tests.specs.Elaboration.Runs.{Events}
use Rattle.design_tests.proofs.elaboration.values.settle.Given as goal

-- the simulator holds its design, and as many events have come
abbrev pub invariant-loop : goal.invariant-loop
invariant-loop g l =
    g.K.Gpi.is_loaded l.kernel
    × (length (g.K.Gpi.content l.kernel).state.signals ≡ length (g.K.Gpi.content l.initial.kernel).state.signals)
    × Events l.counter (g.K.Gpi.content l.initial.kernel) (g.K.Gpi.content l.kernel)
