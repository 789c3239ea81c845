use Rattle.std.proofs.Common.{◌≡◌, length, map, take}
use Rattle.design_tests.specs.Elaboration.Runs.{Chain, Deposits}
use Rattle.design_tests.proofs.elaboration.values.deposits.Given as goal

-- the deposits so far were made
abbrev pub invariant-loop-word : goal.invariant-loop-word
invariant-loop-word g l =
    g.K.Gpi.is_loaded l.kernel
    × (length (g.K.Gpi.content l.kernel).state.signals ≡ l.signals)
    × Chain Deposits (g.K.Gpi.content l.initial.kernel) (map (λ word. word.now) (take l.word-index l.word-items)) (g.K.Gpi.content l.kernel)
