use Rattle.std.proofs.Common.{◌≡◌, length, map, take}
use Rattle.design_tests.specs.Elaboration.Runs.{Chain, Steps, shown_by}
use Rattle.design_tests.proofs.elaboration.values.steps_text.Given as goal

-- the steps so far were made, and their texts stand behind the paths
abbrev pub invariant-loop-step : goal.invariant-loop-step
invariant-loop-step g l =
    g.K.Gpi.is_loaded l.kernel
    × (length (g.K.Gpi.content l.kernel).state.signals ≡ l.signals)
    × Chain Steps (shown_by l.initial.text.items (g.K.Gpi.content l.initial.kernel))
    (map (λ step. step.now) (take l.step-index l.step-items)) (shown_by l.text.items (g.K.Gpi.content l.kernel))
