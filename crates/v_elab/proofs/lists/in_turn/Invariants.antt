-- What was found is that of the elements so far.
use Rattle.std.proofs.Common.{take}
use Rattle.v_flat.specs.Design.{in_turn}
use Rattle.v_elab.specs.ItemsSteps.{IsStep}
use Rattle.v_elab.proofs.lists.in_turn.Given as goal

abbrev pub invariant-loop-element : goal.invariant-loop-element
invariant-loop-element g l = IsStep (in_turn g.T.Step.step (take l.element-index l.elements)) l.fn.state l.found
