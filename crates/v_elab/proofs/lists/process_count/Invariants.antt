-- What is counted of the elements so far.
use Rattle.v_elab.proofs.Counts.{IsCounted}
use Rattle.v_elab.proofs.lists.process_count.Given as goal

abbrev pub invariant-loop-element : goal.invariant-loop-element
invariant-loop-element g l = IsCounted g.T.Step.gives l.elements l.element-index l.count
