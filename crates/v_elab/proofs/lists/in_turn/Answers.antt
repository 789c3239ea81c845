-- One element more.
use Rattle.v_elab.proofs.Turns.{found_ready, turn_more}
use Rattle.v_elab.proofs.lists.in_turn.Goals as goal

pub then-requires : goal.then-requires
then-requires g c = found_ready c.args.state c.requires c.loop-element.found c.loop-element.invariant.stays

pub loop-element-preserved : goal.loop-element-preserved
loop-element-preserved g c =
    turn_more g.T.Step.step c.args.elements.now c.loop-element.element-index c.element-item.result c.args.state c.loop-element.found c.in_ok-found.found
    c.loop-element-test.true c.element-item.is c.in_ok-found.ensures c.loop-element.invariant
