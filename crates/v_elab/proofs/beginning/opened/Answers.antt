-- The first state, and the assignments of ports.
use Rattle.v_flat.specs.Declarations.{in_order}
use Rattle.v_elab.proofs.BeginOpened.{opened_with}
use Rattle.v_elab.proofs.beginning.opened.Goals as goal

pub returns : goal.returns
returns c =
    opened_with c.args.path.now c.args.constants.now c.args.ports.now (in_order c.args.ports.now c.args.declared.now) c.args.joints.list.items c.args.parts c.in_ok-state.state
    c.with_ports.new.parts c.in_ok-state.ensures.opens c.in_ok-state.ensures.ready c.in_ok-state.ensures.grows c.in_ok-state.ensures.node c.in_ok-with_ports.ensures
