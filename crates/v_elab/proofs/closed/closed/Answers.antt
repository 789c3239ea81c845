-- The names of the instance.
use Rattle.v_elab.proofs.Ending.{closes_all}
use Rattle.v_elab.proofs.closed.closed.Goals as goal

pub returns : goal.returns
returns c = closes_all c.args.path.now c.args.node c.args.state c.with_children.result c.with_children.ensures.so_far c.with_children.ensures.made
