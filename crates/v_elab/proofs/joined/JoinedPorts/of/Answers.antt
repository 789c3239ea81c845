-- One joint less is left.
use Rattle.v_elab.specs.PortsSteps.{joined_at}
use Rattle.v_elab.proofs.Table.{one_less}
use Rattle.v_elab.proofs.joined.JoinedPorts.of.Goals as goal

pub loop-joint-preserved : goal.loop-joint-preserved
loop-joint-preserved c =
    one_less c.args.joints.list.items c.loop-joint.list.items c.pop.new.self.items c.in-Some.joint (joined_at c.loop-joint.found) (joined_at c.put.new.self)
    c.in-Some.ensures.items c.in_ok-put.ensures c.loop-joint.invariant
