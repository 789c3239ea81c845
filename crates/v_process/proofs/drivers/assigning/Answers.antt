-- A continuous assignment from what was found in its parts.
use Rattle.v_process.proofs.Driving.{assigning_found}
use Rattle.v_process.proofs.drivers.assigning.Goals as goal

pub returns : goal.returns
returns c =
    assigning_found c.args.target c.args.value c.args.wakes c.in_ok-body.body c.of_kind.result c.in_ok-body.ensures c.of_kind.ensures
