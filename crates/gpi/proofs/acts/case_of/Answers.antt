use Rattle.gpi.proofs.Made.{case_made}
use Rattle.gpi.proofs.acts.case_of.Goals as goal

pub returns : goal.returns
returns c = case_made c.args.kind c.args.value c.args.labels c.args.items c.args.other
