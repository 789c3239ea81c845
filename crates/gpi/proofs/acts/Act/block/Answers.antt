use Rattle.gpi.proofs.Made.{block_made}
use Rattle.gpi.proofs.acts.Act.block.Goals as goal

pub returns : goal.returns
returns c = block_made c.args.list
