use Rattle.std.proofs.Common.{drop, ◌+◌, rules}
use Rattle.gpi.specs.Soundness.{are_spots, is_spot}
use Rattle.gpi.proofs.Sound.{no_more, go_on, spots_step}
use Rattle.gpi.proofs.tree.are_spots.Goals as goal

pub returns-then-not-is_spot : goal.returns-then-not-is_spot
returns-then-not-is_spot c = no_more (is_spot c.args.nodes c.args.signals c.get.result.now.1) (are_spots c.args.nodes c.args.signals (drop (c.loop-at.at + 1) c.args.children.now)) c.loop-at.invariant (spots_step c.args.nodes c.args.signals c.args.children.now c.loop-at.at c.get.result.now c.get.ensures) (search rules)

pub loop-at-preserved : goal.loop-at-preserved
loop-at-preserved c = go_on (is_spot c.args.nodes c.args.signals c.get.result.now.1) (are_spots c.args.nodes c.args.signals (drop (c.loop-at.at + 1) c.args.children.now)) c.loop-at.invariant (spots_step c.args.nodes c.args.signals c.args.children.now c.loop-at.at c.get.result.now c.get.ensures) (search rules)
