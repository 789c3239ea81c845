use Rattle.std.proofs.Common.{drop, ◌+◌, length, rules}
use Rattle.gpi.specs.Soundness.{are_nodes, are_spots}
use Rattle.gpi.proofs.Sound.{no_more, go_on, nodes_step}
use Rattle.gpi.proofs.tree.are_nodes.Goals as goal

pub returns-then-not-are_spots : goal.returns-then-not-are_spots
returns-then-not-are_spots c = no_more (are_spots (length c.args.nodes.now) c.args.signals c.get.result.now.children) (are_nodes (length c.args.nodes.now) c.args.signals (drop (c.loop-at.at + 1) c.args.nodes.now)) c.loop-at.invariant (nodes_step (length c.args.nodes.now) c.args.signals c.args.nodes.now c.loop-at.at c.get.result.now c.get.ensures) (search rules)

pub loop-at-preserved : goal.loop-at-preserved
loop-at-preserved c = go_on (are_spots (length c.args.nodes.now) c.args.signals c.get.result.now.children) (are_nodes (length c.args.nodes.now) c.args.signals (drop (c.loop-at.at + 1) c.args.nodes.now)) c.loop-at.invariant (nodes_step (length c.args.nodes.now) c.args.signals c.args.nodes.now c.loop-at.at c.get.result.now c.get.ensures) (search rules)
