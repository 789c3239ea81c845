use Rattle.std.proofs.Common.{◌-◌}
use Rattle.gpi.proofs.Trees.{Climbs}
use Rattle.gpi.proofs.depths.depth_of.Given as goal

abbrev pub invariant-up : goal.invariant-up
invariant-up l = Climbs l.parents l.node l.steps l.at

abbrev pub decreases-up : goal.decreases-up
decreases-up l = l.count - l.steps
