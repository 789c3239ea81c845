use Rattle.std.proofs.Common.{drop, ◌+◌, nat_le, ◌&&◌, rules}
use Rattle.gpi.specs.Soundness.{are_wide}
use Rattle.gpi.proofs.Sound.{no_more, go_on, wide_step}
use Rattle.gpi.proofs.tree.are_wide.Goals as goal

pub returns-then-width-lt1 : goal.returns-then-width-lt1
returns-then-width-lt1 c = no_more (nat_le 1 c.get.result.now.width && nat_le c.get.result.now.width 128) (are_wide (drop (c.loop-at.at + 1) c.args.signals.now)) c.loop-at.invariant (wide_step c.args.signals.now c.loop-at.at c.get.result.now c.get.ensures) (search rules)

pub loop-at-preserved : goal.loop-at-preserved
loop-at-preserved c = go_on (nat_le 1 c.get.result.now.width && nat_le c.get.result.now.width 128) (are_wide (drop (c.loop-at.at + 1) c.args.signals.now)) c.loop-at.invariant (wide_step c.args.signals.now c.loop-at.at c.get.result.now c.get.ensures) (search rules)
