use Rattle.std.proofs.Common.{drop, ◌+◌, nat_lt, rules}
use Rattle.gpi.specs.Soundness.{are_wakes}
use Rattle.gpi.proofs.Sound.{no_more, go_on, wakes_step}
use Rattle.gpi.proofs.tree.are_wakes.Goals as goal

pub returns-then-get-signals : goal.returns-then-get-signals
returns-then-get-signals c = no_more (nat_lt c.get.result.now.sig.0 c.args.signals) (are_wakes (drop (c.loop-at.at + 1) c.args.wakes.now) c.args.signals) c.loop-at.invariant (wakes_step c.args.wakes.now c.loop-at.at c.args.signals c.get.result.now c.get.ensures) (search rules)

pub loop-at-preserved : goal.loop-at-preserved
loop-at-preserved c = go_on (nat_lt c.get.result.now.sig.0 c.args.signals) (are_wakes (drop (c.loop-at.at + 1) c.args.wakes.now) c.args.signals) c.loop-at.invariant (wakes_step c.args.wakes.now c.loop-at.at c.args.signals c.get.result.now c.get.ensures) (search rules)
