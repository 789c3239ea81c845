-- The next statement, and all of them.
use Rattle.std.proofs.Common.{refl}
use Rattle.gpi.specs.Activation.{acts_of}
use Rattle.v_process.proofs.ActLemmas.Blocks.{behind_none, behind_more}
use Rattle.v_process.proofs.act.sequences.in_order.Goals as goal

pub loop-act-init : goal.loop-act-init
loop-act-init c = behind_none c.args.acts.items c.args.acts.items (acts_of c.new-all.result) refl c.new-all.ensures

pub loop-act-preserved : goal.loop-act-preserved
loop-act-preserved c =
    behind_more c.args.acts.items c.loop-act.acts.items c.pop.new.self.items (acts_of c.loop-act.all) (acts_of c.push.new.self) c.in-Some.act c.in-Some.ensures.items
    c.in_ok-push.ensures.ok c.loop-act.invariant
