use Rattle.std.proofs.Common.{rules}
use Rattle.gpi.specs.Design.{widths}
use Rattle.gpi.proofs.Sound.{no_fact, go_fact, labels_fact}
use Rattle.gpi.proofs.soundness.are_labels.Goals as goal

pub returns-then-not-is_label : goal.returns-then-not-is_label
returns-then-not-is_label c =
    let ws = widths c.args.table.now.signals.now in
    let here = labels_fact c.args.labels.now c.loop-at.at c.args.w c.args.items c.get.result.now ws c.get.ensures in
    no_fact c.is_label.result c.loop-at.invariant here c.is_label.ensures (search rules)

pub loop-at-preserved : goal.loop-at-preserved
loop-at-preserved c =
    let ws = widths c.args.table.now.signals.now in
    let here = labels_fact c.args.labels.now c.loop-at.at c.args.w c.args.items c.get.result.now ws c.get.ensures in
    go_fact c.is_label.result c.loop-at.invariant here c.is_label.ensures (search rules)
