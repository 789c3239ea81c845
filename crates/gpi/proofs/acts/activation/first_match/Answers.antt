use Rattle.std.proofs.Common.{◌∙◌, sym}
use Rattle.gpi.specs.Terms.{widths_of}
use Rattle.gpi.proofs.Steps.{label_at}
use Rattle.gpi.proofs.acts.activation.first_match.Goals as goal

pub all_agree-requires : goal.all_agree-requires
all_agree-requires c =
    sym (c.eval.ensures.wide ∙ (label_at c.args.labels.now c.loop-at.at _ c.get-label.result.now (widths_of c.args.signals.now) c.get-label.ensures c.requires.sound).1)
