use Rattle.std.proofs.Common.{◌∙◌, ap, length, sym}
use Rattle.gpi.specs.Content.{Content}
use Rattle.design_tests.proofs.ElaborationLemmas.ListLaws.{length_start}
use Rattle.design_tests.proofs.elaboration.values.run_text.Goals as goal

pub steps_text-requires-clause-signals : goal.steps_text-requires-clause-signals
steps_text-requires-clause-signals g c =
    c.settle.ensures.signals
    ∙ ap (λ (held : Content). length held.state.signals) c.in_ok-load.ensures.opening
    ∙ length_start c.args.flat.now.signals
    ∙ sym c.len.ensures
