use Rattle.std.proofs.Common.{◌∙◌, subst}
use Rattle.gpi.specs.Content.{Answers}
use Rattle.gpi.specs.declared.types.Advance.{Advance}
use Rattle.design_tests.specs.Elaboration.Runs.{next}
use Rattle.design_tests.proofs.ElaborationLemmas.EventLaws.{events_more}
use Rattle.design_tests.proofs.ElaborationLemmas.ListLaws.{same_count}
use Rattle.design_tests.proofs.elaboration.values.settle.Goals as goal

pub loop-preserved : goal.loop-preserved
loop-preserved g c =
    let before = g.K.Gpi.content c.loop.kernel in
    let after = g.K.Gpi.content c.advance.new.self in
    let answers = subst (λ (a : Advance). Answers before (next before) a after) c.in-Moved.is c.in_ok-advance.ensures.is in (
      c.advance.ensures.loaded,
      same_count after.state.signals before.state.signals c.in_ok-advance.ensures.widths ∙ c.loop.invariant.1,
      events_more c.loop.counter _ before after c.in-Moved.field-0 c.loop.invariant.2 answers,
    )
