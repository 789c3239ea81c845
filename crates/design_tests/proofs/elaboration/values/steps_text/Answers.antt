use Rattle.design_tests.specs.Elaboration.Runs.{Steps, steps_of}
use Rattle.design_tests.proofs.ElaborationLemmas.ListLaws.{all_calls, call_more}
use Rattle.design_tests.proofs.elaboration.values.steps_text.Goals as goal

pub loop-step-preserved : goal.loop-step-preserved
loop-step-preserved g c = (
  c.push_step.ensures.loaded,
  c.push_step.ensures.signals,
  call_more Steps _ _ _ c.deref-step-items.result.now c.loop-step.step-index _ c.loop-step-test.true c.loop-step.invariant.2 c.in_ok-push_step.ensures.steps,
)

pub returns : goal.returns
returns g c =
    all_calls Steps _ _ c.deref-step-items.result.now c.in_ok-steps.steps.items c.loop-step.step-index (steps_of c.args.stimulus.now)
    c.loop-step-test.false c.deref-step-items.ensures.value c.in_ok-steps.ensures c.loop-step.invariant.2
