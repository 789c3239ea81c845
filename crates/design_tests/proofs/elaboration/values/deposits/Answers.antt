use Rattle.design_tests.specs.Elaboration.Runs.{Deposits, words_of}
use Rattle.design_tests.proofs.ElaborationLemmas.ListLaws.{all_calls, call_more}
use Rattle.design_tests.proofs.elaboration.values.deposits.Goals as goal

pub loop-word-preserved : goal.loop-word-preserved
loop-word-preserved g c = (
  c.deposit.ensures.loaded,
  c.deposit.ensures.signals,
  call_more Deposits _ _ _ c.deref-word-items.result.now c.loop-word.word-index _ c.loop-word-test.true c.loop-word.invariant.2 c.deposit.ensures.deposits,
)

pub returns-clause-deposits : goal.returns-clause-deposits
returns-clause-deposits g c =
    all_calls Deposits _ _ c.deref-word-items.result.now c.in_ok-words.words.items c.loop-word.word-index (words_of c.args.step.now)
    c.loop-word-test.false c.deref-word-items.ensures.value c.in_ok-words.ensures c.loop-word.invariant.2
