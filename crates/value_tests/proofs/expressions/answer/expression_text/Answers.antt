use Rattle.value_tests.proofs.ExpressionsLemmas.Known.{task_names_known}
use Rattle.value_tests.proofs.expressions.answer.expression_text.Goals as goal

pub evaluate-requires : goal.evaluate-requires
evaluate-requires c = task_names_known _ c.in_ok-names.ensures
