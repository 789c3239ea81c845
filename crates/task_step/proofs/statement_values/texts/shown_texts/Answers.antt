use Rattle.py_evaluate.proofs.FunctionLemmas.Known.{found_known}
use Rattle.task_step.proofs.statement_values.texts.shown_texts.Goals as goal

pub shown_text-requires : goal.shown_text-requires
shown_text-requires g c =
    found_known (g.V.Look.view c.args.view.now) c.args.values.now c.loop-v.v-index c.v-item.result c.loop-v-test.true c.v-item.is c.requires
