use Rattle.std.specs.Prelude.{◌≡◌, map, take}
use Rattle.py_value.specs.Shown.{shown}
use Rattle.task_step.proofs.statement_values.texts.shown_texts.Given as goal

abbrev pub invariant-loop-v : goal.invariant-loop-v
invariant-loop-v g l = l.texts.items ≡ map (shown (g.V.Look.view l.view).places) (take l.v-index l.values)
