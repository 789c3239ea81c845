use Rattle.std.proofs.Common.{◌≡◌, ◌≤◌, drop}
use Rattle.py_evaluate.specs.Function.Making.{as_triggers}
use Rattle.py_evaluate.proofs.FunctionLemmas.Rows.{behind}
use Rattle.py_evaluate.proofs.function.several.as_triggers.Given as goal

abbrev pub invariant-loop-v : goal.invariant-loop-v
invariant-loop-v l =
    (behind l.trigs.list.items (as_triggers l.task (drop l.v-index l.values) l.next) ≡ as_triggers l.task l.values l.initial.next)
    × (l.initial.next ≤ l.next)
