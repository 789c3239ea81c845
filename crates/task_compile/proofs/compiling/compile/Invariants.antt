use Rattle.task_compile.proofs.Reading.{AreCompiled}
use Rattle.task_compile.proofs.compiling.compile.Given as goal

abbrev pub invariant-loop-at : goal.invariant-loop-at
invariant-loop-at l = AreCompiled l.states.items l.functions.items l.file.functions l.at
