-- What the items so far have, and that none of their lines breaks a rule.
use Rattle.py_syntax.specs.BlockTrees.{view_module}
use Rattle.test_meaning.specs.Rules.File.{file_of}
use Rattle.test_refusal.proofs.Steps.{HasPassed}
use Rattle.test_refusal.proofs.fault.pass.Given as goal

abbrev pub invariant-loop-above : goal.invariant-loop-above
invariant-loop-above l = HasPassed (file_of (view_module l.whole.file.now)) (view_module l.whole.file.now) l.above l.seen
