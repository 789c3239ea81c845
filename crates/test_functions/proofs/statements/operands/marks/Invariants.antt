-- The operands so far are marked.
use Rattle.std.proofs.Common.{map, take}
use Rattle.test_names.specs.Arguments.Marks.{AreMarks}
use Rattle.test_functions.proofs.statements.operands.marks.Given as goal

abbrev pub invariant-loop-operand : goal.invariant-loop-operand
invariant-loop-operand l = AreMarks l.count (map (λ o. o.parameter) (take l.operand-index l.operands)) l.given.items
