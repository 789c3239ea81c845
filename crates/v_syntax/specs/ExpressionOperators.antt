-- Operators: which marks are which, and how tightly each binds (IEEE 1364-2005, clause 5.1.2).
use Rattle.std.specs.Prelude.{ℕ, Option, Some, None}
use Rattle.v_syntax.specs.declared.mark.Mark.{Mark}
use Rattle.v_syntax.specs.declared.mark.Mark.TheVariants as mark
use Rattle.v_syntax.specs.declared.expression.UnaryOperator.{UnaryOperator}
use Rattle.v_syntax.specs.declared.expression.UnaryOperator.TheVariants as unary
use Rattle.v_syntax.specs.declared.expression.BinaryOperator.{BinaryOperator}
use Rattle.v_syntax.specs.declared.expression.BinaryOperator.TheVariants as binary
use Rattle.v_syntax.specs.ExpressionTrees.{Tree, Number, Named, Bracketed, Unary, Binary, Conditional, Concatenation, Replication}

-- the operator that a mark before an operand is
abbrev pub unary_operator : Mark → Option UnaryOperator
unary_operator mark.Plus = Some unary.Plus
unary_operator mark.Minus = Some unary.Minus
unary_operator mark.Exclamation = Some unary.LogicalNegation
unary_operator mark.Tilde = Some unary.BitwiseNegation
unary_operator mark.Ampersand = Some unary.ReductionAnd
unary_operator mark.Nand = Some unary.ReductionNand
unary_operator mark.Bar = Some unary.ReductionOr
unary_operator mark.Nor = Some unary.ReductionNor
unary_operator mark.Caret = Some unary.ReductionXor
unary_operator mark.TildeCaret = Some unary.ReductionXnor
unary_operator mark.CaretTilde = Some unary.ReductionXnor
unary_operator _ = None

-- the operator that a mark between operands is
abbrev pub binary_operator : Mark → Option BinaryOperator
binary_operator mark.LogicalOr = Some binary.LogicalOr
binary_operator mark.LogicalAnd = Some binary.LogicalAnd
binary_operator mark.Bar = Some binary.BitwiseOr
binary_operator mark.Caret = Some binary.BitwiseXor
binary_operator mark.TildeCaret = Some binary.BitwiseXnor
binary_operator mark.CaretTilde = Some binary.BitwiseXnor
binary_operator mark.Ampersand = Some binary.BitwiseAnd
binary_operator mark.Equal = Some binary.Equal
binary_operator mark.Unequal = Some binary.Unequal
binary_operator mark.CaseEqual = Some binary.CaseEqual
binary_operator mark.CaseUnequal = Some binary.CaseUnequal
binary_operator mark.Less = Some binary.Less
binary_operator mark.LessOrEqual = Some binary.LessOrEqual
binary_operator mark.Greater = Some binary.Greater
binary_operator mark.GreaterOrEqual = Some binary.GreaterOrEqual
binary_operator mark.ShiftLeft = Some binary.ShiftLeft
binary_operator mark.ShiftRight = Some binary.ShiftRight
binary_operator mark.ArithmeticShiftLeft = Some binary.ArithmeticShiftLeft
binary_operator mark.ArithmeticShiftRight = Some binary.ArithmeticShiftRight
binary_operator mark.Plus = Some binary.Add
binary_operator mark.Minus = Some binary.Subtract
binary_operator mark.Star = Some binary.Multiply
binary_operator mark.Slash = Some binary.Divide
binary_operator mark.Percent = Some binary.Remainder
binary_operator _ = None

-- How tightly an operator binds: a conditional, the loosest expression, has level 1, a unary operator and what needs
-- no operator have level 12.
abbrev pub level_of : BinaryOperator → ℕ
level_of binary.LogicalOr = 2
level_of binary.LogicalAnd = 3
level_of binary.BitwiseOr = 4
level_of binary.BitwiseXor = 5
level_of binary.BitwiseXnor = 5
level_of binary.BitwiseAnd = 6
level_of binary.Equal = 7
level_of binary.Unequal = 7
level_of binary.CaseEqual = 7
level_of binary.CaseUnequal = 7
level_of binary.Less = 8
level_of binary.LessOrEqual = 8
level_of binary.Greater = 8
level_of binary.GreaterOrEqual = 8
level_of binary.ShiftLeft = 9
level_of binary.ShiftRight = 9
level_of binary.ArithmeticShiftLeft = 9
level_of binary.ArithmeticShiftRight = 9
level_of binary.Add = 10
level_of binary.Subtract = 10
level_of binary.Multiply = 11
level_of binary.Divide = 11
level_of binary.Remainder = 11

unfoldable pub level : Tree → ℕ
level (Number at ds) = 12
level (Named at name s) = 12
level (Bracketed at e) = 12
level (Unary at op e) = 12
level (Binary op l r) = level_of op
level (Conditional c a b) = 1
level (Concatenation at es) = 12
level (Replication at e es) = 12
