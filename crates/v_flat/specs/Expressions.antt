-- The width of an expression by itself, and its value in a context of w digits on a map of the signals (IEEE 1364-2005,
-- clause 5.4). They say nothing of an expression in which a rule is broken.
use Rattle.std.specs.Prelude.{ℕ, ◌+◌, ◌*◌, List, [], ◌∷◌, ◌++◌, length, min, max, Option, None, Some}
use Rattle.four_value.specs.declared.Digit.{Digit}
use Rattle.four_value.specs.Vector.{number, resize}
use Rattle.gpi.specs.declared.operators.Unary.TheVariants as keeping
use Rattle.gpi.specs.declared.operators.Arith.TheVariants as arith
use Rattle.gpi.specs.declared.operators.Compare.TheVariants as compare
use Rattle.gpi.specs.declared.operators.Logic.TheVariants as logic
use Rattle.gpi.specs.declared.operators.Reduce.TheVariants as reduce
use Rattle.gpi.specs.declared.operators.Shift.TheVariants as shift
use Rattle.gpi.specs.Operators.{truth, unary_value, arith_value, compare_value, logic_value, reduce_value, shift_value, choose}
use Rattle.gpi.specs.Selects.{selected, word_at}
use Rattle.gpi.specs.Terms.{word_value, copies}
use Rattle.v_syntax.specs.declared.expression.UnaryOperator.{UnaryOperator}
use Rattle.v_syntax.specs.declared.expression.UnaryOperator.TheVariants as unary
use Rattle.v_syntax.specs.declared.expression.BinaryOperator.{BinaryOperator}
use Rattle.v_syntax.specs.declared.expression.BinaryOperator.TheVariants as binary
use Rattle.v_syntax.specs.ExpressionTrees.{Tree, Number, Named, Bracketed, Unary, Binary, Conditional, Concatenation, Replication, SelectsTree, Whole, One, OfWord, SelectTree, Bit, Part, IndexedPart, Trees, none, more}
use Rattle.v_flat.specs.declared.operators.UnaryClass.{UnaryClass}
use Rattle.v_flat.specs.declared.operators.UnaryClass.TheVariants.{Keeps, Folds}
use Rattle.v_flat.specs.declared.operators.BinaryClass.{BinaryClass}
use Rattle.v_flat.specs.declared.operators.BinaryClass.TheVariants.{Combines, Compares, Joins, Shifts}
use Rattle.v_flat.specs.declared.scope.meaning.Bounds.{Bounds}
use Rattle.v_flat.specs.declared.scope.meaning.DataObject.{DataObject}
use Rattle.v_flat.specs.declared.scope.meaning.Meaning.{Meaning}
use Rattle.v_flat.specs.declared.scope.meaning.Meaning.TheVariants.{Constant, Object}
use Rattle.v_flat.specs.Scope.Scope.{span, width_of, Scope, find}
use Rattle.v_flat.specs.Objects.{range_of, words_of}

abbrev pub Values : Type 0
Values = ℕ → List Digit

-- the map of a constant expression
abbrev pub no_signals : Values
no_signals s = []

-- ---- operators by their rules of widths (clause 5.4.1)

abbrev pub unary_class : UnaryOperator → UnaryClass
unary_class unary.Plus = Keeps keeping.Plus
unary_class unary.Minus = Keeps keeping.Minus
unary_class unary.BitwiseNegation = Keeps keeping.Invert
unary_class unary.LogicalNegation = Folds reduce.Not
unary_class unary.ReductionAnd = Folds reduce.All
unary_class unary.ReductionNand = Folds reduce.NotAll
unary_class unary.ReductionOr = Folds reduce.Any
unary_class unary.ReductionNor = Folds reduce.NotAny
unary_class unary.ReductionXor = Folds reduce.Parity
unary_class unary.ReductionXnor = Folds reduce.NotParity

abbrev pub binary_class : BinaryOperator → BinaryClass
binary_class binary.LogicalOr = Joins logic.Either
binary_class binary.LogicalAnd = Joins logic.Both
binary_class binary.BitwiseOr = Combines arith.Or
binary_class binary.BitwiseXor = Combines arith.Xor
binary_class binary.BitwiseXnor = Combines arith.Xnor
binary_class binary.BitwiseAnd = Combines arith.And
binary_class binary.Equal = Compares compare.Equal
binary_class binary.Unequal = Compares compare.Differ
binary_class binary.CaseEqual = Compares compare.CaseEqual
binary_class binary.CaseUnequal = Compares compare.CaseDiffer
binary_class binary.Less = Compares compare.Less
binary_class binary.LessOrEqual = Compares compare.AtMost
binary_class binary.Greater = Compares compare.Above
binary_class binary.GreaterOrEqual = Compares compare.AtLeast
binary_class binary.ShiftLeft = Shifts shift.Up
binary_class binary.ShiftRight = Shifts shift.Down
binary_class binary.ArithmeticShiftLeft = Shifts shift.Up
binary_class binary.ArithmeticShiftRight = Shifts shift.Down
binary_class binary.Add = Combines arith.Add
binary_class binary.Subtract = Combines arith.Sub
binary_class binary.Multiply = Combines arith.Mul
binary_class binary.Divide = Combines arith.Div
binary_class binary.Remainder = Combines arith.Rem

-- the width of the whole, from those of its operands
abbrev pub unary_width : UnaryClass → ℕ → ℕ
unary_width (Keeps o) a = a
unary_width (Folds o) a = 1

abbrev pub binary_width : BinaryClass → ℕ → ℕ → ℕ
binary_width (Combines o) a b = max a b
binary_width (Compares o) a b = 1
binary_width (Joins o) a b = 1
binary_width (Shifts o) a b = a

-- the context of an operand, from the context of the whole and the operands' own widths
abbrev pub operand_width : UnaryClass → ℕ → ℕ → ℕ
operand_width (Keeps o) w a = w
operand_width (Folds o) w a = a

abbrev pub left_width : BinaryClass → ℕ → ℕ → ℕ → ℕ
left_width (Combines o) w a b = w
left_width (Compares o) w a b = max a b
left_width (Joins o) w a b = a
left_width (Shifts o) w a b = w

abbrev pub right_width : BinaryClass → ℕ → ℕ → ℕ → ℕ
right_width (Combines o) w a b = w
right_width (Compares o) w a b = max a b
right_width (Joins o) w a b = b
right_width (Shifts o) w a b = b

-- the value in a context of w digits, from those of the operands
abbrev pub of_one : UnaryClass → List Digit → ℕ → List Digit
of_one (Keeps o) xs w = unary_value o xs
of_one (Folds o) xs w = resize (reduce_value o xs ∷ []) w

abbrev pub of_two : BinaryClass → List Digit → List Digit → ℕ → List Digit
of_two (Combines o) xs ys w = arith_value o xs ys
of_two (Compares o) xs ys w = resize (compare_value o xs ys ∷ []) w
of_two (Joins o) xs ys w = resize (logic_value o xs ys ∷ []) w
of_two (Shifts o) xs ys w = shift_value o xs ys

-- ---- names (clause 5.2)

abbrev pub number_or : Option ℕ → ℕ
number_or (Some n) = n
number_or None = 0

abbrev pub lesser : Option ℕ → Option ℕ → Option ℕ
lesser (Some a) (Some b) = Some (min a b)
lesser (Some a) None = None
lesser None b = None

-- all of a name
abbrev pub whole_width : Option Meaning → ℕ
whole_width (Some (Constant ds b)) = width_of b
whole_width (Some (Object o)) = width_of o.bounds
whole_width _ = 0

abbrev pub whole_value : Option Meaning → Values → List Digit
whole_value (Some (Constant ds b)) m = ds
whole_value (Some (Object o)) m = m o.first
whole_value _ m = []

-- one select: digits of a vector, or a word of a memory (clauses 5.2.1 and 5.2.2)
abbrev pub object_width : DataObject → Option Bounds → ℕ → ℕ
object_width o None n = n
object_width o (Some w) n = width_of o.bounds

abbrev pub one_width : Option Meaning → ℕ → ℕ
one_width (Some (Object o)) n = object_width o o.words n
one_width _ n = n

abbrev pub object_part : DataObject → Option Bounds → Option ℕ → ℕ → Values → List Digit
object_part o None base n m = selected (m o.first) (range_of o.bounds) base n
object_part o (Some w) base n m = word_value (word_at (words_of o.first w) base) (width_of o.bounds) m

abbrev pub one_value : Option Meaning → Option ℕ → ℕ → Values → List Digit
one_value (Some (Constant ds b)) base n m = selected ds (range_of b) base n
one_value (Some (Object o)) base n m = object_part o o.words base n m
one_value _ base n m = []

-- a select of a memory's word
abbrev pub part_of_word : Option Meaning → Option ℕ → Option ℕ → ℕ → Values → List Digit
part_of_word (Some (Object o)) word base n m = selected (object_part o o.words word n m) (range_of o.bounds) base n
part_of_word _ word base n m = []

-- ---- expressions

abbrev mutual
  pub width : Scope → Tree → ℕ
  width s (Number p ds) = length ds
  width s (Named p n sel) = named_width s sel (find n s)
  width s (Bracketed p e) = width s e
  width s (Unary p op e) = unary_width (unary_class op) (width s e)
  width s (Binary op l r) = binary_width (binary_class op) (width s l) (width s r)
  width s (Conditional c a b) = max (width s a) (width s b)
  width s (Concatenation p es) = widths s es
  width s (Replication p c es) = number_or (number (meaning s c (width s c) no_signals)) * widths s es

  pub widths : Scope → Trees → ℕ
  widths s none = 0
  widths s (more e es) = width s e + widths s es

  pub named_width : Scope → SelectsTree → Option Meaning → ℕ
  named_width s Whole x = whole_width x
  named_width s (One sel) x = one_width x (select_width s sel)
  named_width s (OfWord p i sel) x = select_width s sel

  pub select_width : Scope → SelectTree → ℕ
  select_width s (Bit p i) = 1
  select_width s (Part p l r) = span (number_or (number (meaning s l (width s l) no_signals))) (number_or (number (meaning s r (width s r) no_signals)))
  select_width s (IndexedPart p b n) = number_or (number (meaning s n (width s n) no_signals))

  -- the least index that is selected; none where it has an x or z digit
  pub select_base : Scope → SelectTree → Values → Option ℕ
  select_base s (Bit p i) m = number (meaning s i (width s i) m)
  select_base s (Part p l r) m = lesser (number (meaning s l (width s l) m)) (number (meaning s r (width s r) m))
  select_base s (IndexedPart p b n) m = number (meaning s b (width s b) m)

  pub meaning : Scope → Tree → ℕ → Values → List Digit
  meaning s (Number p ds) w m = resize ds w
  meaning s (Named p n sel) w m = resize (named_value s sel (find n s) m) w
  meaning s (Bracketed p e) w m = meaning s e w m
  meaning s (Unary p op e) w m = of_one (unary_class op) (meaning s e (operand_width (unary_class op) w (width s e)) m) w
  meaning s (Binary op l r) w m = of_two (binary_class op)
      (meaning s l (left_width (binary_class op) w (width s l) (width s r)) m)
      (meaning s r (right_width (binary_class op) w (width s l) (width s r)) m) w
  meaning s (Conditional c a b) w m = choose (truth (meaning s c (width s c) m)) (meaning s a w m) (meaning s b w m)
  meaning s (Concatenation p es) w m = resize (joined s es m) w
  meaning s (Replication p c es) w m = resize (copies (number_or (number (meaning s c (width s c) no_signals))) (joined s es m)) w

  -- the first part has the highest digits (clause 5.1.14)
  pub joined : Scope → Trees → Values → List Digit
  joined s none m = []
  joined s (more e es) m = joined s es m ++ meaning s e (width s e) m

  pub named_value : Scope → SelectsTree → Option Meaning → Values → List Digit
  named_value s Whole x m = whole_value x m
  named_value s (One sel) x m = one_value x (select_base s sel m) (select_width s sel) m
  named_value s (OfWord p i sel) x m = part_of_word x (number (meaning s i (width s i) m)) (select_base s sel m) (select_width s sel) m

-- the value by itself
abbrev pub own_value : Scope → Tree → Values → List Digit
own_value s e m = meaning s e (width s e) m

-- its number, where the expression is a constant
abbrev pub own_number : Scope → Tree → ℕ
own_number s e = number_or (number (own_value s e no_signals))
