-- A means of proof: constants and expressions as texts, for the test program of Python's texts. Each node is its name and its parts in
-- brackets.
use Rattle.std.specs.Prelude.{ℕ, true, false, List, [], ◌∷◌, ◌++◌, codes}
use Rattle.std.specs.Fmt.{signed_decimal}
use Rattle.std.specs.List.{concat}
use Rattle.hex.specs.Hex.{encode_lower}
use Rattle.py_syntax.specs.ExpressionTables.{function_name, method_name}
use Rattle.py_syntax.specs.ExpressionTrees.{Tree, Trees, NoTree, Then, Parts, NoPart, TextThen, FormattedThen}
use Rattle.py_syntax.specs.ExpressionTrees as tree
use Rattle.py_syntax.specs.declared.constant.Const.{Const}
use Rattle.py_syntax.specs.declared.constant.Const.TheVariants as constant
use Rattle.py_syntax.specs.declared.expression.UnOp.{UnOp}
use Rattle.py_syntax.specs.declared.expression.UnOp.TheVariants as unary
use Rattle.py_syntax.specs.declared.expression.BinOp.{BinOp}
use Rattle.py_syntax.specs.declared.expression.BinOp.TheVariants as binary
use Rattle.py_syntax.specs.declared.expression.BoolOp.{BoolOp}
use Rattle.py_syntax.specs.declared.expression.BoolOp.TheVariants as choice
use Rattle.py_syntax.specs.declared.expression.Operation.{Operation}
use Rattle.py_syntax.specs.declared.expression.Operation.TheVariants as operation

-- a text in hexadecimal digits, between its quotes
abbrev pub quoted_text : List ℕ → List ℕ
quoted_text bytes = concat (codes "'" ∷ encode_lower bytes ∷ codes "'" ∷ [])

abbrev pub constant_text : Const → List ℕ
constant_text constant.Absent = codes "None"
constant_text (constant.Truth true) = codes "True"
constant_text (constant.Truth false) = codes "False"
constant_text (constant.Whole number) = signed_decimal number
constant_text (constant.Text bytes) = quoted_text bytes
constant_text (constant.Named name) = name

-- the bracket and the mark of an operator with one operand
abbrev pub prefix_head : UnOp → List ℕ
prefix_head unary.Not = codes "(not "
prefix_head unary.Negative = codes "(- "
prefix_head unary.Positive = codes "(+ "
prefix_head unary.Invert = codes "(~ "

-- the mark of an operator with two operands
abbrev pub infix_mark : BinOp → List ℕ
infix_mark binary.Equal = codes "=="
infix_mark binary.NotEqual = codes "!="
infix_mark binary.Less = codes "<"
infix_mark binary.LessEqual = codes "<="
infix_mark binary.Greater = codes ">"
infix_mark binary.GreaterEqual = codes ">="
infix_mark binary.Is = codes "is"
infix_mark binary.IsNot = codes "is-not"
infix_mark binary.BitOr = codes "|"
infix_mark binary.BitXor = codes "^"
infix_mark binary.BitAnd = codes "&"
infix_mark binary.ShiftLeft = codes "<<"
infix_mark binary.ShiftRight = codes ">>"
infix_mark binary.Add = codes "+"
infix_mark binary.Subtract = codes "-"
infix_mark binary.Multiply = codes "*"
infix_mark binary.FloorDivide = codes "//"
infix_mark binary.Modulo = codes "%"

-- the word of an operator that gives one of its operands
abbrev pub choice_mark : BoolOp → List ℕ
choice_mark choice.Or = codes "or"
choice_mark choice.And = codes "and"

abbrev pub operation_mark : Operation → List ℕ
operation_mark (operation.Bool op) = choice_mark op
operation_mark (operation.Binary op) = infix_mark op

-- a mark and two parts in brackets
abbrev pub pair_text : List ℕ → List ℕ → List ℕ → List ℕ
pair_text mark left right = concat (codes "(" ∷ mark ∷ codes " " ∷ left ∷ codes " " ∷ right ∷ codes ")" ∷ [])

abbrev mutual
  pub tree_text : Tree → List ℕ
  tree_text (tree.Constant c) = constant_text c
  tree_text (tree.FormatString ps) = concat (codes "(f " ∷ parts_text ps ∷ codes ")" ∷ [])
  tree_text (tree.Name n) = n
  tree_text (tree.Bracketed e) = tree_text e
  tree_text (tree.Attribute e n) = pair_text (codes ".") (tree_text e) n
  tree_text (tree.Subscript e i) = pair_text (codes "[]") (tree_text e) (tree_text i)
  tree_text (tree.Call f es) = concat (codes "(call " ∷ function_name f ∷ row_text es ∷ codes ")" ∷ [])
  tree_text (tree.MethodCall e m) = concat (codes "(call " ∷ pair_text (codes ".") (tree_text e) (method_name m) ∷ codes ")" ∷ [])
  tree_text (tree.Unary op e) = concat (prefix_head op ∷ tree_text e ∷ codes ")" ∷ [])
  tree_text (tree.Infix op l r) = pair_text (operation_mark op) (tree_text l) (tree_text r)

  -- arguments, each behind a space
  pub row_text : Trees → List ℕ
  row_text NoTree = []
  row_text (Then e es) = (codes " " ++ tree_text e) ++ row_text es

  -- what stands for itself in hexadecimal digits, and expressions between braces
  pub parts_text : Parts → List ℕ
  parts_text NoPart = []
  parts_text (TextThen t ps) = encode_lower t ++ parts_text ps
  parts_text (FormattedThen e ps) = concat (codes "{" ∷ tree_text e ∷ codes "}" ∷ []) ++ parts_text ps
