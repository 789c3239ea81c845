-- Trees of expressions, without where they lie in memory, and how high they are (the language reference, 6).
use Rattle.std.specs.Prelude.{ℕ, ◌+◌, max, List}
use Rattle.py_syntax.specs.declared.constant.Const.{Const}
use Rattle.py_syntax.specs.declared.expression.UnOp.{UnOp}
use Rattle.py_syntax.specs.declared.expression.Operation.{Operation}
use Rattle.py_syntax.specs.declared.expression.Operation.TheVariants as operation
use Rattle.py_syntax.specs.declared.expression.Function.{Function}
use Rattle.py_syntax.specs.declared.expression.Method.{Method}
use Rattle.py_syntax.specs.declared.expression.FormatPart.{FormatPart}
use Rattle.py_syntax.specs.declared.expression.FormatPart.TheVariants as part
use Rattle.py_syntax.specs.declared.expression.Expression.{Expression, Row_of-Expression, end_of-Expression, more_of-Expression, Row_of-FormatPart, end_of-FormatPart, more_of-FormatPart}
use Rattle.py_syntax.specs.declared.expression.Expression.TheVariants as code

mutual
  pub data Tree : Type 0 where
    Constant : Const → Tree
    FormatString : Parts → Tree
    Name : List ℕ → Tree
    Bracketed : Tree → Tree
    Attribute : Tree → List ℕ → Tree
    Subscript : Tree → Tree → Tree
    Call : Function → Trees → Tree
    MethodCall : Tree → Method → Tree
    Unary : UnOp → Tree → Tree
    Infix : Operation → Tree → Tree → Tree

  -- the arguments of a call
  pub data Trees : Type 0 where
    NoTree : Trees
    Then : Tree → Trees → Trees

  -- the parts of an f-string: what stands for itself, and `{expression}`
  pub data Parts : Type 0 where
    NoPart : Parts
    TextThen : List ℕ → Parts → Parts
    FormattedThen : Tree → Parts → Parts

abbrev mutual
  pub view : Expression → Tree
  view (code.Constant c) = Constant c
  view (code.FormatString' shape all) = FormatString (view_parts all)
  view (code.Name n) = Name n
  view (code.Bracketed' p e) = Bracketed (view e)
  view (code.Attribute' p e n) = Attribute (view e) n
  view (code.Subscript' p e q i) = Subscript (view e) (view i)
  view (code.Call' f shape all) = Call f (view_row all)
  view (code.MethodCall' p e m) = MethodCall (view e) m
  view (code.Unary' op p e) = Unary op (view e)
  view (code.Binary' op p l q r) = Infix (operation.Binary op) (view l) (view r)
  view (code.Bool' op p l q r) = Infix (operation.Bool op) (view l) (view r)

  pub view_row : {m : _} → Row_of-Expression m → Trees
  view_row end_of-Expression = NoTree
  view_row (more_of-Expression e rest) = Then (view e) (view_row rest)

  pub view_part : FormatPart → Parts → Parts
  view_part (part.Text t) ps = TextThen t ps
  view_part (part.Formatted' p e) ps = FormattedThen (view e) ps

  pub view_parts : {m : _} → Row_of-FormatPart m → Parts
  view_parts end_of-FormatPart = NoPart
  view_parts (more_of-FormatPart q rest) = view_part q (view_parts rest)

-- Each primary and each operator counts one level, brackets too.
unfoldable mutual
  pub height : Tree → ℕ
  height (Constant c) = 1
  height (FormatString ps) = 1 + parts_height ps
  height (Name n) = 1
  height (Bracketed e) = 1 + height e
  height (Attribute e n) = 1 + height e
  height (Subscript e i) = 1 + max (height e) (height i)
  height (Call f es) = 1 + all_height es
  height (MethodCall e m) = 1 + height e
  height (Unary op e) = 1 + height e
  height (Infix op l r) = 1 + max (height l) (height r)

  pub all_height : Trees → ℕ
  all_height NoTree = 0
  all_height (Then e es) = max (height e) (all_height es)

  pub parts_height : Parts → ℕ
  parts_height NoPart = 0
  parts_height (TextThen t ps) = parts_height ps
  parts_height (FormattedThen e ps) = max (height e) (parts_height ps)
