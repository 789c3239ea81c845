-- A means of proof: what is open while an expression is read, and where in it reading stands, for the proofs of Python's parser.
use Rattle.std.specs.Prelude.{ℕ, List}
use Rattle.py_syntax.specs.declared.token.Token.{Token}
use Rattle.py_syntax.specs.declared.expression.UnOp.{UnOp}
use Rattle.py_syntax.specs.declared.expression.Operation.{Operation}
use Rattle.py_syntax.specs.declared.expression.Function.{Function}
use Rattle.py_expression.specs.Shown.{Shown, ShownTrees, ShownParts}

-- a node of which an operand is awaited, with what stands before that operand
pub data Opened : Type 0 where
  prefix : UnOp → Opened
  infix_op : Operation → Shown → Opened
  brackets : Opened
  subscript : Shown → Opened
  call : Function → ShownTrees → Opened
  format : ShownParts → Opened

-- an opened node, and how tightly an operand has to bind in whose place it stands
pub record Frame : Type 0 where
  pub opened : Opened
  pub least : ℕ

-- before an operand, behind a primary, behind an operand that binds so tightly, or in an f-string outside of its expressions
pub data Point : Type 0 where
  wanted : Point
  primary : Shown → Point
  operand : Shown → ℕ → Point
  parts : ShownParts → Point

-- the opened nodes, the innermost first; how tightly the operand in hand has to bind; where reading stands in it; and the tokens left
pub record Spot : Type 0 where
  pub stack : List Frame
  pub least : ℕ
  pub point : Point
  pub rest : List Token

pub data Step : Type 0 where
  going : Spot → Step
  done : Shown → List Token → Step
