-- A means of proof: what is answered for a row, for the test program of evaluation.
use Rattle.std.specs.Prelude.{◌≡◌, ℕ, ◌<◌, ◌≤◌, List, [], ◌∷◌, ◌++◌, Option, None, Some, codes, length}
use Rattle.port_io.specs.Limits.{most_bytes}
use Rattle.py_syntax.specs.ExpressionTrees.{Tree, height}
use Rattle.py_syntax.specs.ExpressionSpells.{Spells}
use Rattle.py_syntax.specs.Line.{Line}
use Rattle.py_syntax.specs.Logical.{lines_of, first_broken}
use Rattle.py_syntax.specs.Places.{first_place}
use Rattle.py_syntax.specs.Spelled.{IsSpelled}
use Rattle.py_syntax.specs.declared.piece.Piece.{Piece}
use Rattle.py_syntax.specs.declared.piece.Broken.{Broken}
use Rattle.py_syntax.specs.declared.token.Token.{Token}
use Rattle.py_expression.specs.Shown.{height_limit}
use Rattle.py_evaluate.specs.Attribute.Outcome.{Scope}
use Rattle.py_evaluate.specs.Eval.{eval}
use Rattle.table_rows.specs.Rows.{front_of, behind}
use Rattle.value_tests.specs.Expressions.Printed.{answer_text}
use Rattle.value_tests.specs.Expressions.Scene.{seen}
use Rattle.value_tests.specs.Expressions.Variables.{task_names}

-- ---- what an expression gives

-- task 4 evaluates it
abbrev pub scope : Scope
scope = record { task = record { 0 = 4 }; names = task_names; view = seen }

-- where the task's first trigger has the number 0
abbrev pub tree_text : Tree → List ℕ
tree_text e = answer_text (eval scope e 0).answer

-- ---- what the tokens of a line give

-- these tokens and no others spell the expression, which isn't too high
pub record IsWhole (tokens : List Token) (e : Tree) : Type 0 where
  pub spells : Spells e tokens []
  pub low : height e ≤ height_limit

-- the expression that tokens are, if they are one
abbrev pub IsReading : List Token → Option Tree → Type 0
IsReading tokens (Some e) = IsWhole tokens e
IsReading tokens None = (e : Tree) → IsWhole tokens e → ⊥

abbrev pub reading_text : Option Tree → List ℕ
reading_text (Some e) = tree_text e
reading_text None = codes "no expression"

abbrev pub TokensGive : List Token → List ℕ → Type 0
TokensGive tokens reply = (read : Option Tree) × IsReading tokens read × (reply ≡ reading_text read)

-- ---- what a text gives

-- the first rule of lines that it breaks, and its logical lines: the expression has to be all of the only one
abbrev pub LinesGive : Option Broken → List Line → List ℕ → Type 0
LinesGive None (line ∷ []) reply = TokensGive line.tokens reply
LinesGive _ _ reply = reply ≡ codes "no line"

-- some pieces spell the text, and their lines give the reply
abbrev pub TextGives : List ℕ → List ℕ → Type 0
TextGives text reply = (pieces : List Piece) × IsSpelled first_place pieces text × LinesGive (first_broken pieces) (lines_of pieces) reply

-- of a longer text nothing is told
pub record Replies (text reply : List ℕ) : Type 0 where
  pub short : length text ≤ most_bytes → TextGives text reply
  pub long : most_bytes < length text → reply ≡ []

-- the rule, which is what stands before the first tab of the row, and behind `: ` the reply to what stands behind that tab
abbrev pub RowGives : List ℕ → List ℕ → Type 0
RowGives row answer = (reply : List ℕ) × Replies (behind 9 row) reply × (answer ≡ front_of 9 row ++ (codes ": " ++ reply))
