-- A means of proof: what is read from left to right, as functions on lists of tokens, for the proofs of Verilog's parser: `end` is the
-- number of the text's tokens, `room` the number of levels that may stand below what is read.
use Rattle.std.specs.Prelude.{ℕ, zero, suc, ◌+◌, List, [], ◌∷◌, length, Option, Some, None, Result, Ok, nat_le, if◌then◌else◌}
use Rattle.v_syntax.specs.declared.token.Token.{Token}
use Rattle.v_syntax.specs.declared.token.Token.TheVariants as token
use Rattle.v_syntax.specs.declared.mark.Mark.TheVariants as mark
use Rattle.v_syntax.specs.declared.expression.UnaryOperator.{UnaryOperator}
use Rattle.v_syntax.specs.declared.expression.BinaryOperator.{BinaryOperator}
use Rattle.v_syntax.specs.ExpressionTrees.{Tree, Number, Named, Bracketed, Unary, Binary, Conditional, Concatenation, Replication, Trees, none, more, SelectsTree, Whole, One, OfWord, SelectTree, Bit, Part, IndexedPart, TargetTree, NamedTarget, JoinedTarget, TargetTrees, no_target, more_targets, height}
use Rattle.v_syntax.specs.ExpressionOperators.{unary_operator, binary_operator, level_of}
use Rattle.v_syntax.specs.ExpressionSpans.{place}
use Rattle.v_expression.specs.Phrase.Stops.{Stop, Answer, ◌>>=◌, syntax_at, deep_at, after, behind}

-- the readers of one level down
pub record Readers : Type 0 where
  pub expression : List Token → Answer Tree
  -- of operators from a level on
  pub climb : ℕ → List Token → Answer Tree
  pub unary : List Token → Answer Tree
  pub target : List Token → Answer TargetTree

-- A node stands here only if levels are left below it.
unfoldable pub down : ℕ → Readers → List Token → Result Readers Stop
down zero sub here = deep_at here
down (suc room) sub here = Ok sub

-- A node whose first part has been read stands here only if that part fits below it.
unfoldable pub down_from : ℕ → Readers → Tree → List Token → Result Readers Stop
down_from room sub first here = if nat_le (height first) room then Ok sub else deep_at here

-- ---- selects

-- an expression and a closing bracket
unfoldable pub last_of : Readers → List Token → Answer Tree
last_of s ts = do
  e ← s.expression ts
  rest ← after mark.CloseBracket e.1
  Ok (e.0, rest)

abbrev pub part : ℕ → Tree → Tree × List Token → Answer SelectTree
part at e x = Ok (Part at e x.0, x.1)

abbrev pub indexed_part : ℕ → Tree → Tree × List Token → Answer SelectTree
indexed_part at e x = Ok (IndexedPart at e x.0, x.1)

abbrev pub range_by : ℕ → Readers → Tree → List Token → Option (List Token) → Answer SelectTree
range_by at s e ts (Some us) = last_of s us >>= part at e
range_by at s e ts None = do
  us ← after mark.PlusColon ts
  x ← last_of s us
  indexed_part at e x

-- a part select from behind its first expression on
unfoldable pub range_of : ℕ → Readers → Tree → List Token → Answer SelectTree
range_of at s e ts = range_by at s e ts (behind mark.Colon ts)

abbrev pub bound_by : ℕ → Readers → Tree → List Token → Option (List Token) → Answer SelectTree
bound_by at s e ts (Some us) = Ok (Bit at e, us)
bound_by at s e ts None = range_of at s e ts

-- a select from behind its first expression on
unfoldable pub bound_of : ℕ → Readers → Tree → List Token → Answer SelectTree
bound_of at s e ts = bound_by at s e ts (behind mark.CloseBracket ts)

-- a select whose bracket stands here, from behind the bracket on
unfoldable pub select_of : ℕ → ℕ → Readers → List Token → List Token → Answer SelectTree
select_of end room sub here ts = do
  s ← down room sub here
  e ← s.expression ts
  bound_of (place end here) s e.0 e.1

abbrev pub of_word : ℕ → Tree → SelectTree × List Token → Answer SelectsTree
of_word at e x = Ok (OfWord at e x.0, x.1)

abbrev pub further_by : ℕ → ℕ → Readers → SelectTree → List Token → Option (List Token) → Answer SelectsTree
further_by end room sub (Bit at e) ts (Some us) = select_of end room sub ts us >>= of_word at e
further_by end room sub s ts _ = Ok (One s, ts)

-- behind an index maybe another select
unfoldable pub further_of : ℕ → ℕ → Readers → SelectTree → List Token → Answer SelectsTree
further_of end room sub s ts = further_by end room sub s ts (behind mark.OpenBracket ts)

abbrev pub selects_by : ℕ → ℕ → Readers → List Token → Option (List Token) → Answer SelectsTree
selects_by end room sub ts None = Ok (Whole, ts)
selects_by end room sub ts (Some us) = do
  x ← select_of end room sub ts us
  further_of end room sub x.0 x.1

unfoldable pub selects_of : ℕ → ℕ → Readers → List Token → Answer SelectsTree
selects_of end room sub ts = selects_by end room sub ts (behind mark.OpenBracket ts)

-- ---- primaries

-- a name that has been read, and its selects
unfoldable pub named_of : ℕ → ℕ → Readers → ℕ → List ℕ → List Token → Answer Tree
named_of end room sub at name ts = do
  x ← selects_of end room sub ts
  Ok (Named at name x.0, x.1)

unfoldable pub bracketed_of : ℕ → ℕ → Readers → List Token → List Token → Answer Tree
bracketed_of end room sub here ts = do
  s ← down room sub here
  e ← s.expression ts
  rest ← after mark.CloseParenthesis e.1
  Ok (Bracketed (place end here) e.0, rest)

abbrev pub and_first : Tree → Trees × List Token → Answer Trees
and_first e es = Ok (more e es.0, es.1)

abbrev pub others_by : Readers → (List Token → Answer Trees) → List Token → Option (List Token) → Answer Trees
others_by s next ts (Some us) = Ok (none, us)
others_by s next ts None = do
  us ← after mark.Comma ts
  e ← s.expression us
  es ← next e.1
  and_first e.0 es

-- the expressions behind a first one, each with a comma before it, and the closing brace; n is the number of tokens
unfoldable pub others_of : Readers → ℕ → List Token → Answer Trees
others_of s zero ts = syntax_at ts
others_of s (suc n) ts = others_by s (others_of s n) ts (behind mark.CloseBrace ts)

-- expressions whose first one has been read
unfoldable pub parts_of : Readers → Tree → List Token → Answer Trees
parts_of s e ts = others_of s (length ts) ts >>= and_first e

unfoldable pub replication_of : ℕ → Readers → Tree → List Token → Answer Tree
replication_of at s count ts = do
  e ← s.expression ts
  es ← parts_of s e.0 e.1
  rest ← after mark.CloseBrace es.1
  Ok (Replication at count es.0, rest)

unfoldable pub concatenation_of : ℕ → Readers → Tree → List Token → Answer Tree
concatenation_of at s e ts = do
  es ← parts_of s e ts
  Ok (Concatenation at es.0, es.1)

abbrev pub inside_by : ℕ → Readers → Tree → List Token → Option (List Token) → Answer Tree
inside_by at s e ts (Some us) = replication_of at s e us
inside_by at s e ts None = concatenation_of at s e ts

-- what braces hold, from behind its first expression on
unfoldable pub inside_of : ℕ → Readers → Tree → List Token → Answer Tree
inside_of at s e ts = inside_by at s e ts (behind mark.OpenBrace ts)

unfoldable pub braced_of : ℕ → ℕ → Readers → List Token → List Token → Answer Tree
braced_of end room sub here ts = do
  s ← down room sub here
  e ← s.expression ts
  inside_of (place end here) s e.0 e.1

unfoldable pub primary_of : ℕ → ℕ → Readers → List Token → Answer Tree
primary_of end room sub (token.Number ds ∷ ts) = Ok (Number (place end (token.Number ds ∷ ts)) ds, ts)
primary_of end room sub (token.Name name ∷ ts) = named_of end room sub (place end (token.Name name ∷ ts)) name ts
primary_of end room sub (token.Mark mark.OpenParenthesis ∷ ts) = bracketed_of end room sub (token.Mark mark.OpenParenthesis ∷ ts) ts
primary_of end room sub (token.Mark mark.OpenBrace ∷ ts) = braced_of end room sub (token.Mark mark.OpenBrace ∷ ts) ts
primary_of end room sub ts = syntax_at ts

-- ---- operators

abbrev pub prefix_of : Token → Option UnaryOperator
prefix_of (token.Mark m) = unary_operator m
prefix_of (token.Name n) = None
prefix_of (token.Keyword w) = None
prefix_of (token.Reserved w) = None
prefix_of (token.SystemTask t) = None
prefix_of (token.Number ds) = None
prefix_of (token.Text t) = None

abbrev pub infix_of : Token → Option BinaryOperator
infix_of (token.Mark m) = binary_operator m
infix_of (token.Name n) = None
infix_of (token.Keyword w) = None
infix_of (token.Reserved w) = None
infix_of (token.SystemTask t) = None
infix_of (token.Number ds) = None
infix_of (token.Text t) = None

unfoldable pub prefixed_of : ℕ → ℕ → Readers → UnaryOperator → List Token → List Token → Answer Tree
prefixed_of end room sub op here ts = do
  s ← down room sub here
  e ← s.unary ts
  Ok (Unary (place end here) op e.0, e.1)

abbrev pub unary_by : ℕ → ℕ → Readers → Token → List Token → Option UnaryOperator → Answer Tree
unary_by end room sub t ts None = primary_of end room sub (t ∷ ts)
unary_by end room sub t ts (Some op) = prefixed_of end room sub op (t ∷ ts) ts

unfoldable pub unary_of : ℕ → ℕ → Readers → List Token → Answer Tree
unary_of end room sub [] = syntax_at []
unary_of end room sub (t ∷ ts) = unary_by end room sub t ts (prefix_of t)

-- the operator, if it binds as tightly as the level asks
abbrev pub from_level : ℕ → Option BinaryOperator → Option BinaryOperator
from_level min None = None
from_level min (Some op) = if nat_le min (level_of op) then Some op else None

-- one more operand to the right of l
unfoldable pub operand_of : ℕ → Readers → BinaryOperator → Tree → List Token → List Token → Answer Tree
operand_of room sub op l here ts = do
  s ← down_from room sub l here
  r ← s.climb (level_of op + 1) ts
  Ok (Binary op l r.0, r.1)

abbrev pub step_by : ℕ → Readers → (Tree → List Token → Answer Tree) → Tree → Token → List Token → Option BinaryOperator → Answer Tree
step_by room sub next l t ts None = Ok (l, t ∷ ts)
step_by room sub next l t ts (Some op) = operand_of room sub op l (t ∷ ts) ts >>= λ x. next x.0 x.1

-- more operands, as long as operators of the level follow; n is the number of tokens
unfoldable pub steps_of : ℕ → Readers → ℕ → ℕ → Tree → List Token → Answer Tree
steps_of room sub min zero l ts = Ok (l, ts)
steps_of room sub min (suc n) l [] = Ok (l, [])
steps_of room sub min (suc n) l (t ∷ ts) = step_by room sub (steps_of room sub min n) l t ts (from_level min (infix_of t))

unfoldable pub climb_of : ℕ → ℕ → Readers → ℕ → List Token → Answer Tree
climb_of end room sub min ts = do
  x ← unary_of end room sub ts
  steps_of room sub min (length x.1) x.0 x.1

unfoldable pub branches_of : ℕ → Readers → Tree → List Token → List Token → Answer Tree
branches_of room sub c here ts = do
  s ← down_from room sub c here
  a ← s.expression ts
  rest ← after mark.Colon a.1
  b ← s.expression rest
  Ok (Conditional c a.0 b.0, b.1)

abbrev pub choose_by : ℕ → Readers → Tree → List Token → Option (List Token) → Answer Tree
choose_by room sub c ts None = Ok (c, ts)
choose_by room sub c ts (Some us) = branches_of room sub c ts us

unfoldable pub choose_of : ℕ → Readers → Tree → List Token → Answer Tree
choose_of room sub c ts = choose_by room sub c ts (behind mark.Question ts)

unfoldable pub whole_of : ℕ → ℕ → Readers → List Token → Answer Tree
whole_of end room sub ts = do
  c ← climb_of end room sub 2 ts
  choose_of room sub c.0 c.1

-- ---- targets

abbrev pub and_first_target : TargetTree → TargetTrees × List Token → Answer TargetTrees
and_first_target t all = Ok (more_targets t all.0, all.1)

abbrev pub other_targets_by : Readers → (List Token → Answer TargetTrees) → List Token → Option (List Token) → Answer TargetTrees
other_targets_by s next ts (Some us) = Ok (no_target, us)
other_targets_by s next ts None = do
  us ← after mark.Comma ts
  t ← s.target us
  all ← next t.1
  and_first_target t.0 all

unfoldable pub other_targets_of : Readers → ℕ → List Token → Answer TargetTrees
other_targets_of s zero ts = syntax_at ts
other_targets_of s (suc n) ts = other_targets_by s (other_targets_of s n) ts (behind mark.CloseBrace ts)

unfoldable pub target_parts_of : Readers → TargetTree → List Token → Answer TargetTrees
target_parts_of s t ts = other_targets_of s (length ts) ts >>= and_first_target t

unfoldable pub joined_of : ℕ → ℕ → Readers → List Token → List Token → Answer TargetTree
joined_of end room sub here ts = do
  s ← down room sub here
  t ← s.target ts
  all ← target_parts_of s t.0 t.1
  Ok (JoinedTarget (place end here) all.0, all.1)

unfoldable pub named_target_of : ℕ → ℕ → Readers → ℕ → List ℕ → List Token → Answer TargetTree
named_target_of end room sub at name ts = do
  x ← selects_of end room sub ts
  Ok (NamedTarget at name x.0, x.1)

unfoldable pub any_target_of : ℕ → ℕ → Readers → List Token → Answer TargetTree
any_target_of end room sub (token.Name name ∷ ts) = named_target_of end room sub (place end (token.Name name ∷ ts)) name ts
any_target_of end room sub (token.Mark mark.OpenBrace ∷ ts) = joined_of end room sub (token.Mark mark.OpenBrace ∷ ts) ts
any_target_of end room sub ts = syntax_at ts

-- ---- the levels

-- the readers with so many levels below them
abbrev pub layer : ℕ → ℕ → Readers → Readers
layer end room sub = record {
  expression = whole_of end room sub;
  climb = climb_of end room sub;
  unary = unary_of end room sub;
  target = any_target_of end room sub;
}

unfoldable pub nothing : Readers
nothing = record { expression = syntax_at; climb = λ min. syntax_at; unary = syntax_at; target = syntax_at }

unfoldable pub below : ℕ → ℕ → Readers
below end zero = nothing
below end (suc room) = layer end room (below end room)

-- ---- what is read with so many levels below

abbrev pub expression_of : ℕ → ℕ → List Token → Answer Tree
expression_of end room ts = whole_of end room (below end room) ts

abbrev pub target_of : ℕ → ℕ → List Token → Answer TargetTree
target_of end room ts = any_target_of end room (below end room) ts
