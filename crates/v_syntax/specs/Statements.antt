-- The grammar of statements (IEEE 1364-2005, annex A.6). Each phrase is one rule; `end` is the number of all tokens, and n
-- bounds the height of what is spelled, of partial trees too.
use Rattle.std.specs.Prelude.{ℕ, zero, suc, ◌≤◌, List, [], ◌∷◌, ◌++◌, Option, Some, None, ◌⊎◌}
use Rattle.four_value.specs.declared.Digit.{Digit}
use Rattle.v_syntax.specs.declared.token.Token.{Token}
use Rattle.v_syntax.specs.declared.token.Token.TheVariants as token
use Rattle.v_syntax.specs.declared.mark.Mark.{Mark}
use Rattle.v_syntax.specs.declared.mark.Mark.TheVariants as mark
use Rattle.v_syntax.specs.declared.word.Keyword.{Keyword}
use Rattle.v_syntax.specs.declared.word.Keyword.TheVariants as word
use Rattle.v_syntax.specs.declared.word.SystemTask.{SystemTask}
use Rattle.v_syntax.specs.declared.statement.Identifier.{Identifier}
use Rattle.v_syntax.specs.declared.statement.AssignmentKind.{AssignmentKind}
use Rattle.v_syntax.specs.declared.statement.AssignmentKind.TheVariants.{Blocking, Nonblocking, Delayed}
use Rattle.v_syntax.specs.declared.statement.CaseKind.{CaseKind}
use Rattle.v_syntax.specs.declared.statement.StatementForm.{StatementForm}
use Rattle.v_syntax.specs.declared.statement.StatementForm.TheVariants as form
use Rattle.v_syntax.specs.declared.statement.StatementPlace.{StatementPlace}
use Rattle.v_syntax.specs.declared.statement.StatementPlace.TheVariants.{InAlways, InInitial, WholeInitial}
use Rattle.v_syntax.specs.ExpressionTrees.{Tree, TargetTree, height, target_height}
use Rattle.v_syntax.specs.ExpressionSpans.{Spans, TargetSpans}
use Rattle.v_syntax.specs.ExpressionFronts.{Begins, TargetBegins}
use Rattle.v_syntax.specs.StatementTrees.{ArgumentTree, Value, Text, VariableTree, Variable, HeaderTree, Header, StatementTree, Null, Block, Assignment, If, IfElse, Case, For, TaskEnable, Delay, CaseTree, Match, Default, statement_trees, case_trees}
use Rattle.v_syntax.specs.TokenMeanings.{name_of, number_of, text_of, task_of, case_kind}
use Rattle.v_syntax.specs.Phrases.{Phrase, nothing, never, both, exactly, token_of, place_in, ◌⊛◌, ◌◃◌, ◌▹◌, maybe, many, some, separated, one_of, either}

abbrev pub sign : Mark → Phrase Token (Unit {0})
sign m = exactly (token.Mark m)

abbrev pub word_of : Keyword → Phrase Token (Unit {0})
word_of k = exactly (token.Keyword k)

abbrev pub listed : {A : Type 0} → Phrase Token A → Phrase Token (List A)
listed p = separated (sign mark.Comma) p

abbrev pub named_at : ℕ → List ℕ → Identifier
named_at at name = record { at = at; name = name }

abbrev pub identifier : ℕ → Phrase Token Identifier
identifier end = nothing named_at ⊛ place_in end ⊛ token_of name_of

-- ---- expressions and targets

abbrev pub expression : ℕ → ℕ → Phrase Token Tree
expression end n = record {
  whole = λ e here rest. Spans end e here rest × (height e ≤ n);
  front = λ here rest. Begins end n 1 here rest;
  missing = 1 ≤ n;
}

abbrev pub target : ℕ → ℕ → Phrase Token TargetTree
target end n = record {
  whole = λ t here rest. TargetSpans end t here rest × (target_height t ≤ n);
  front = λ here rest. TargetBegins end n here rest;
  missing = 1 ≤ n;
}

-- ---- an `else` belongs to the nearest `if` (clause 9.4)

-- An `else` that follows belongs to no part of the statement.
unfoldable pub IsClosed : StatementTree → Type 0
IsClosed (If c s) = ⊥
IsClosed (IfElse c s r) = IsClosed r
IsClosed (For at h s) = IsClosed s
IsClosed Null = Unit {0}
IsClosed (Block l ss) = Unit {0}
IsClosed (Assignment k t e) = Unit {0}
IsClosed (Case k e cs) = Unit {0}
IsClosed (TaskEnable t es) = Unit {0}
IsClosed (Delay at ds) = Unit {0}

abbrev pub WholeBranches : Phrase Token StatementTree → StatementTree × Option StatementTree → List Token → List Token → Type 0
WholeBranches s (x, None) here rest = s.whole x here rest
WholeBranches s (x, Some y) here rest = (mid : List Token) × s.whole x here mid × IsClosed x × (word_of word.Else ▹ s).whole y mid rest

-- a statement, and where it is closed perhaps an `else` with another
abbrev pub branches : Phrase Token StatementTree → Phrase Token (StatementTree × Option StatementTree)
branches s = record {
  whole = λ x here rest. WholeBranches s x here rest;
  front = λ here rest. s.front here rest ⊎ ((x : StatementTree) × (mid : List Token) × s.whole x here mid × IsClosed x × (word_of word.Else ▹ s).front mid rest);
  missing = s.missing;
}

-- ---- the rules; s is a statement one level down

abbrev pub label : Phrase Token (List ℕ)
label = sign mark.Colon ▹ token_of name_of

-- # number ; (annex A.6.5)
abbrev pub delay : ℕ → Phrase Token StatementTree
delay end = nothing Delay ◃ sign mark.Hash ⊛ place_in end ⊛ token_of number_of ◃ sign mark.Semicolon

abbrev pub block_tree : Option (List ℕ) → List StatementTree → StatementTree
block_tree l ss = Block l (statement_trees ss)

-- begin [: name] {statement} end (annex A.6.3)
abbrev pub block : Phrase Token StatementTree → Phrase Token StatementTree
block s = nothing block_tree ◃ word_of word.Begin ⊛ maybe label ⊛ many s ◃ word_of word.End

-- the same with a delay behind its statements
abbrev pub with_delay : List StatementTree → Option StatementTree → List StatementTree
with_delay ss None = ss
with_delay ss (Some d) = ss ++ (d ∷ [])

abbrev pub delayed_tree : Option (List ℕ) → List StatementTree → Option StatementTree → StatementTree
delayed_tree l ss d = Block l (statement_trees (with_delay ss d))

-- it is a statement one level down; n bounds the heights there
abbrev pub delay_below : ℕ → ℕ → Phrase Token StatementTree
delay_below end zero = never
delay_below end (suc n) = delay end

abbrev pub delayed_block : ℕ → ℕ → Phrase Token StatementTree → Phrase Token StatementTree
delayed_block end n s = nothing delayed_tree ◃ word_of word.Begin ⊛ maybe label ⊛ many s ⊛ maybe (delay_below end n) ◃ word_of word.End

-- the number of the number's token, and its digits
abbrev pub delay_value : ℕ → List Digit → ℕ × List Digit
delay_value at ds = (at, ds)

-- # number, in an assignment (annex A.6.5)
abbrev pub delay_control : ℕ → Phrase Token (ℕ × List Digit)
delay_control end = nothing delay_value ◃ sign mark.Hash ⊛ place_in end ⊛ token_of number_of

abbrev pub later_kind : Option (ℕ × List Digit) → AssignmentKind
later_kind None = Nonblocking
later_kind (Some (at, ds)) = Delayed at ds

-- = or <= [# number]
abbrev pub assignment_kind : ℕ → Phrase Token AssignmentKind
assignment_kind end = either (nothing Blocking ◃ sign mark.Assign) (nothing later_kind ◃ sign mark.LessOrEqual ⊛ maybe (delay_control end))

abbrev pub assignment_tree : TargetTree → AssignmentKind → Tree → StatementTree
assignment_tree t k e = Assignment k t e

-- target = expression ; or target <= [# number] expression ; (annex A.6.2)
abbrev pub assignment : ℕ → ℕ → Phrase Token StatementTree
assignment end n = nothing assignment_tree ⊛ target end n ⊛ assignment_kind end ⊛ expression end n ◃ sign mark.Semicolon

abbrev pub if_tree : Tree → StatementTree × Option StatementTree → StatementTree
if_tree c (s, None) = If c s
if_tree c (s, Some r) = IfElse c s r

-- if ( expression ) statement [else statement] (annex A.6.6)
abbrev pub conditional : ℕ → ℕ → Phrase Token StatementTree → Phrase Token StatementTree
conditional end n s = both if_tree (word_of word.If ▹ sign mark.OpenParenthesis ▹ expression end n ◃ sign mark.CloseParenthesis) (branches s)

-- expression , .. : statement (annex A.6.7)
abbrev pub match_item : ℕ → ℕ → Phrase Token StatementTree → Phrase Token CaseTree
match_item end n s = nothing Match ⊛ listed (expression end n) ◃ sign mark.Colon ⊛ s

-- default [:] statement (annex A.6.7)
abbrev pub default_item : Phrase Token StatementTree → Phrase Token CaseTree
default_item s = nothing Default ◃ word_of word.Default ◃ maybe (sign mark.Colon) ⊛ s

abbrev pub case_item : ℕ → ℕ → Phrase Token StatementTree → Phrase Token CaseTree
case_item end n s = either (match_item end n s) (default_item s)

abbrev pub case_tree : CaseKind → Tree → List CaseTree → StatementTree
case_tree k e cs = Case k e (case_trees cs)

-- case ( expression ) item {item} endcase (annex A.6.7)
abbrev pub case_statement : ℕ → ℕ → Phrase Token StatementTree → Phrase Token StatementTree
case_statement end n s = nothing case_tree ⊛ token_of case_kind ◃ sign mark.OpenParenthesis ⊛ expression end n ◃ sign mark.CloseParenthesis ⊛ some (case_item end n s) ◃ word_of word.EndCase

-- name = expression
abbrev pub variable_assignment : ℕ → ℕ → Phrase Token VariableTree
variable_assignment end n = nothing Variable ⊛ identifier end ◃ sign mark.Assign ⊛ expression end n

-- ( name = expression ; expression ; name = expression )
abbrev pub for_header : ℕ → ℕ → Phrase Token HeaderTree
for_header end n =
    nothing Header ◃ sign mark.OpenParenthesis ⊛ variable_assignment end n ◃ sign mark.Semicolon ⊛ expression end n ◃ sign mark.Semicolon
    ⊛ variable_assignment end n ◃ sign mark.CloseParenthesis

abbrev pub numbered : ℕ → HeaderTree → ℕ × HeaderTree
numbered at h = (at, h)

abbrev pub for_tree : ℕ × HeaderTree → StatementTree → StatementTree
for_tree (at, h) s = For at h s

-- for header statement (annex A.6.8)
abbrev pub for_statement : ℕ → ℕ → Phrase Token StatementTree → Phrase Token StatementTree
for_statement end n s = both for_tree (nothing numbered ⊛ place_in end ◃ word_of word.For ⊛ for_header end n) s

abbrev pub argument : ℕ → ℕ → Phrase Token ArgumentTree
argument end n = either (nothing Value ⊛ expression end n) (nothing Text ⊛ token_of text_of)

-- ( [argument , ..] ) (annex A.6.9)
abbrev pub arguments : ℕ → ℕ → Phrase Token (Option (List ArgumentTree))
arguments end n = sign mark.OpenParenthesis ▹ maybe (listed (argument end n)) ◃ sign mark.CloseParenthesis

abbrev pub all_arguments : Option (Option (List ArgumentTree)) → List ArgumentTree
all_arguments (Some (Some es)) = es
all_arguments _ = []

abbrev pub task_tree : SystemTask → Option (Option (List ArgumentTree)) → StatementTree
task_tree t es = TaskEnable t (all_arguments es)

-- $dumpfile or $dumpvars, its arguments, and ;
abbrev pub task_enable : ℕ → ℕ → Phrase Token StatementTree
task_enable end n = nothing task_tree ⊛ token_of task_of ⊛ maybe (arguments end n) ◃ sign mark.Semicolon

-- ---- where a rule stands

-- the parts of a statement that stands there
abbrev pub inside : StatementPlace → StatementPlace
inside InAlways = InAlways
inside InInitial = InInitial
inside WholeInitial = InInitial

abbrev pub block_at : ℕ → StatementPlace → ℕ → Phrase Token StatementTree → Phrase Token StatementTree
block_at end WholeInitial n s = delayed_block end n s
block_at end _ n s = block s

abbrev pub task_at : ℕ → StatementPlace → ℕ → Phrase Token StatementTree
task_at end InAlways n = never
task_at end _ n = task_enable end n

abbrev pub delay_at : ℕ → StatementPlace → Phrase Token StatementTree
delay_at end WholeInitial = delay end
delay_at end _ = never

-- a statement of a form; n bounds the heights of its parts, and s is a statement one level down
abbrev pub statement_of_form : ℕ → StatementPlace → ℕ → Phrase Token StatementTree → StatementForm → Phrase Token StatementTree
statement_of_form end place n s form.Null = nothing Null ◃ sign mark.Semicolon
statement_of_form end place n s form.Block = block_at end place n s
statement_of_form end place n s form.Assignment = assignment end n
statement_of_form end place n s form.If = conditional end n s
statement_of_form end place n s form.Case = case_statement end n s
statement_of_form end place n s form.For = for_statement end n s
statement_of_form end place n s form.TaskEnable = task_at end place n
statement_of_form end place n s form.Delay = delay_at end place

-- A statement of height at most n: it is one more than the highest statement or expression in it.
unfoldable pub statement : ℕ → ℕ → StatementPlace → Phrase Token StatementTree
statement end zero place = never
statement end (suc n) place = one_of (statement_of_form end place n (statement end n (inside place)))
