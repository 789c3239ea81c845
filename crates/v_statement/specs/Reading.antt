-- A means of proof: what the code reads, step by step. `end` is the number of the text's tokens; `room` bounds the heights of
-- a statement's parts, as the rules' n does, and s reads a statement one level down.
use Rattle.std.specs.Prelude.{ℕ, zero, suc, List, Option, Some, None, Result, Ok}
use Rattle.four_value.specs.declared.Digit.{Digit}
use Rattle.v_syntax.specs.declared.token.Token.{Token}
use Rattle.v_syntax.specs.declared.mark.Mark.TheVariants as mark
use Rattle.v_syntax.specs.declared.word.Keyword.TheVariants as word
use Rattle.v_syntax.specs.declared.statement.AssignmentKind.{AssignmentKind}
use Rattle.v_syntax.specs.declared.statement.AssignmentKind.TheVariants.{Blocking}
use Rattle.v_syntax.specs.declared.statement.CaseKind.{CaseKind}
use Rattle.v_syntax.specs.declared.statement.StatementForm.{StatementForm}
use Rattle.v_syntax.specs.declared.statement.StatementForm.TheVariants as form
use Rattle.v_syntax.specs.declared.statement.StatementPlace.{StatementPlace}
use Rattle.v_syntax.specs.declared.statement.StatementPlace.TheVariants.{InAlways, InInitial, WholeInitial}
use Rattle.v_syntax.specs.ExpressionTrees.{Tree}
use Rattle.v_syntax.specs.StatementTrees.{ArgumentTree, Value, Text, VariableTree, Variable, HeaderTree, Header, StatementTree, Null, Delay, CaseTree, Match, Default}
use Rattle.v_syntax.specs.TokenMeanings.{name_of, number_of, text_of, task_of, case_kind}
use Rattle.v_syntax.specs.Statements.{inside, delayed_tree, delay_value, later_kind, assignment_tree, if_tree, case_tree, numbered, for_tree, task_tree}
use Rattle.v_expression.specs.Phrase.Stops.{Stop, ◌>>=◌, deep_at}
use Rattle.v_expression.specs.Reading.{expression_of, target_of}
use Rattle.v_expression.specs.Starts.{starts_expression}
use Rattle.v_expression.specs.Phrase.Readers.{Reader, nothing, token_of, place_in, both, ◌⊛◌, ◌◃◌, ◌▹◌, maybe, many, some, one_of, either, down, starts_mark, starts_word, sign, word_of, identifier_of, listed}
use Rattle.v_statement.specs.Firsts.{form_of, starts_statement, starts_argument, starts_case}

unfoldable pub label_of : Reader (List ℕ)
label_of = sign mark.Colon ▹ token_of name_of

unfoldable pub delay_of : ℕ → Reader StatementTree
delay_of end = nothing Delay ◃ sign mark.Hash ⊛ place_in end ⊛ token_of number_of ◃ sign mark.Semicolon

-- ---- assignments

unfoldable pub delay_control_of : ℕ → Reader (ℕ × List Digit)
delay_control_of end = nothing delay_value ◃ sign mark.Hash ⊛ place_in end ⊛ token_of number_of

-- <= [# number]
unfoldable pub later_kind_of : ℕ → Reader AssignmentKind
later_kind_of end = nothing later_kind ◃ sign mark.LessOrEqual ⊛ maybe (starts_mark mark.Hash) (delay_control_of end)

unfoldable pub assignment_kind_of : ℕ → Reader AssignmentKind
assignment_kind_of end = either (starts_mark mark.Assign) (nothing Blocking ◃ sign mark.Assign) (later_kind_of end)

unfoldable pub assignment_of : ℕ → ℕ → Reader StatementTree
assignment_of end room = down room (λ r. nothing assignment_tree ⊛ target_of end r ⊛ assignment_kind_of end ⊛ expression_of end r ◃ sign mark.Semicolon)

-- how many levels are left below, where one is needed
unfoldable pub levels : ℕ → List Token → Result ℕ Stop
levels zero ts = deep_at ts
levels (suc room) ts = Ok room

-- ---- system tasks

-- an expression one level down
unfoldable pub value_below : ℕ → ℕ → Reader Tree
value_below end room = down room (expression_of end)

unfoldable pub argument_of : ℕ → ℕ → Reader ArgumentTree
argument_of end room = either starts_expression (nothing Value ⊛ value_below end room) (nothing Text ⊛ token_of text_of)

unfoldable pub arguments_of : ℕ → ℕ → Reader (Option (List ArgumentTree))
arguments_of end room = sign mark.OpenParenthesis ▹ maybe starts_argument (listed (argument_of end room)) ◃ sign mark.CloseParenthesis

unfoldable pub task_of_room : ℕ → ℕ → Reader StatementTree
task_of_room end room = nothing task_tree ⊛ token_of task_of ⊛ maybe (starts_mark mark.OpenParenthesis) (arguments_of end room) ◃ sign mark.Semicolon

-- ---- blocks

unfoldable pub maybe_label_of : Reader (Option (List ℕ))
maybe_label_of = maybe (starts_mark mark.Colon) label_of

unfoldable pub block_head_of : Reader (Option (List ℕ))
block_head_of ts = word_of word.Begin ts >>= λ u. maybe_label_of u.1

unfoldable pub statements_of : StatementPlace → Reader StatementTree → Reader (List StatementTree)
statements_of place s = many (starts_statement place) s

unfoldable pub delay_below_of : ℕ → ℕ → Reader StatementTree
delay_below_of end room = down room (λ r. delay_of end)

unfoldable pub maybe_delay_of : ℕ → ℕ → Reader (Option StatementTree)
maybe_delay_of end room = maybe (starts_mark mark.Hash) (delay_below_of end room)

unfoldable pub last_delay_of : ℕ → ℕ → StatementPlace → Reader (Option StatementTree)
last_delay_of end room InAlways = nothing None
last_delay_of end room InInitial = nothing None
last_delay_of end room WholeInitial = maybe_delay_of end room

-- what stands behind the statements
unfoldable pub block_end_of : ℕ → ℕ → StatementPlace → Option (List ℕ) → List StatementTree → Reader StatementTree
block_end_of end room place l ss = both (λ d u. delayed_tree l ss d) (last_delay_of end room place) (word_of word.End)

unfoldable pub block_of : ℕ → ℕ → StatementPlace → Reader StatementTree → Reader StatementTree
block_of end room place s ts = block_head_of ts >>= λ l. statements_of (inside place) s l.1 >>= λ ss. block_end_of end room place l.0 ss.0 ss.1

-- ---- conditional statements

unfoldable pub condition_of : ℕ → ℕ → Reader Tree
condition_of end room = down room (λ r. word_of word.If ▹ sign mark.OpenParenthesis ▹ expression_of end r ◃ sign mark.CloseParenthesis)

unfoldable pub otherwise_of : Reader StatementTree → Reader (Option StatementTree)
otherwise_of s = maybe (starts_word word.Else) (word_of word.Else ▹ s)

unfoldable pub conditional_of : ℕ → ℕ → Reader StatementTree → Reader StatementTree
conditional_of end room s ts = condition_of end room ts >>= λ c. s c.1 >>= λ x. otherwise_of s x.1 >>= λ y. Ok (if_tree c.0 (x.0, y.0), y.1)

-- ---- case statements

abbrev pub pair : {A B : Type 0} → A → B → A × B
pair x y = (x, y)

unfoldable pub case_head_of : ℕ → ℕ → Reader (CaseKind × Tree)
case_head_of end room = down room (λ r. nothing pair ⊛ token_of case_kind ◃ sign mark.OpenParenthesis ⊛ expression_of end r ◃ sign mark.CloseParenthesis)

unfoldable pub default_of : Reader (Unit {0})
default_of = nothing tt ◃ word_of word.Default ◃ maybe (starts_mark mark.Colon) (sign mark.Colon)

unfoldable pub matched_of : ℕ → ℕ → Reader (List Tree)
matched_of end room = down room (λ r. listed (expression_of end r) ◃ sign mark.Colon)

-- the expressions of an item, or none for `default`
unfoldable pub choices_of : ℕ → ℕ → Reader (Option (List Tree))
choices_of end room = either (starts_word word.Default) (nothing None ◃ default_of) (nothing Some ⊛ matched_of end room)

abbrev pub case_item_tree : Option (List Tree) → StatementTree → CaseTree
case_item_tree (Some ls) s = Match ls s
case_item_tree None s = Default s

unfoldable pub case_item_of : ℕ → ℕ → Reader StatementTree → Reader CaseTree
case_item_of end room s = both case_item_tree (choices_of end room) s

unfoldable pub case_items_of : ℕ → ℕ → Reader StatementTree → Reader (List CaseTree)
case_items_of end room s = some starts_case (case_item_of end room s)

abbrev pub case_with : CaseKind × Tree → List CaseTree → StatementTree
case_with (k, e) cs = case_tree k e cs

unfoldable pub case_of : ℕ → ℕ → Reader StatementTree → Reader StatementTree
case_of end room s ts = case_head_of end room ts >>= λ h. case_items_of end room s h.1 >>= λ cs. word_of word.EndCase cs.1 >>= λ u. Ok (case_with h.0 cs.0, u.1)

-- ---- loops

unfoldable pub variable_of : ℕ → ℕ → Reader VariableTree
variable_of end r = nothing Variable ⊛ identifier_of end ◃ sign mark.Assign ⊛ expression_of end r

unfoldable pub header_of : ℕ → ℕ → Reader HeaderTree
header_of end r =
    nothing Header ◃ sign mark.OpenParenthesis ⊛ variable_of end r ◃ sign mark.Semicolon ⊛ expression_of end r ◃ sign mark.Semicolon
    ⊛ variable_of end r ◃ sign mark.CloseParenthesis

unfoldable pub for_head_of : ℕ → ℕ → Reader (ℕ × HeaderTree)
for_head_of end room = down room (λ r. nothing numbered ⊛ place_in end ◃ word_of word.For ⊛ header_of end r)

unfoldable pub for_of : ℕ → ℕ → Reader StatementTree → Reader StatementTree
for_of end room s = both for_tree (for_head_of end room) s

-- ---- where a statement stands

unfoldable pub null_of : Reader StatementTree
null_of = nothing Null ◃ sign mark.Semicolon

-- s reads a statement one level down
abbrev pub statement_of_form : ℕ → StatementPlace → ℕ → Reader StatementTree → StatementForm → Reader StatementTree
statement_of_form end place room s form.Null = null_of
statement_of_form end place room s form.Block = block_of end room place s
statement_of_form end place room s form.Assignment = assignment_of end room
statement_of_form end place room s form.If = conditional_of end room s
statement_of_form end place room s form.Case = case_of end room s
statement_of_form end place room s form.For = for_of end room s
statement_of_form end place room s form.TaskEnable = task_of_room end room
statement_of_form end place room s form.Delay = delay_of end

abbrev pub statement_by : ℕ → StatementPlace → ℕ → Reader StatementTree → Reader StatementTree
statement_by end place room s = one_of (form_of place) (statement_of_form end place room s)

-- a statement one level down, where so many levels are left
unfoldable pub lower : ℕ → ℕ → StatementPlace → Reader StatementTree
lower end zero place = deep_at
lower end (suc room) place = statement_by end place room (lower end room (inside place))

-- a statement that has so many levels below its own
abbrev pub statement_of : ℕ → ℕ → StatementPlace → Reader StatementTree
statement_of end room place = statement_by end place room (lower end room (inside place))
