-- A means of proof: with which tokens the parts of a statement begin, for the proofs of Verilog's parser.
use Rattle.std.specs.Prelude.{Bool, true, false, List, [], ◌∷◌, Option, Some, None}
use Rattle.v_syntax.specs.declared.token.Token.{Token}
use Rattle.v_syntax.specs.declared.token.Token.TheVariants as token
use Rattle.v_syntax.specs.declared.mark.Mark.{Mark}
use Rattle.v_syntax.specs.declared.mark.Mark.TheVariants as mark
use Rattle.v_syntax.specs.declared.word.Keyword.{Keyword}
use Rattle.v_syntax.specs.declared.word.Keyword.TheVariants as word
use Rattle.v_syntax.specs.declared.statement.StatementForm.{StatementForm}
use Rattle.v_syntax.specs.declared.statement.StatementForm.TheVariants as form
use Rattle.v_syntax.specs.declared.statement.StatementPlace.{StatementPlace}
use Rattle.v_syntax.specs.declared.statement.StatementPlace.TheVariants.{InAlways, InInitial, WholeInitial}
use Rattle.v_expression.specs.Starts.{begins_expression}
use Rattle.v_expression.specs.Phrase.Readers.{is_some}

-- a system task stands inside of an `initial`
abbrev pub task_form : StatementPlace → Option StatementForm
task_form InAlways = None
task_form InInitial = Some form.TaskEnable
task_form WholeInitial = Some form.TaskEnable

-- a delay is the whole statement of an `initial`
abbrev pub delay_form : StatementPlace → Option StatementForm
delay_form InAlways = None
delay_form InInitial = None
delay_form WholeInitial = Some form.Delay

abbrev pub mark_form : StatementPlace → Mark → Option StatementForm
mark_form place mark.Semicolon = Some form.Null
mark_form place mark.OpenBrace = Some form.Assignment
mark_form place mark.Hash = delay_form place
mark_form place _ = None

abbrev pub word_form : Keyword → Option StatementForm
word_form word.Begin = Some form.Block
word_form word.If = Some form.If
word_form word.Case = Some form.Case
word_form word.CaseZ = Some form.Case
word_form word.CaseX = Some form.Case
word_form word.For = Some form.For
word_form _ = None

-- the form of a statement that begins with this token
abbrev pub token_form : StatementPlace → Token → Option StatementForm
token_form place (token.Name name) = Some form.Assignment
token_form place (token.Mark m) = mark_form place m
token_form place (token.Keyword w) = word_form w
token_form place (token.SystemTask t) = task_form place
token_form place (token.Reserved w) = None
token_form place (token.Number ds) = None
token_form place (token.Text t) = None

abbrev pub form_of : StatementPlace → List Token → Option StatementForm
form_of place [] = None
form_of place (t ∷ ts) = token_form place t

abbrev pub starts_statement : StatementPlace → List Token → Bool
starts_statement place ts = is_some (form_of place ts)

abbrev pub begins_argument : Token → Bool
begins_argument (token.Text t) = true
begins_argument (token.Name n) = true
begins_argument (token.Number ds) = true
begins_argument (token.Mark m) = begins_expression (token.Mark m)
begins_argument (token.Keyword w) = false
begins_argument (token.SystemTask t) = false
begins_argument (token.Reserved w) = false

-- an expression or a text
abbrev pub starts_argument : List Token → Bool
starts_argument [] = false
starts_argument (t ∷ ts) = begins_argument t

abbrev pub word_begins_case : Keyword → Bool
word_begins_case word.Default = true
word_begins_case _ = false

abbrev pub begins_case : Token → Bool
begins_case (token.Keyword w) = word_begins_case w
begins_case (token.Name n) = true
begins_case (token.Number ds) = true
begins_case (token.Mark m) = begins_expression (token.Mark m)
begins_case (token.SystemTask t) = false
begins_case (token.Reserved w) = false
begins_case (token.Text t) = false

-- an expression or `default`
abbrev pub starts_case : List Token → Bool
starts_case [] = false
starts_case (t ∷ ts) = begins_case t
