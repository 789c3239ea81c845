-- A means of proof: with which tokens items and their parts begin, for the proofs of Verilog's parser.
use Rattle.std.specs.Prelude.{Bool, true, false, List, [], ◌∷◌, Option, Some, None}
use Rattle.v_syntax.specs.declared.token.Token.{Token}
use Rattle.v_syntax.specs.declared.token.Token.TheVariants as token
use Rattle.v_syntax.specs.declared.mark.Mark.{Mark}
use Rattle.v_syntax.specs.declared.mark.Mark.TheVariants as mark
use Rattle.v_syntax.specs.declared.word.Keyword.{Keyword}
use Rattle.v_syntax.specs.declared.word.Keyword.TheVariants as word
use Rattle.v_syntax.specs.declared.item.ItemForm.{ItemForm}
use Rattle.v_syntax.specs.declared.item.ItemForm.TheVariants as form
use Rattle.v_syntax.specs.TokenMeanings.{direction_of, port_kind, edge_of, event_separator}
use Rattle.v_expression.specs.Starts.{begins_expression}
use Rattle.v_expression.specs.Phrase.Readers.{is_some, starts_with}

abbrev pub word_form : Keyword → Option ItemForm
word_form word.Input = Some form.Ports
word_form word.Output = Some form.Ports
word_form word.Wire = Some form.Nets
word_form word.Reg = Some form.Registers
word_form word.Integer = Some form.Integers
word_form word.Parameter = Some form.Parameters
word_form word.LocalParam = Some form.Parameters
word_form word.Assign = Some form.ContinuousAssignments
word_form word.Always = Some form.Always
word_form word.Initial = Some form.Initial
word_form _ = None

-- the form of an item that begins with this token
abbrev pub token_form : Token → Option ItemForm
token_form (token.Name name) = Some form.Instance
token_form (token.Keyword w) = word_form w
token_form (token.Mark m) = None
token_form (token.SystemTask t) = None
token_form (token.Reserved w) = None
token_form (token.Number ds) = None
token_form (token.Text t) = None

abbrev pub form_of : List Token → Option ItemForm
form_of [] = None
form_of (t ∷ ts) = token_form t

abbrev pub starts_item : List Token → Bool
starts_item ts = is_some (form_of ts)

-- `input` or `output`
abbrev pub starts_direction : List Token → Bool
starts_direction ts = starts_with (λ t. is_some (direction_of t)) ts

-- `wire` or `reg`
abbrev pub starts_kind : List Token → Bool
starts_kind ts = starts_with (λ t. is_some (port_kind t)) ts

-- `posedge` or `negedge`
abbrev pub starts_edge : List Token → Bool
starts_edge ts = starts_with (λ t. is_some (edge_of t)) ts

-- `or` or a comma
abbrev pub starts_separator : List Token → Bool
starts_separator ts = starts_with (λ t. is_some (event_separator t)) ts

abbrev pub mark_begins_tail : Mark → Bool
mark_begins_tail mark.OpenBracket = true
mark_begins_tail mark.Assign = true
mark_begins_tail _ = false

abbrev pub begins_tail : Token → Bool
begins_tail (token.Mark m) = mark_begins_tail m
begins_tail (token.Name n) = false
begins_tail (token.Keyword w) = false
begins_tail (token.SystemTask t) = false
begins_tail (token.Reserved w) = false
begins_tail (token.Number ds) = false
begins_tail (token.Text t) = false

-- what may stand behind a register's name: a range, or `=`
abbrev pub starts_tail : List Token → Bool
starts_tail ts = starts_with begins_tail ts

abbrev pub mark_begins_connection : Mark → Bool
mark_begins_connection mark.Dot = true
mark_begins_connection m = begins_expression (token.Mark m)

abbrev pub begins_connection : Token → Bool
begins_connection (token.Mark m) = mark_begins_connection m
begins_connection (token.Name n) = true
begins_connection (token.Number ds) = true
begins_connection (token.Keyword w) = false
begins_connection (token.SystemTask t) = false
begins_connection (token.Reserved w) = false
begins_connection (token.Text t) = false

-- a dot or an expression
abbrev pub starts_connections : List Token → Bool
starts_connections ts = starts_with begins_connection ts
