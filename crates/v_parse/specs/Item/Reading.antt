-- A means of proof: the readers of module items. Each is put together as its rule is. `end` is the number of the text's tokens, and what is
-- read has at most height room + 1.
use Rattle.std.specs.Prelude.{ℕ, List, Option, Ok}
use Rattle.v_syntax.specs.declared.mark.Mark.{Mark}
use Rattle.v_syntax.specs.declared.mark.Mark.TheVariants as mark
use Rattle.v_syntax.specs.declared.statement.Identifier.{Identifier}
use Rattle.v_syntax.specs.ExpressionSpans.{place}
use Rattle.v_expression.specs.Phrase.Stops.{◌>>=◌}
use Rattle.v_syntax.specs.declared.word.Keyword.TheVariants as word
use Rattle.v_syntax.specs.declared.statement.StatementPlace.TheVariants.{InAlways, WholeInitial}
use Rattle.v_syntax.specs.declared.item.Event.{Event}
use Rattle.v_syntax.specs.declared.item.ItemForm.{ItemForm}
use Rattle.v_syntax.specs.declared.item.ItemForm.TheVariants as form
use Rattle.v_syntax.specs.ExpressionTrees.{Tree}
use Rattle.v_syntax.specs.TokenMeanings.{direction_of, port_kind, parameter_kind, edge_of, event_separator}
use Rattle.v_syntax.specs.SourceTrees.{RangeTree, Bounds, PortHeadTree, Head, NetTree, Net, TailTree, Words, Initially, RegisterTree, Register, ParameterTree, Parameter, DriverTree, Driver, ControlTree, Implicit, Events, ConnectionTree, Connection, ConnectionsTree, Ordered, Named, KindTree, Ports, Nets, Registers, Integers, Parameters, Drivers, Always, Initial, Instance, ItemTree, ItemAt}
use Rattle.v_syntax.specs.Items.{event_of}
use Rattle.v_expression.specs.Reading.{expression_of, target_of}
use Rattle.v_expression.specs.Starts.{starts_expression}
use Rattle.v_expression.specs.Phrase.Readers.{Reader, nothing, token_of, place_in, ◌⊛◌, ◌◃◌, ◌▹◌, maybe, separated, one_of, either, starts_mark, sign, word_of, identifier_of, listed}
use Rattle.v_statement.specs.Reading.{statement_of}
use Rattle.v_parse.specs.Item.Firsts.{form_of, starts_kind, starts_edge, starts_separator, starts_tail, starts_connections}

-- ---- what items are made of

-- an expression and the mark behind it
unfoldable pub bound_of : ℕ → ℕ → Mark → Reader Tree
bound_of end room m = expression_of end room ◃ sign m

unfoldable pub range_of : ℕ → ℕ → Reader RangeTree
range_of end room ts =
    sign mark.OpenBracket ts >>= λ u. bound_of end room mark.Colon u.1 >>= λ l. bound_of end room mark.CloseBracket l.1 >>= λ r. Ok (Bounds (place end ts) l.0 r.0, r.1)

unfoldable pub maybe_range_of : ℕ → ℕ → Reader (Option RangeTree)
maybe_range_of end room = maybe (starts_mark mark.OpenBracket) (range_of end room)

unfoldable pub value_of : ℕ → ℕ → Reader Tree
value_of end room = sign mark.Assign ▹ expression_of end room

unfoldable pub port_head_of : ℕ → ℕ → Reader PortHeadTree
port_head_of end room = nothing Head ⊛ token_of direction_of ⊛ maybe starts_kind (token_of port_kind) ⊛ maybe_range_of end room

-- ---- declarations

-- a list and the semicolon behind it
unfoldable pub line_of : {A : Type 0} → Reader A → Reader (List A)
line_of p = listed p ◃ sign mark.Semicolon

unfoldable pub ports_of : ℕ → ℕ → Reader KindTree
ports_of end room ts = port_head_of end room ts >>= λ x. line_of (identifier_of end) x.1 >>= λ y. Ok (Ports x.0 y.0, y.1)

unfoldable pub net_of : ℕ → ℕ → Reader NetTree
net_of end room = nothing Net ⊛ identifier_of end ⊛ maybe (starts_mark mark.Assign) (value_of end room)

unfoldable pub nets_of : ℕ → ℕ → Reader KindTree
nets_of end room ts = word_of word.Wire ts >>= λ u. maybe_range_of end room u.1 >>= λ x. line_of (net_of end room) x.1 >>= λ y. Ok (Nets x.0 y.0, y.1)

unfoldable pub tail_of : ℕ → ℕ → Reader TailTree
tail_of end room = either (starts_mark mark.OpenBracket) (nothing Words ⊛ range_of end room) (nothing Initially ⊛ value_of end room)

unfoldable pub register_of : ℕ → ℕ → Reader RegisterTree
register_of end room = nothing Register ⊛ identifier_of end ⊛ maybe starts_tail (tail_of end room)

unfoldable pub registers_of : ℕ → ℕ → Reader KindTree
registers_of end room ts = word_of word.Reg ts >>= λ u. maybe_range_of end room u.1 >>= λ x. line_of (register_of end room) x.1 >>= λ y. Ok (Registers x.0 y.0, y.1)

unfoldable pub integers_of : ℕ → Reader KindTree
integers_of end = nothing Integers ◃ word_of word.Integer ⊛ listed (identifier_of end) ◃ sign mark.Semicolon

unfoldable pub parameter_of : ℕ → ℕ → Reader ParameterTree
parameter_of end room = nothing Parameter ⊛ identifier_of end ⊛ value_of end room

unfoldable pub parameters_of : ℕ → ℕ → Reader KindTree
parameters_of end room ts = token_of parameter_kind ts >>= λ x. maybe_range_of end room x.1 >>= λ y. line_of (parameter_of end room) y.1 >>= λ z. Ok (Parameters x.0 y.0 z.0, z.1)

-- ---- assignments and processes

unfoldable pub driver_of : ℕ → ℕ → Reader DriverTree
driver_of end room = nothing Driver ⊛ target_of end room ⊛ value_of end room

unfoldable pub drivers_of : ℕ → ℕ → Reader KindTree
drivers_of end room = nothing Drivers ◃ word_of word.Assign ⊛ listed (driver_of end room) ◃ sign mark.Semicolon

unfoldable pub event_reader : ℕ → Reader Event
event_reader end = nothing event_of ⊛ maybe starts_edge (token_of edge_of) ⊛ identifier_of end

unfoldable pub event_list_of : ℕ → Reader (List Event)
event_list_of end = separated starts_separator (token_of event_separator) (event_reader end)

-- behind the bracket
unfoldable pub bracketed_events_of : ℕ → Reader ControlTree
bracketed_events_of end =
    either (starts_mark mark.Star) (nothing Implicit ◃ sign mark.Star ◃ sign mark.CloseParenthesis)
    (nothing Events ⊛ event_list_of end ◃ sign mark.CloseParenthesis)

unfoldable pub events_of : ℕ → Reader ControlTree
events_of end = either (starts_mark mark.OpenParenthesis) (sign mark.OpenParenthesis ▹ bracketed_events_of end) (nothing Implicit ◃ sign mark.Star)

unfoldable pub always_of : ℕ → ℕ → Reader KindTree
always_of end room = nothing Always ◃ word_of word.Always ◃ sign mark.At ⊛ events_of end ⊛ statement_of end room InAlways

unfoldable pub initial_of : ℕ → ℕ → Reader KindTree
initial_of end room = nothing Initial ◃ word_of word.Initial ⊛ statement_of end room WholeInitial

-- ---- instances

unfoldable pub bracketed_value_of : ℕ → ℕ → Reader (Option Tree)
bracketed_value_of end room = sign mark.OpenParenthesis ▹ maybe starts_expression (expression_of end room) ◃ sign mark.CloseParenthesis

unfoldable pub connection_of : ℕ → ℕ → Reader ConnectionTree
connection_of end room ts =
    sign mark.Dot ts >>= λ u. identifier_of end u.1 >>= λ i. bracketed_value_of end room i.1 >>= λ x. Ok (Connection (place end ts) i.0 x.0, x.1)

unfoldable pub connections_of : ℕ → ℕ → Reader ConnectionsTree
connections_of end room = either (starts_mark mark.Dot) (nothing Named ⊛ listed (connection_of end room)) (nothing Ordered ⊛ listed (expression_of end room))

unfoldable pub overrides_of : ℕ → ℕ → Reader ConnectionsTree
overrides_of end room = sign mark.Hash ▹ sign mark.OpenParenthesis ▹ connections_of end room ◃ sign mark.CloseParenthesis

unfoldable pub bracketed_connections_of : ℕ → ℕ → Reader (Option ConnectionsTree)
bracketed_connections_of end room = sign mark.OpenParenthesis ▹ maybe starts_connections (connections_of end room) ◃ sign mark.CloseParenthesis

-- what stands behind the module's name and its parameters
unfoldable pub instance_tail_of : ℕ → ℕ → Reader (Identifier × Option ConnectionsTree)
instance_tail_of end room ts = identifier_of end ts >>= λ x. bracketed_connections_of end room x.1 >>= λ y. sign mark.Semicolon y.1 >>= λ u. Ok ((x.0, y.0), u.1)

unfoldable pub instance_of : ℕ → ℕ → Reader KindTree
instance_of end room ts =
    identifier_of end ts >>= λ m. maybe (starts_mark mark.Hash) (overrides_of end room) m.1 >>= λ p. instance_tail_of end room p.1 >>= λ t. Ok (Instance m.0 p.0 t.0.0 t.0.1, t.1)

-- ---- items

abbrev pub item_of_form : ℕ → ℕ → ItemForm → Reader KindTree
item_of_form end room form.Ports = ports_of end room
item_of_form end room form.Nets = nets_of end room
item_of_form end room form.Registers = registers_of end room
item_of_form end room form.Integers = integers_of end
item_of_form end room form.Parameters = parameters_of end room
item_of_form end room form.ContinuousAssignments = drivers_of end room
item_of_form end room form.Always = always_of end room
item_of_form end room form.Initial = initial_of end room
item_of_form end room form.Instance = instance_of end room

unfoldable pub kind_of : ℕ → ℕ → Reader KindTree
kind_of end room = one_of form_of (item_of_form end room)

unfoldable pub item_of : ℕ → ℕ → Reader ItemTree
item_of end room = nothing ItemAt ⊛ place_in end ⊛ kind_of end room
