-- The grammar of module items (IEEE 1364-2005, annexes A.1 to A.4). n bounds the heights of expressions, targets and
-- statements; an item has no height of its own.
use Rattle.std.specs.Prelude.{ℕ, Option}
use Rattle.v_syntax.specs.declared.token.Token.{Token}
use Rattle.v_syntax.specs.declared.mark.Mark.TheVariants as mark
use Rattle.v_syntax.specs.declared.word.Keyword.TheVariants as word
use Rattle.v_syntax.specs.declared.statement.Identifier.{Identifier}
use Rattle.v_syntax.specs.declared.statement.StatementPlace.TheVariants.{InAlways, WholeInitial}
use Rattle.v_syntax.specs.declared.item.Edge.{Edge}
use Rattle.v_syntax.specs.declared.item.Event.{Event}
use Rattle.v_syntax.specs.declared.item.ItemForm.{ItemForm}
use Rattle.v_syntax.specs.declared.item.ItemForm.TheVariants as form
use Rattle.v_syntax.specs.ExpressionTrees.{Tree}
use Rattle.v_syntax.specs.TokenMeanings.{direction_of, port_kind, parameter_kind, edge_of, event_separator}
use Rattle.v_syntax.specs.SourceTrees.{RangeTree, Bounds, PortHeadTree, Head, NetTree, Net, TailTree, Words, Initially, RegisterTree, Register, ParameterTree, Parameter, DriverTree, Driver, ControlTree, Implicit, Events, ConnectionTree, Connection, ConnectionsTree, Ordered, Named, KindTree, Ports, Nets, Registers, Integers, Parameters, Drivers, Always, Initial, Instance, ItemTree, ItemAt}
use Rattle.v_syntax.specs.Phrases.{Phrase, nothing, token_of, place_in, ◌⊛◌, ◌◃◌, ◌▹◌, maybe, separated, one_of, either}
use Rattle.v_syntax.specs.Statements.{sign, word_of, listed, identifier, expression, target, statement}

-- [ expression : expression ] (annex A.2.5)
abbrev pub range : ℕ → ℕ → Phrase Token RangeTree
range end n = nothing Bounds ⊛ place_in end ◃ sign mark.OpenBracket ⊛ expression end n ◃ sign mark.Colon ⊛ expression end n ◃ sign mark.CloseBracket

-- = expression
abbrev pub value : ℕ → ℕ → Phrase Token Tree
value end n = sign mark.Assign ▹ expression end n

-- input or output, [wire or reg], [range] (annex A.2.1.2)
abbrev pub port_head : ℕ → ℕ → Phrase Token PortHeadTree
port_head end n = nothing Head ⊛ token_of direction_of ⊛ maybe (token_of port_kind) ⊛ maybe (range end n)

abbrev pub ports_item : ℕ → ℕ → Phrase Token KindTree
ports_item end n = nothing Ports ⊛ port_head end n ⊛ listed (identifier end) ◃ sign mark.Semicolon

abbrev pub net : ℕ → ℕ → Phrase Token NetTree
net end n = nothing Net ⊛ identifier end ⊛ maybe (value end n)

abbrev pub nets_item : ℕ → ℕ → Phrase Token KindTree
nets_item end n = nothing Nets ◃ word_of word.Wire ⊛ maybe (range end n) ⊛ listed (net end n) ◃ sign mark.Semicolon

abbrev pub register_tail : ℕ → ℕ → Phrase Token TailTree
register_tail end n = either (nothing Words ⊛ range end n) (nothing Initially ⊛ value end n)

abbrev pub register : ℕ → ℕ → Phrase Token RegisterTree
register end n = nothing Register ⊛ identifier end ⊛ maybe (register_tail end n)

abbrev pub registers_item : ℕ → ℕ → Phrase Token KindTree
registers_item end n = nothing Registers ◃ word_of word.Reg ⊛ maybe (range end n) ⊛ listed (register end n) ◃ sign mark.Semicolon

abbrev pub integers_item : ℕ → Phrase Token KindTree
integers_item end = nothing Integers ◃ word_of word.Integer ⊛ listed (identifier end) ◃ sign mark.Semicolon

abbrev pub parameter : ℕ → ℕ → Phrase Token ParameterTree
parameter end n = nothing Parameter ⊛ identifier end ⊛ value end n

abbrev pub parameters_item : ℕ → ℕ → Phrase Token KindTree
parameters_item end n = nothing Parameters ⊛ token_of parameter_kind ⊛ maybe (range end n) ⊛ listed (parameter end n) ◃ sign mark.Semicolon

-- A continuous assignment's height is the greater of its target's and its expression's.
abbrev pub driver : ℕ → ℕ → Phrase Token DriverTree
driver end n = nothing Driver ⊛ target end n ⊛ value end n

abbrev pub drivers_item : ℕ → ℕ → Phrase Token KindTree
drivers_item end n = nothing Drivers ◃ word_of word.Assign ⊛ listed (driver end n) ◃ sign mark.Semicolon

abbrev pub event_of : Option Edge → Identifier → Event
event_of e x = record { edge = e; name = x }

abbrev pub event : ℕ → Phrase Token Event
event end = nothing event_of ⊛ maybe (token_of edge_of) ⊛ identifier end

-- behind the bracket: * ) or event or event , event )
abbrev pub bracketed_events : ℕ → Phrase Token ControlTree
bracketed_events end = either (nothing Events ⊛ separated (token_of event_separator) (event end) ◃ sign mark.CloseParenthesis) (nothing Implicit ◃ sign mark.Star ◃ sign mark.CloseParenthesis)

-- * or ( * ) or ( event or event , event ) (annex A.6.5)
abbrev pub events : ℕ → Phrase Token ControlTree
events end = either (sign mark.OpenParenthesis ▹ bracketed_events end) (nothing Implicit ◃ sign mark.Star)

abbrev pub always_item : ℕ → ℕ → Phrase Token KindTree
always_item end n = nothing Always ◃ word_of word.Always ◃ sign mark.At ⊛ events end ⊛ statement end n InAlways

abbrev pub initial_item : ℕ → ℕ → Phrase Token KindTree
initial_item end n = nothing Initial ◃ word_of word.Initial ⊛ statement end n WholeInitial

-- . name ( [expression] ) (annex A.4.1)
abbrev pub connection : ℕ → ℕ → Phrase Token ConnectionTree
connection end n = nothing Connection ⊛ place_in end ◃ sign mark.Dot ⊛ identifier end ◃ sign mark.OpenParenthesis ⊛ maybe (expression end n) ◃ sign mark.CloseParenthesis

abbrev pub connections : ℕ → ℕ → Phrase Token ConnectionsTree
connections end n = either (nothing Ordered ⊛ listed (expression end n)) (nothing Named ⊛ listed (connection end n))

-- # ( connections ) (annex A.4.1)
abbrev pub overrides : ℕ → ℕ → Phrase Token ConnectionsTree
overrides end n = sign mark.Hash ▹ sign mark.OpenParenthesis ▹ connections end n ◃ sign mark.CloseParenthesis

-- name [# ( connections )] name ( [connections] ) ; (annex A.4.1)
abbrev pub instance_item : ℕ → ℕ → Phrase Token KindTree
instance_item end n =
    nothing Instance ⊛ identifier end ⊛ maybe (overrides end n) ⊛ identifier end
    ◃ sign mark.OpenParenthesis ⊛ maybe (connections end n) ◃ sign mark.CloseParenthesis ◃ sign mark.Semicolon

abbrev pub item_of_form : ℕ → ℕ → ItemForm → Phrase Token KindTree
item_of_form end n form.Ports = ports_item end n
item_of_form end n form.Nets = nets_item end n
item_of_form end n form.Registers = registers_item end n
item_of_form end n form.Integers = integers_item end
item_of_form end n form.Parameters = parameters_item end n
item_of_form end n form.ContinuousAssignments = drivers_item end n
item_of_form end n form.Always = always_item end n
item_of_form end n form.Initial = initial_item end n
item_of_form end n form.Instance = instance_item end n

abbrev pub item : ℕ → ℕ → Phrase Token ItemTree
item end n = nothing ItemAt ⊛ place_in end ⊛ one_of (item_of_form end n)
