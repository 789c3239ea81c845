-- What a token stands for where the grammar asks for one of a kind (IEEE 1364-2005, clauses 3.5 to 3.7).
use Rattle.std.specs.Prelude.{ℕ, List, Option, Some, None}
use Rattle.four_value.specs.declared.Digit.{Digit}
use Rattle.v_syntax.specs.declared.token.Token.{Token}
use Rattle.v_syntax.specs.declared.token.Token.TheVariants as token
use Rattle.v_syntax.specs.declared.mark.Mark.TheVariants as mark
use Rattle.v_syntax.specs.declared.word.Keyword.TheVariants as word
use Rattle.v_syntax.specs.declared.word.SystemTask.{SystemTask}
use Rattle.v_syntax.specs.declared.statement.CaseKind.{CaseKind}
use Rattle.v_syntax.specs.declared.statement.CaseKind.TheVariants as case
use Rattle.v_syntax.specs.declared.item.Direction.{Direction}
use Rattle.v_syntax.specs.declared.item.Direction.TheVariants as direction
use Rattle.v_syntax.specs.declared.item.PortKind.{PortKind}
use Rattle.v_syntax.specs.declared.item.PortKind.TheVariants as port
use Rattle.v_syntax.specs.declared.item.ParameterKind.{ParameterKind}
use Rattle.v_syntax.specs.declared.item.ParameterKind.TheVariants as parameter
use Rattle.v_syntax.specs.declared.item.Edge.{Edge}
use Rattle.v_syntax.specs.declared.item.Edge.TheVariants as edge

abbrev pub name_of : Token → Option (List ℕ)
name_of (token.Name name) = Some name
name_of _ = None

abbrev pub number_of : Token → Option (List Digit)
number_of (token.Number ds) = Some ds
number_of _ = None

abbrev pub text_of : Token → Option (List ℕ)
text_of (token.Text bytes) = Some bytes
text_of _ = None

abbrev pub task_of : Token → Option SystemTask
task_of (token.SystemTask task) = Some task
task_of _ = None

abbrev pub case_kind : Token → Option CaseKind
case_kind (token.Keyword word.Case) = Some case.Case
case_kind (token.Keyword word.CaseZ) = Some case.CaseZ
case_kind (token.Keyword word.CaseX) = Some case.CaseX
case_kind _ = None

abbrev pub direction_of : Token → Option Direction
direction_of (token.Keyword word.Input) = Some direction.Input
direction_of (token.Keyword word.Output) = Some direction.Output
direction_of _ = None

abbrev pub port_kind : Token → Option PortKind
port_kind (token.Keyword word.Wire) = Some port.Wire
port_kind (token.Keyword word.Reg) = Some port.Reg
port_kind _ = None

abbrev pub parameter_kind : Token → Option ParameterKind
parameter_kind (token.Keyword word.Parameter) = Some parameter.Parameter
parameter_kind (token.Keyword word.LocalParam) = Some parameter.LocalParam
parameter_kind _ = None

abbrev pub edge_of : Token → Option Edge
edge_of (token.Keyword word.PosEdge) = Some edge.Positive
edge_of (token.Keyword word.NegEdge) = Some edge.Negative
edge_of _ = None

-- between two events: `or` or a comma
abbrev pub event_separator : Token → Option (Unit {0})
event_separator (token.Keyword word.Or) = Some tt
event_separator (token.Mark mark.Comma) = Some tt
event_separator _ = None
