-- A means of proof: what the code keeps of the directives, as a state of the definitions.
use Rattle.v_lex.specs.Lexing as lexing
use Rattle.v_lex.specs.declared.state.State.{State}
use Rattle.v_lex.specs.Names.{has_name}

abbrev pub state_of : State → lexing.State
state_of s = record { defined = has_name s.names.names; conditionals = s.conditionals.items; unit = s.unit; step = s.step }
