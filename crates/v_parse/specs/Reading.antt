-- A means of proof: the readers of modules and whole texts. Each is put together as its rule is. `end` is the number of the text's tokens,
-- and expressions, targets and statements have heights of at most room + 1.
use Rattle.std.specs.Prelude.{ℕ, List, ◌∷◌, Option, Result, Ok, length}
use Rattle.v_syntax.specs.declared.token.Token.{Token}
use Rattle.v_syntax.specs.declared.mark.Mark.TheVariants as mark
use Rattle.v_syntax.specs.declared.word.Keyword.TheVariants as word
use Rattle.v_syntax.specs.declared.statement.Identifier.{Identifier}
use Rattle.v_syntax.specs.SourceTrees.{RangeTree, HeaderParameterTree, HeaderParameterOf, HeaderPortTree, HeaderPortOf, HeaderPortsTree, NamedPorts, DeclaredPorts, ItemTree, ModuleTree}
use Rattle.v_syntax.specs.Sources.{headed, with_head, module_tree}
use Rattle.v_expression.specs.Phrase.Stops.{Stop, ◌>>=◌}
use Rattle.v_expression.specs.Phrase.Readers.{Reader, nothing, both, ◌⊛◌, ◌◃◌, ◌▹◌, maybe, many, either, starts_mark, starts_word, sign, word_of, identifier_of, listed, to_the_end}
use Rattle.v_parse.specs.Item.Firsts.{starts_item, starts_direction}
use Rattle.v_parse.specs.Item.Reading.{maybe_range_of, value_of, port_head_of, item_of}
use Rattle.v_parse.specs.Firsts.{starts_ports}

-- ---- parameters

unfoldable pub parameter_head_of : ℕ → ℕ → Reader (Option RangeTree)
parameter_head_of end room = word_of word.Parameter ▹ maybe_range_of end room

unfoldable pub first_parameter_of : ℕ → ℕ → Reader HeaderParameterTree
first_parameter_of end room = nothing HeaderParameterOf ⊛ (nothing headed ⊛ parameter_head_of end room) ⊛ identifier_of end ⊛ value_of end room

unfoldable pub next_parameter_of : ℕ → ℕ → Reader HeaderParameterTree
next_parameter_of end room = nothing HeaderParameterOf ⊛ maybe (starts_word word.Parameter) (parameter_head_of end room) ⊛ identifier_of end ⊛ value_of end room

unfoldable pub parameter_list_of : ℕ → ℕ → Reader (List HeaderParameterTree)
parameter_list_of end room = both ◌∷◌ (first_parameter_of end room) (many (starts_mark mark.Comma) (sign mark.Comma ▹ next_parameter_of end room))

unfoldable pub header_parameters_of : ℕ → ℕ → Reader (List HeaderParameterTree)
header_parameters_of end room = sign mark.Hash ▹ sign mark.OpenParenthesis ▹ parameter_list_of end room ◃ sign mark.CloseParenthesis

-- ---- ports

unfoldable pub first_port_of : ℕ → ℕ → Reader HeaderPortTree
first_port_of end room = nothing HeaderPortOf ⊛ (nothing with_head ⊛ port_head_of end room) ⊛ identifier_of end

unfoldable pub next_port_of : ℕ → ℕ → Reader HeaderPortTree
next_port_of end room = nothing HeaderPortOf ⊛ maybe starts_direction (port_head_of end room) ⊛ identifier_of end

unfoldable pub declared_ports_of : ℕ → ℕ → Reader (List HeaderPortTree)
declared_ports_of end room = both ◌∷◌ (first_port_of end room) (many (starts_mark mark.Comma) (sign mark.Comma ▹ next_port_of end room))

unfoldable pub ports_of : ℕ → ℕ → Reader HeaderPortsTree
ports_of end room = either starts_direction (nothing DeclaredPorts ⊛ declared_ports_of end room) (nothing NamedPorts ⊛ listed (identifier_of end))

unfoldable pub port_list_of : ℕ → ℕ → Reader (Option HeaderPortsTree)
port_list_of end room = sign mark.OpenParenthesis ▹ maybe starts_ports (ports_of end room) ◃ sign mark.CloseParenthesis

-- ---- modules

unfoldable pub items_of : ℕ → ℕ → Reader (List ItemTree)
items_of end room = many starts_item (item_of end room)

unfoldable pub module_name_of : ℕ → Reader Identifier
module_name_of end ts = word_of word.Module ts >>= λ u. identifier_of end u.1

-- what stands behind the header
unfoldable pub module_body_of : ℕ → ℕ → Reader (List ItemTree)
module_body_of end room = sign mark.Semicolon ▹ items_of end room ◃ word_of word.EndModule

unfoldable pub module_of : ℕ → ℕ → Reader ModuleTree
module_of end room ts =
    module_name_of end ts >>= λ x. maybe (starts_mark mark.Hash) (header_parameters_of end room) x.1 >>= λ y. maybe (starts_mark mark.OpenParenthesis) (port_list_of end room) y.1
    >>= λ z. module_body_of end room z.1 >>= λ b. Ok (module_tree x.0 y.0 z.0 b.0, b.1)

unfoldable pub modules_of : ℕ → ℕ → Reader (List ModuleTree)
modules_of end room = many (starts_word word.Module) (module_of end room)

-- the modules of a whole text
unfoldable pub source_of : ℕ → List Token → Result (List ModuleTree) Stop
source_of room text = to_the_end (modules_of (length text) room) text
