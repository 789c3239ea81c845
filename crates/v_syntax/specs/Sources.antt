-- The grammar of modules and whole texts (IEEE 1364-2005, annex A.1.2). n bounds the heights of expressions, targets and
-- statements; modules have no height of their own.
use Rattle.std.specs.Prelude.{ℕ, List, [], ◌∷◌, Option, Some, None}
use Rattle.v_syntax.specs.declared.token.Token.{Token}
use Rattle.v_syntax.specs.declared.mark.Mark.TheVariants as mark
use Rattle.v_syntax.specs.declared.word.Keyword.TheVariants as word
use Rattle.v_syntax.specs.declared.statement.Identifier.{Identifier}
use Rattle.v_syntax.specs.SourceTrees.{RangeTree, PortHeadTree, HeaderParameterTree, HeaderParameterOf, HeaderPortTree, HeaderPortOf, HeaderPortsTree, NamedPorts, DeclaredPorts, ItemTree, ModuleTree, ModuleOf}
use Rattle.v_syntax.specs.Phrases.{Phrase, nothing, both, ◌⊛◌, ◌◃◌, ◌▹◌, maybe, many, either}
use Rattle.v_syntax.specs.Statements.{sign, word_of, listed, identifier}
use Rattle.v_syntax.specs.Items.{range, value, port_head, item}

-- parameter [range]
abbrev pub parameter_head : ℕ → ℕ → Phrase Token (Option RangeTree)
parameter_head end n = word_of word.Parameter ▹ maybe (range end n)

abbrev pub headed : Option RangeTree → Option (Option RangeTree)
headed r = Some r

-- The first parameter has the word, and each other one may have it.
abbrev pub first_parameter : ℕ → ℕ → Phrase Token HeaderParameterTree
first_parameter end n = nothing HeaderParameterOf ⊛ (nothing headed ⊛ parameter_head end n) ⊛ identifier end ⊛ value end n

abbrev pub next_parameter : ℕ → ℕ → Phrase Token HeaderParameterTree
next_parameter end n = nothing HeaderParameterOf ⊛ maybe (parameter_head end n) ⊛ identifier end ⊛ value end n

-- # ( first {, next} ) (annex A.1.3)
abbrev pub header_parameters : ℕ → ℕ → Phrase Token (List HeaderParameterTree)
header_parameters end n =
    sign mark.Hash ▹ sign mark.OpenParenthesis ▹ both ◌∷◌ (first_parameter end n) (many (sign mark.Comma ▹ next_parameter end n)) ◃ sign mark.CloseParenthesis

abbrev pub with_head : PortHeadTree → Option PortHeadTree
with_head h = Some h

-- The first port has a direction, and each other one may have one.
abbrev pub first_port : ℕ → ℕ → Phrase Token HeaderPortTree
first_port end n = nothing HeaderPortOf ⊛ (nothing with_head ⊛ port_head end n) ⊛ identifier end

abbrev pub next_port : ℕ → ℕ → Phrase Token HeaderPortTree
next_port end n = nothing HeaderPortOf ⊛ maybe (port_head end n) ⊛ identifier end

abbrev pub declared_ports : ℕ → ℕ → Phrase Token (List HeaderPortTree)
declared_ports end n = both ◌∷◌ (first_port end n) (many (sign mark.Comma ▹ next_port end n))

abbrev pub ports : ℕ → ℕ → Phrase Token HeaderPortsTree
ports end n = either (nothing NamedPorts ⊛ listed (identifier end)) (nothing DeclaredPorts ⊛ declared_ports end n)

-- ( [ports] ) (annex A.1.3)
abbrev pub port_list : ℕ → ℕ → Phrase Token (Option HeaderPortsTree)
port_list end n = sign mark.OpenParenthesis ▹ maybe (ports end n) ◃ sign mark.CloseParenthesis

abbrev pub all_parameters : Option (List HeaderParameterTree) → List HeaderParameterTree
all_parameters (Some ps) = ps
all_parameters None = []

abbrev pub all_ports : Option (Option HeaderPortsTree) → HeaderPortsTree
all_ports (Some (Some ps)) = ps
all_ports _ = NamedPorts []

abbrev pub module_tree : Identifier → Option (List HeaderParameterTree) → Option (Option HeaderPortsTree) → List ItemTree → ModuleTree
module_tree name parameters ps items = ModuleOf name (all_parameters parameters) (all_ports ps) items

-- module name [# ( parameters )] [( [ports] )] ; {item} endmodule (annex A.1.2)
abbrev pub module_definition : ℕ → ℕ → Phrase Token ModuleTree
module_definition end n =
    nothing module_tree ◃ word_of word.Module ⊛ identifier end ⊛ maybe (header_parameters end n) ⊛ maybe (port_list end n) ◃ sign mark.Semicolon
    ⊛ many (item end n) ◃ word_of word.EndModule

-- {module} (annex A.1.2)
abbrev pub source : ℕ → ℕ → Phrase Token (List ModuleTree)
source end n = many (module_definition end n)
