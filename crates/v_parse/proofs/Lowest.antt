-- What is a text at height 0 is one at height 1.
use Rattle.std.proofs.Common.{ℕ, ◌∷◌}
use Rattle.v_syntax.specs.declared.mark.Mark.TheVariants as mark
use Rattle.v_syntax.specs.declared.word.Keyword.TheVariants as word
use Rattle.v_syntax.specs.SourceTrees.{HeaderParameterOf, HeaderPortOf, NamedPorts, DeclaredPorts}
use Rattle.v_syntax.specs.Phrases.{nothing, ◌⊛◌, ◌◃◌, ◌▹◌}
use Rattle.v_syntax.specs.Statements.{sign, word_of, listed, identifier}
use Rattle.v_syntax.specs.Sources.{parameter_head, headed, first_parameter, next_parameter, header_parameters, with_head, first_port, next_port, declared_ports, ports, port_list, module_tree, module_definition, source}
use Rattle.v_expression.proofs.PhraseLemmas.Below.{Below, same, both_below, apply_below, keep_below, skip_below, maybe_below, many_below, either_below}
use Rattle.v_parse.proofs.ItemLemmas.Lowest.{range_below, value_below, port_head_below, item_below}

module _ (end : ℕ) where
  parameter_head_below : Below (parameter_head end 0) (parameter_head end 1)
  parameter_head_below = skip_below (same (word_of word.Parameter)) (maybe_below (range_below end))

  first_parameter_below : Below (first_parameter end 0) (first_parameter end 1)
  first_parameter_below = apply_below (apply_below (apply_below (same (nothing HeaderParameterOf)) (apply_below (same (nothing headed)) parameter_head_below)) (same (identifier end))) (value_below end)

  next_parameter_below : Below (next_parameter end 0) (next_parameter end 1)
  next_parameter_below = apply_below (apply_below (apply_below (same (nothing HeaderParameterOf)) (maybe_below parameter_head_below)) (same (identifier end))) (value_below end)

  header_parameters_below : Below (header_parameters end 0) (header_parameters end 1)
  header_parameters_below =
      keep_below (skip_below (same (sign mark.Hash ▹ sign mark.OpenParenthesis)) (both_below ◌∷◌ first_parameter_below (many_below (skip_below (same (sign mark.Comma)) next_parameter_below)))) (same (sign mark.CloseParenthesis))

  first_port_below : Below (first_port end 0) (first_port end 1)
  first_port_below = apply_below (apply_below (same (nothing HeaderPortOf)) (apply_below (same (nothing with_head)) (port_head_below end))) (same (identifier end))

  next_port_below : Below (next_port end 0) (next_port end 1)
  next_port_below = apply_below (apply_below (same (nothing HeaderPortOf)) (maybe_below (port_head_below end))) (same (identifier end))

  declared_ports_below : Below (declared_ports end 0) (declared_ports end 1)
  declared_ports_below = both_below ◌∷◌ first_port_below (many_below (skip_below (same (sign mark.Comma)) next_port_below))

  ports_below : Below (ports end 0) (ports end 1)
  ports_below = either_below (same (nothing NamedPorts ⊛ listed (identifier end))) (apply_below (same (nothing DeclaredPorts)) declared_ports_below)

  port_list_below : Below (port_list end 0) (port_list end 1)
  port_list_below = keep_below (skip_below (same (sign mark.OpenParenthesis)) (maybe_below ports_below)) (same (sign mark.CloseParenthesis))

  module_below : Below (module_definition end 0) (module_definition end 1)
  module_below =
      keep_below (apply_below (keep_below (apply_below (apply_below (same (nothing module_tree ◃ word_of word.Module ⊛ identifier end)) (maybe_below header_parameters_below)) (maybe_below port_list_below)) (same (sign mark.Semicolon))) (many_below (item_below end)))
      (same (word_of word.EndModule))

  pub source_below : Below (source end 0) (source end 1)
  source_below = many_below module_below
