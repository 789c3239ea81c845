-- What is an item at height 0 is one at height 1.
use Rattle.std.proofs.Common.{ℕ, arith}
use Rattle.v_syntax.specs.declared.mark.Mark.TheVariants as mark
use Rattle.v_syntax.specs.declared.word.Keyword.TheVariants as word
use Rattle.v_syntax.specs.declared.statement.StatementPlace.{StatementPlace}
use Rattle.v_syntax.specs.declared.statement.StatementPlace.TheVariants.{InAlways, WholeInitial}
use Rattle.v_syntax.specs.declared.item.ItemForm.{ItemForm}
use Rattle.v_syntax.specs.declared.item.ItemForm.TheVariants as form
use Rattle.v_syntax.specs.TokenMeanings.{direction_of, port_kind, parameter_kind}
use Rattle.v_syntax.specs.SourceTrees.{Bounds, Head, Net, Words, Initially, Register, Parameter, Driver, Connection, Ordered, Named, Ports, Nets, Registers, Parameters, Drivers, Always, Initial, Instance, ItemAt}
use Rattle.v_syntax.specs.Phrases.{nothing, token_of, place_in, maybe, ◌⊛◌, ◌◃◌, ◌▹◌}
use Rattle.v_syntax.specs.Statements.{sign, word_of, listed, identifier, expression, target, statement}
use Rattle.v_syntax.specs.Items.{range, value, port_head, ports_item, net, nets_item, register_tail, register, registers_item, integers_item, parameter, parameters_item, driver, drivers_item, events, always_item, initial_item, connection, connections, overrides, instance_item, item_of_form, item}
use Rattle.v_expression.proofs.PhraseLemmas.Below.{Below, same, spells_below, apply_below, keep_below, skip_below, maybe_below, one_below, either_below, listed_below}
use Rattle.v_expression.proofs.Phrases.{expression_phrase_laws, target_phrase_laws}
use Rattle.v_statement.proofs.StatementLaws.{statement_laws}

module _ (end : ℕ) where
  e : Below (expression end 0) (expression end 1)
  e = spells_below (expression_phrase_laws end 0).spells 1 (omega arith)

  t : Below (target end 0) (target end 1)
  t = spells_below (target_phrase_laws end 0).spells 1 (omega arith)

  s : (p : StatementPlace) → Below (statement end 0 p) (statement end 1 p)
  s p = spells_below (statement_laws end 0 p).spells 1 (omega arith)

  pub range_below : Below (range end 0) (range end 1)
  range_below = keep_below (apply_below (keep_below (apply_below (same (nothing Bounds ⊛ place_in end ◃ sign mark.OpenBracket)) e) (same (sign mark.Colon))) e) (same (sign mark.CloseBracket))

  pub value_below : Below (value end 0) (value end 1)
  value_below = skip_below (same (sign mark.Assign)) e

  pub port_head_below : Below (port_head end 0) (port_head end 1)
  port_head_below = apply_below (same (nothing Head ⊛ token_of direction_of ⊛ maybe (token_of port_kind))) (maybe_below range_below)

  ports_below : Below (ports_item end 0) (ports_item end 1)
  ports_below = keep_below (apply_below (apply_below (same (nothing Ports)) port_head_below) (same (listed (identifier end)))) (same (sign mark.Semicolon))

  net_below : Below (net end 0) (net end 1)
  net_below = apply_below (same (nothing Net ⊛ identifier end)) (maybe_below value_below)

  nets_below : Below (nets_item end 0) (nets_item end 1)
  nets_below = keep_below (apply_below (apply_below (same (nothing Nets ◃ word_of word.Wire)) (maybe_below range_below)) (listed_below net_below)) (same (sign mark.Semicolon))

  tail_below : Below (register_tail end 0) (register_tail end 1)
  tail_below = either_below (apply_below (same (nothing Words)) range_below) (apply_below (same (nothing Initially)) value_below)

  register_below : Below (register end 0) (register end 1)
  register_below = apply_below (same (nothing Register ⊛ identifier end)) (maybe_below tail_below)

  registers_below : Below (registers_item end 0) (registers_item end 1)
  registers_below = keep_below (apply_below (apply_below (same (nothing Registers ◃ word_of word.Reg)) (maybe_below range_below)) (listed_below register_below)) (same (sign mark.Semicolon))

  parameter_below : Below (parameter end 0) (parameter end 1)
  parameter_below = apply_below (same (nothing Parameter ⊛ identifier end)) value_below

  parameters_below : Below (parameters_item end 0) (parameters_item end 1)
  parameters_below = keep_below (apply_below (apply_below (same (nothing Parameters ⊛ token_of parameter_kind)) (maybe_below range_below)) (listed_below parameter_below)) (same (sign mark.Semicolon))

  driver_below : Below (driver end 0) (driver end 1)
  driver_below = apply_below (apply_below (same (nothing Driver)) t) value_below

  drivers_below : Below (drivers_item end 0) (drivers_item end 1)
  drivers_below = keep_below (apply_below (same (nothing Drivers ◃ word_of word.Assign)) (listed_below driver_below)) (same (sign mark.Semicolon))

  always_below : Below (always_item end 0) (always_item end 1)
  always_below = apply_below (same (nothing Always ◃ word_of word.Always ◃ sign mark.At ⊛ events end)) (s InAlways)

  initial_below : Below (initial_item end 0) (initial_item end 1)
  initial_below = apply_below (same (nothing Initial ◃ word_of word.Initial)) (s WholeInitial)

  connection_below : Below (connection end 0) (connection end 1)
  connection_below = keep_below (apply_below (same (nothing Connection ⊛ place_in end ◃ sign mark.Dot ⊛ identifier end ◃ sign mark.OpenParenthesis)) (maybe_below e)) (same (sign mark.CloseParenthesis))

  connections_below : Below (connections end 0) (connections end 1)
  connections_below = either_below (apply_below (same (nothing Ordered)) (listed_below e)) (apply_below (same (nothing Named)) (listed_below connection_below))

  overrides_below : Below (overrides end 0) (overrides end 1)
  overrides_below = keep_below (skip_below (same (sign mark.Hash ▹ sign mark.OpenParenthesis)) connections_below) (same (sign mark.CloseParenthesis))

  instance_below : Below (instance_item end 0) (instance_item end 1)
  instance_below =
      keep_below (keep_below (apply_below (keep_below (apply_below (apply_below (same (nothing Instance ⊛ identifier end)) (maybe_below overrides_below)) (same (identifier end))) (same (sign mark.OpenParenthesis))) (maybe_below connections_below))
      (same (sign mark.CloseParenthesis))) (same (sign mark.Semicolon))

  form_below : (i : ItemForm) → Below (item_of_form end 0 i) (item_of_form end 1 i)
  form_below form.Ports = ports_below
  form_below form.Nets = nets_below
  form_below form.Registers = registers_below
  form_below form.Integers = same (integers_item end)
  form_below form.Parameters = parameters_below
  form_below form.ContinuousAssignments = drivers_below
  form_below form.Always = always_below
  form_below form.Initial = initial_below
  form_below form.Instance = instance_below

  pub item_below : Below (item end 0) (item end 1)
  item_below = apply_below (same (nothing ItemAt ⊛ place_in end)) (one_below form_below)
