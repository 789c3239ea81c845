-- The laws of what module items are made of. Heights are counted from one.
use Rattle.std.proofs.Common.{◌≡◌, ℕ, suc, true, false, ◌||◌, [], ◌∷◌, refl, arith, inl}
use Rattle.v_syntax.specs.declared.token.Token.TheVariants as token
use Rattle.v_syntax.specs.declared.mark.Mark.TheVariants as mark
use Rattle.v_syntax.specs.declared.word.Keyword.TheVariants as word
use Rattle.v_syntax.specs.declared.statement.StatementPlace.TheVariants.{InAlways, WholeInitial}
use Rattle.v_syntax.specs.Phrases as phrase
use Rattle.v_syntax.specs.TokenMeanings.{port_kind, parameter_kind, edge_of, event_separator}
use Rattle.v_syntax.specs.SourceTrees.{Bounds, Head, Net, Words, Initially, Register, Parameter, Driver, Implicit, Events, Connection, Ordered, Named, Ports, Nets, Registers, Integers, Parameters, Drivers, Always, Initial, Instance}
use Rattle.v_syntax.specs.Statements.{listed, identifier, expression, target}
use Rattle.v_syntax.specs.Items.{event_of}
use Rattle.v_syntax.specs.Items as rule
use Rattle.v_syntax.specs.declared.mark.Mark.{Mark}
use Rattle.v_syntax.specs.declared.item.ItemForm.{ItemForm}
use Rattle.v_syntax.specs.declared.item.ItemForm.TheVariants as form
use Rattle.v_syntax.specs.SameMarks.{same_mark}
use Rattle.v_expression.specs.Starts.{starts_expression, mark_begins_expression}
use Rattle.v_expression.specs.Reading.{expression_of, target_of}
use Rattle.v_expression.specs.Phrase.Readers.{starts_mark, identifier_of}
use Rattle.v_expression.specs.Phrase.Readers as read
use Rattle.v_expression.specs.Phrase.Kinds.{Kinds, any_kind, a_mark, a_word, a_name, last_of, either_of, without, Tells}
use Rattle.v_expression.proofs.PhraseLemmas.KindLaws.{tells_mark}
use Rattle.v_expression.proofs.PhraseLemmas.Laws.{Laws}
use Rattle.v_expression.proofs.PhraseLemmas.Tokens.{nothing_laws, place_in_laws, mark_laws, word_laws, tells_meaning}
use Rattle.v_expression.proofs.PhraseLemmas.Meanings.{of_direction, of_port_kind, of_parameter_kind, of_edge, of_event_separator, port_tells, edge_tells, separator_tells, identifier_laws, direction_laws, port_kind_laws, parameter_kind_laws, edge_laws, separator_laws}
use Rattle.v_expression.proofs.PhraseLemmas.Both.{apply_laws, keep_laws, skip_laws}
use Rattle.v_expression.proofs.PhraseLemmas.Maybe.{maybe_laws}
use Rattle.v_expression.proofs.PhraseLemmas.Lists.{ends_list, listed_laws, separated_laws}
use Rattle.v_expression.proofs.PhraseLemmas.Either.{either_first, either_second}
use Rattle.v_expression.proofs.PhraseLemmas.Change.{narrow, reread, lower}
use Rattle.v_expression.proofs.PhraseLemmas.Branches.{no_else}
use Rattle.v_expression.proofs.Phrases.{of_expression, ends_expression, of_target, ends_target, tells_expression, expression_phrase_laws, target_phrase_laws}
use Rattle.v_statement.specs.Reading.{statement_of}
use Rattle.v_statement.specs.Reading as statements
use Rattle.v_statement.proofs.StatementLaws.{statement_laws, statement_missing}
use Rattle.v_parse.specs.Item.Firsts.{mark_begins_connection, starts_kind, starts_edge, starts_separator, starts_tail, starts_connections}
use Rattle.v_parse.proofs.ItemLemmas.Steps.{range_steps, connection_steps, instance_steps, declared_steps, headed_steps, kinded_steps}
use Rattle.v_parse.specs.Item.Reading.{bound_of, range_of, maybe_range_of, value_of, port_head_of, line_of, ports_of, net_of, nets_of, tail_of, register_of, registers_of, integers_of, parameter_of, parameters_of, driver_of, drivers_of, event_reader, event_list_of, bracketed_events_of, events_of, always_of, initial_of, bracketed_value_of, connection_of, connections_of, overrides_of, bracketed_connections_of, instance_tail_of, instance_of}

-- what ends a part that may be followed by `,` and by a part of its own
abbrev pub ends_maybe : Kinds → Kinds → Kinds → Kinds
ends_maybe ends next inner = last_of true ends (without inner next)

abbrev pub ends_head : Kinds
ends_head = ends_maybe (ends_maybe any_kind of_port_kind any_kind) (a_mark mark.OpenBracket) any_kind

module _ (end n : ℕ) where
  value_below : Laws n (λ m. expression end (suc m)) of_expression false ends_expression (λ m. expression_of end m)
  value_below = lower (expression_phrase_laws end (suc n))

  target_below : Laws n (λ m. target end (suc m)) of_target false ends_target (λ m. target_of end m)
  target_below = lower (target_phrase_laws end (suc n))

  -- ---- what items are made of

  pub range_laws : Laws n (λ m. rule.range end (suc m)) (a_mark mark.OpenBracket) false any_kind (λ m. range_of end m)
  unfolding range_of bound_of
  range_laws =
      reread (keep_laws n (apply_laws n (keep_laws n (apply_laws n (keep_laws n (apply_laws n (nothing_laws Bounds n) (place_in_laws end n) refl) (mark_laws mark.OpenBracket n) refl) value_below refl) (mark_laws mark.Colon n) refl) value_below refl) (mark_laws mark.CloseBracket n) refl) (λ m. range_of end m)
      (λ m here. range_steps end (read.sign mark.OpenBracket) (expression_of end m) (read.sign mark.Colon) (expression_of end m) (read.sign mark.CloseBracket) here)

  range_missing : (rule.range end (suc n)).missing
  range_missing = ((((((tt, tt), tt), omega arith), tt), omega arith), tt)

  pub maybe_range_laws : Laws n (λ m. phrase.maybe (rule.range end (suc m))) (a_mark mark.OpenBracket) true (without any_kind (a_mark mark.OpenBracket)) (λ m. maybe_range_of end m)
  unfolding maybe_range_of
  maybe_range_laws = maybe_laws n (starts_mark mark.OpenBracket) (tells_mark mark.OpenBracket) range_laws (record { ready = inl range_missing })

  pub value_laws : Laws n (λ m. rule.value end (suc m)) (a_mark mark.Assign) false ends_expression (λ m. value_of end m)
  unfolding value_of
  value_laws = skip_laws n (mark_laws mark.Assign n) value_below refl

  pub port_head_laws : Laws n (λ m. rule.port_head end (suc m)) of_direction false ends_head (λ m. port_head_of end m)
  unfolding port_head_of
  port_head_laws =
      apply_laws n (apply_laws n (apply_laws n (nothing_laws Head n) (direction_laws n) refl) (maybe_laws n starts_kind (tells_meaning port_kind of_port_kind port_tells refl) (port_kind_laws n) (record { ready = inl tt })) refl) maybe_range_laws refl

  identifier_missing : (identifier end).missing
  identifier_missing = ((tt, tt), tt)

  pub identifiers_laws : Laws n (λ m. listed (identifier end)) a_name false (ends_list (a_mark mark.Comma) any_kind) (λ m. read.listed (identifier_of end))
  identifiers_laws = listed_laws n (identifier_laws end n) identifier_missing refl

  -- ---- declarations

  pub ports_laws : Laws n (λ m. rule.ports_item end (suc m)) of_direction false any_kind (λ m. ports_of end m)
  unfolding ports_of line_of
  ports_laws =
      reread (keep_laws n (apply_laws n (apply_laws n (nothing_laws Ports n) port_head_laws refl) identifiers_laws refl) (mark_laws mark.Semicolon n) refl)
      (λ m. ports_of end m)
      (λ m here. headed_steps Ports (port_head_of end m) (read.listed (identifier_of end)) (read.sign mark.Semicolon) here)

  value_missing : (rule.value end (suc n)).missing
  value_missing = (tt, omega arith)

  net_laws : Laws n (λ m. rule.net end (suc m)) a_name false (ends_maybe any_kind (a_mark mark.Assign) ends_expression) (λ m. net_of end m)
  unfolding net_of
  net_laws = apply_laws n (apply_laws n (nothing_laws Net n) (identifier_laws end n) refl) (maybe_laws n (starts_mark mark.Assign) (tells_mark mark.Assign) value_laws (record { ready = inl value_missing })) refl

  net_list_laws : Laws n (λ m. listed (rule.net end (suc m))) a_name false (ends_list (a_mark mark.Comma) (ends_maybe any_kind (a_mark mark.Assign) ends_expression)) (λ m. read.listed (net_of end m))
  net_list_laws = listed_laws n net_laws ((tt, identifier_missing), tt) refl

  pub nets_laws : Laws n (λ m. rule.nets_item end (suc m)) (a_word word.Wire) false any_kind (λ m. nets_of end m)
  unfolding nets_of line_of
  nets_laws =
      reread (keep_laws n (apply_laws n (apply_laws n (keep_laws n (nothing_laws Nets n) (word_laws word.Wire n) refl) maybe_range_laws refl) net_list_laws refl) (mark_laws mark.Semicolon n) refl)
      (λ m. nets_of end m)
      (λ m here. declared_steps Nets (read.word_of word.Wire) (maybe_range_of end m) (read.listed (net_of end m)) (read.sign mark.Semicolon) here)

  abbrev of_tail : Kinds
  of_tail = either_of (a_mark mark.OpenBracket) (a_mark mark.Assign)

  tail_laws : Laws n (λ m. rule.register_tail end (suc m)) of_tail false ends_expression (λ m. tail_of end m)
  unfolding tail_of
  tail_laws = either_first n (narrow (apply_laws n (nothing_laws Words n) range_laws refl) ends_expression refl) (apply_laws n (nothing_laws Initially n) value_laws refl)
      (starts_mark mark.OpenBracket) (tells_mark mark.OpenBracket) refl (record { ready = inl (tt, range_missing) }) (λ k. (tt, value_missing))

  tells_tail : Tells starts_tail of_tail
  tells_tail [] = refl
  tells_tail (token.Mark mark.OpenBracket ∷ ts) = refl
  tells_tail (token.Mark _ ∷ ts) = refl
  tells_tail (token.Name n ∷ ts) = refl
  tells_tail (token.Keyword w ∷ ts) = refl
  tells_tail (token.Reserved w ∷ ts) = refl
  tells_tail (token.SystemTask t ∷ ts) = refl
  tells_tail (token.Number ds ∷ ts) = refl
  tells_tail (token.Text t ∷ ts) = refl

  register_laws : Laws n (λ m. rule.register end (suc m)) a_name false (ends_maybe any_kind of_tail ends_expression) (λ m. register_of end m)
  unfolding register_of
  register_laws = apply_laws n (apply_laws n (nothing_laws Register n) (identifier_laws end n) refl) (maybe_laws n starts_tail tells_tail tail_laws (record { ready = inl (true, (tt, value_missing)) })) refl

  register_list_laws : Laws n (λ m. listed (rule.register end (suc m))) a_name false (ends_list (a_mark mark.Comma) (ends_maybe any_kind of_tail ends_expression)) (λ m. read.listed (register_of end m))
  register_list_laws = listed_laws n register_laws ((tt, identifier_missing), tt) refl

  pub registers_laws : Laws n (λ m. rule.registers_item end (suc m)) (a_word word.Reg) false any_kind (λ m. registers_of end m)
  unfolding registers_of line_of
  registers_laws =
      reread (keep_laws n (apply_laws n (apply_laws n (keep_laws n (nothing_laws Registers n) (word_laws word.Reg n) refl) maybe_range_laws refl) register_list_laws refl) (mark_laws mark.Semicolon n) refl)
      (λ m. registers_of end m)
      (λ m here. declared_steps Registers (read.word_of word.Reg) (maybe_range_of end m) (read.listed (register_of end m)) (read.sign mark.Semicolon) here)

  pub integers_laws : Laws n (λ m. rule.integers_item end) (a_word word.Integer) false any_kind (λ m. integers_of end)
  unfolding integers_of
  integers_laws = keep_laws n (apply_laws n (keep_laws n (nothing_laws Integers n) (word_laws word.Integer n) refl) identifiers_laws refl) (mark_laws mark.Semicolon n) refl

  parameter_laws : Laws n (λ m. rule.parameter end (suc m)) a_name false ends_expression (λ m. parameter_of end m)
  unfolding parameter_of
  parameter_laws = apply_laws n (apply_laws n (nothing_laws Parameter n) (identifier_laws end n) refl) value_laws refl

  parameter_list_laws : Laws n (λ m. listed (rule.parameter end (suc m))) a_name false (ends_list (a_mark mark.Comma) ends_expression) (λ m. read.listed (parameter_of end m))
  parameter_list_laws = listed_laws n parameter_laws ((tt, identifier_missing), value_missing) refl

  pub parameters_laws : Laws n (λ m. rule.parameters_item end (suc m)) of_parameter_kind false any_kind (λ m. parameters_of end m)
  unfolding parameters_of line_of
  parameters_laws =
      reread (keep_laws n (apply_laws n (apply_laws n (apply_laws n (nothing_laws Parameters n) (parameter_kind_laws n) refl) maybe_range_laws refl) parameter_list_laws refl) (mark_laws mark.Semicolon n) refl)
      (λ m. parameters_of end m)
      (λ m here. kinded_steps Parameters (read.token_of parameter_kind) (maybe_range_of end m) (read.listed (parameter_of end m)) (read.sign mark.Semicolon) here)

  -- ---- assignments and processes

  driver_laws : Laws n (λ m. rule.driver end (suc m)) of_target false ends_expression (λ m. driver_of end m)
  unfolding driver_of
  driver_laws = apply_laws n (apply_laws n (nothing_laws Driver n) target_below refl) value_laws refl

  driver_list_laws : Laws n (λ m. listed (rule.driver end (suc m))) of_target false (ends_list (a_mark mark.Comma) ends_expression) (λ m. read.listed (driver_of end m))
  driver_list_laws = listed_laws n driver_laws ((tt, omega arith), value_missing) refl

  pub drivers_laws : Laws n (λ m. rule.drivers_item end (suc m)) (a_word word.Assign) false any_kind (λ m. drivers_of end m)
  unfolding drivers_of
  drivers_laws = keep_laws n (apply_laws n (keep_laws n (nothing_laws Drivers n) (word_laws word.Assign n) refl) driver_list_laws refl) (mark_laws mark.Semicolon n) refl

  abbrev of_event : Kinds
  of_event k = of_edge k || a_name k

  event_laws : Laws n (λ m. rule.event end) of_event false any_kind (λ m. event_reader end)
  unfolding event_reader
  event_laws = apply_laws n (apply_laws n (nothing_laws event_of n) (maybe_laws n starts_edge (tells_meaning edge_of of_edge edge_tells refl) (edge_laws n) (record { ready = inl tt })) refl) (identifier_laws end n) refl

  event_list_laws : Laws n (λ m. phrase.separated (phrase.token_of event_separator) (rule.event end)) of_event false (ends_list of_event_separator any_kind) (λ m. event_list_of end)
  unfolding event_list_of
  event_list_laws = separated_laws n starts_separator (tells_meaning event_separator of_event_separator separator_tells refl) (separator_laws n) event_laws tt ((tt, tt), identifier_missing) refl

  bracketed_events_laws : Laws n (λ m. rule.bracketed_events end) (either_of of_event (a_mark mark.Star)) false any_kind (λ m. bracketed_events_of end)
  unfolding bracketed_events_of
  bracketed_events_laws = either_second n (keep_laws n (apply_laws n (nothing_laws Events n) event_list_laws refl) (mark_laws mark.CloseParenthesis n) refl)
      (keep_laws n (keep_laws n (nothing_laws Implicit n) (mark_laws mark.Star n) refl) (mark_laws mark.CloseParenthesis n) refl)
      (starts_mark mark.Star) (tells_mark mark.Star) refl (record { ready = inl ((tt, tt), tt) }) (λ k. ((tt, (((tt, tt), identifier_missing), tt)), tt))

  events_laws : Laws n (λ m. rule.events end) (either_of (a_mark mark.OpenParenthesis) (a_mark mark.Star)) false any_kind (λ m. events_of end)
  unfolding events_of
  events_laws = either_first n (skip_laws n (mark_laws mark.OpenParenthesis n) bracketed_events_laws refl) (keep_laws n (nothing_laws Implicit n) (mark_laws mark.Star n) refl)
      (starts_mark mark.OpenParenthesis) (tells_mark mark.OpenParenthesis) refl (record { ready = inl (tt, (true, ((tt, tt), tt))) }) (λ k. (tt, tt))

  pub always_laws : Laws n (λ m. rule.always_item end (suc m)) (a_word word.Always) false no_else (λ m. always_of end m)
  unfolding always_of statements.lower
  always_laws =
      apply_laws n (apply_laws n (keep_laws n (keep_laws n (nothing_laws Always n) (word_laws word.Always n) refl) (mark_laws mark.At n) refl) events_laws refl) (lower (statement_laws end (suc n) InAlways)) refl

  pub initial_laws : Laws n (λ m. rule.initial_item end (suc m)) (a_word word.Initial) false no_else (λ m. initial_of end m)
  unfolding initial_of statements.lower
  initial_laws = apply_laws n (keep_laws n (nothing_laws Initial n) (word_laws word.Initial n) refl) (lower (statement_laws end (suc n) WholeInitial)) refl

  -- ---- instances

  maybe_value_laws : Laws n (λ m. phrase.maybe (expression end (suc m))) of_expression true (without ends_expression of_expression) (λ m. read.maybe starts_expression (expression_of end m))
  maybe_value_laws = maybe_laws n starts_expression tells_expression value_below (record { ready = inl (omega arith) })

  connection_laws : Laws n (λ m. rule.connection end (suc m)) (a_mark mark.Dot) false any_kind (λ m. connection_of end m)
  unfolding connection_of bracketed_value_of
  connection_laws =
      reread (keep_laws n (apply_laws n (keep_laws n (apply_laws n (keep_laws n (apply_laws n (nothing_laws Connection n) (place_in_laws end n) refl) (mark_laws mark.Dot n) refl) (identifier_laws end n) refl) (mark_laws mark.OpenParenthesis n) refl) maybe_value_laws refl)
      (mark_laws mark.CloseParenthesis n) refl) (λ m. connection_of end m)
      (λ m here. connection_steps end (read.sign mark.Dot) (identifier_of end) (read.sign mark.OpenParenthesis) (read.maybe starts_expression (expression_of end m)) (read.sign mark.CloseParenthesis) here)

  connection_missing : (rule.connection end (suc n)).missing
  connection_missing = ((((((tt, tt), tt), identifier_missing), tt), tt), tt)

  connection_list_laws : Laws n (λ m. listed (rule.connection end (suc m))) (a_mark mark.Dot) false (ends_list (a_mark mark.Comma) any_kind) (λ m. read.listed (connection_of end m))
  connection_list_laws = listed_laws n connection_laws connection_missing refl

  labels_laws : Laws n (λ m. listed (expression end (suc m))) of_expression false (ends_list (a_mark mark.Comma) ends_expression) (λ m. read.listed (expression_of end m))
  labels_laws = listed_laws n value_below (omega arith) refl

  abbrev of_connections : Kinds
  of_connections = either_of of_expression (a_mark mark.Dot)

  abbrev ends_connections : Kinds
  ends_connections = ends_list (a_mark mark.Comma) ends_expression

  connections_laws : Laws n (λ m. rule.connections end (suc m)) of_connections false ends_connections (λ m. connections_of end m)
  unfolding connections_of
  connections_laws = either_second n (apply_laws n (nothing_laws Ordered n) labels_laws refl) (narrow (apply_laws n (nothing_laws Named n) connection_list_laws refl) ends_connections refl)
      (starts_mark mark.Dot) (tells_mark mark.Dot) refl (record { ready = inl (tt, (connection_missing, tt)) }) (λ k. (tt, (omega arith, tt)))

  connections_missing : (rule.connections end (suc n)).missing
  connections_missing = (true, (tt, (connection_missing, tt)))

  dot_or : (m : Mark) → mark_begins_connection m ≡ (mark_begins_expression m || same_mark m mark.Dot)
  dot_or mark.Dot = refl
  dot_or _ = refl

  tells_connections : Tells starts_connections of_connections
  tells_connections [] = refl
  tells_connections (token.Mark m ∷ ts) = dot_or m
  tells_connections (token.Name n ∷ ts) = refl
  tells_connections (token.Keyword w ∷ ts) = refl
  tells_connections (token.Reserved w ∷ ts) = refl
  tells_connections (token.SystemTask t ∷ ts) = refl
  tells_connections (token.Number ds ∷ ts) = refl
  tells_connections (token.Text t ∷ ts) = refl

  overrides_laws : Laws n (λ m. rule.overrides end (suc m)) (a_mark mark.Hash) false any_kind (λ m. overrides_of end m)
  unfolding overrides_of
  overrides_laws = keep_laws n (skip_laws n (skip_laws n (mark_laws mark.Hash n) (mark_laws mark.OpenParenthesis n) refl) connections_laws refl) (mark_laws mark.CloseParenthesis n) refl

  pub instance_laws : Laws n (λ m. rule.instance_item end (suc m)) a_name false any_kind (λ m. instance_of end m)
  unfolding instance_of instance_tail_of bracketed_connections_of
  instance_laws =
      reread (keep_laws n (keep_laws n (apply_laws n (keep_laws n (apply_laws n (apply_laws n (apply_laws n (nothing_laws Instance n) (identifier_laws end n) refl)
      (maybe_laws n (starts_mark mark.Hash) (tells_mark mark.Hash) overrides_laws (record { ready = inl (((tt, tt), connections_missing), tt) })) refl) (identifier_laws end n) refl) (mark_laws mark.OpenParenthesis n) refl)
      (maybe_laws n starts_connections tells_connections connections_laws (record { ready = inl connections_missing })) refl) (mark_laws mark.CloseParenthesis n) refl) (mark_laws mark.Semicolon n) refl) (λ m. instance_of end m)
      (λ m here. instance_steps (identifier_of end) (read.maybe (starts_mark mark.Hash) (overrides_of end m)) (identifier_of end) (read.sign mark.OpenParenthesis) (read.maybe starts_connections (connections_of end m)) (read.sign mark.CloseParenthesis)
      (read.sign mark.Semicolon) here)

  -- what may be missing of each form
  pub kind_missing : (i : ItemForm) → (rule.item_of_form end (suc n) i).missing
  kind_missing form.Ports = (((tt, (((tt, tt), tt), tt)), (identifier_missing, tt)), tt)
  kind_missing form.Nets = ((((tt, tt), tt), (((tt, identifier_missing), tt), tt)), tt)
  kind_missing form.Registers = ((((tt, tt), tt), (((tt, identifier_missing), tt), tt)), tt)
  kind_missing form.Integers = (((tt, tt), (identifier_missing, tt)), tt)
  kind_missing form.Parameters = ((((tt, tt), tt), (((tt, identifier_missing), value_missing), tt)), tt)
  kind_missing form.ContinuousAssignments = (((tt, tt), (((tt, omega arith), value_missing), tt)), tt)
  kind_missing form.Always = ((((tt, tt), tt), (true, (tt, tt))), statement_missing end n InAlways)
  kind_missing form.Initial = ((tt, tt), statement_missing end n WholeInitial)
  kind_missing form.Instance = ((((((((tt, identifier_missing), tt), identifier_missing), tt), tt), tt)), tt)
