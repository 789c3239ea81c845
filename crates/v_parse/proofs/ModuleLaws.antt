-- The laws of modules. Heights are counted from one.
use Rattle.std.proofs.Common.{ℕ, suc, true, false, [], ◌∷◌, refl, arith, inl}
use Rattle.v_syntax.specs.declared.token.Token.TheVariants as token
use Rattle.v_syntax.specs.declared.mark.Mark.TheVariants as mark
use Rattle.v_syntax.specs.declared.word.Keyword.TheVariants as word
use Rattle.v_syntax.specs.TokenMeanings.{direction_of}
use Rattle.v_syntax.specs.SourceTrees.{HeaderParameterOf, HeaderPortOf, NamedPorts, DeclaredPorts}
use Rattle.v_syntax.specs.Phrases as phrase
use Rattle.v_syntax.specs.Statements.{identifier}
use Rattle.v_syntax.specs.Items.{item, value}
use Rattle.v_syntax.specs.Sources.{headed, with_head, module_tree}
use Rattle.v_syntax.specs.Sources as rule
use Rattle.v_expression.specs.Phrase.Readers.{starts_mark, starts_word, identifier_of}
use Rattle.v_expression.specs.Phrase.Readers as read
use Rattle.v_expression.specs.Phrase.Kinds.{Kinds, any_kind, a_mark, a_word, a_name, either_of, without, Tells}
use Rattle.v_expression.proofs.PhraseLemmas.KindLaws.{tells_mark, tells_word}
use Rattle.v_expression.proofs.PhraseLemmas.Laws.{Laws}
use Rattle.v_expression.proofs.PhraseLemmas.Tokens.{nothing_laws, mark_laws, word_laws, tells_meaning}
use Rattle.v_expression.proofs.PhraseLemmas.Meanings.{of_direction, direction_tells, identifier_laws}
use Rattle.v_expression.proofs.PhraseLemmas.Both.{both_laws, apply_laws, keep_laws, skip_laws}
use Rattle.v_expression.proofs.PhraseLemmas.Maybe.{maybe_laws}
use Rattle.v_expression.proofs.PhraseLemmas.Many.{many_laws}
use Rattle.v_expression.proofs.PhraseLemmas.Lists.{ends_list}
use Rattle.v_expression.proofs.PhraseLemmas.Either.{either_second}
use Rattle.v_expression.proofs.PhraseLemmas.Branches.{no_else}
use Rattle.v_expression.proofs.PhraseLemmas.Change.{narrow, reread}
use Rattle.v_expression.proofs.Phrases.{ends_expression}
use Rattle.v_parse.specs.Item.Firsts.{starts_item, starts_direction}
use Rattle.v_parse.proofs.ItemLemmas.Rules.{maybe_range_laws, value_laws, port_head_laws, identifiers_laws}
use Rattle.v_parse.proofs.ItemLemmas.Laws.{of_item, tells_item, item_laws, item_missing}
use Rattle.v_parse.proofs.Steps.{module_steps}
use Rattle.v_parse.specs.Firsts.{starts_ports}
use Rattle.v_parse.specs.Reading.{parameter_head_of, first_parameter_of, next_parameter_of, parameter_list_of, header_parameters_of, first_port_of, next_port_of, declared_ports_of, ports_of, port_list_of, items_of, module_name_of, module_body_of, module_of, modules_of}

module _ (end n : ℕ) where
  identifier_missing : (identifier end).missing
  identifier_missing = ((tt, tt), tt)

  -- ---- parameters

  parameter_head_laws : Laws n (λ m. rule.parameter_head end (suc m)) (a_word word.Parameter) false (without any_kind (a_mark mark.OpenBracket)) (λ m. parameter_head_of end m)
  unfolding parameter_head_of
  parameter_head_laws = narrow (skip_laws n (word_laws word.Parameter n) (maybe_range_laws end n) refl) (without any_kind (a_mark mark.OpenBracket)) refl

  first_parameter_laws : Laws n (λ m. rule.first_parameter end (suc m)) (a_word word.Parameter) false ends_expression (λ m. first_parameter_of end m)
  unfolding first_parameter_of
  first_parameter_laws = apply_laws n (apply_laws n (apply_laws n (nothing_laws HeaderParameterOf n) (apply_laws n (nothing_laws headed n) parameter_head_laws refl) refl) (identifier_laws end n) refl) (value_laws end n) refl

  abbrev of_next_parameter : Kinds
  of_next_parameter = either_of (a_word word.Parameter) a_name

  next_parameter_laws : Laws n (λ m. rule.next_parameter end (suc m)) of_next_parameter false ends_expression (λ m. next_parameter_of end m)
  unfolding next_parameter_of
  next_parameter_laws = apply_laws n (apply_laws n (apply_laws n (nothing_laws HeaderParameterOf n) (maybe_laws n (starts_word word.Parameter) (tells_word word.Parameter) parameter_head_laws (record { ready = inl (tt, tt) })) refl) (identifier_laws end n) refl) (value_laws end n) refl

  value_missing : (value end (suc n)).missing
  value_missing = (tt, omega arith)

  parameter_list_laws : Laws n (λ m. phrase.both ◌∷◌ (rule.first_parameter end (suc m)) (phrase.many (phrase.both (λ x y. y) (phrase.exactly (token.Mark mark.Comma)) (rule.next_parameter end (suc m))))) (a_word word.Parameter) false
      (ends_list (a_mark mark.Comma) ends_expression) (λ m. parameter_list_of end m)
  unfolding parameter_list_of
  parameter_list_laws =
      both_laws ◌∷◌ n first_parameter_laws (many_laws n (starts_mark mark.Comma) (tells_mark mark.Comma) (skip_laws n (mark_laws mark.Comma n) next_parameter_laws refl) (record { ready = inl (tt, (((tt, tt), identifier_missing), value_missing)) }) refl) refl

  header_parameters_laws : Laws n (λ m. rule.header_parameters end (suc m)) (a_mark mark.Hash) false any_kind (λ m. header_parameters_of end m)
  unfolding header_parameters_of
  header_parameters_laws = keep_laws n (skip_laws n (skip_laws n (mark_laws mark.Hash n) (mark_laws mark.OpenParenthesis n) refl) parameter_list_laws refl) (mark_laws mark.CloseParenthesis n) refl

  -- ---- ports

  first_port_laws : Laws n (λ m. rule.first_port end (suc m)) of_direction false any_kind (λ m. first_port_of end m)
  unfolding first_port_of
  first_port_laws = apply_laws n (apply_laws n (nothing_laws HeaderPortOf n) (apply_laws n (nothing_laws with_head n) (port_head_laws end n) refl) refl) (identifier_laws end n) refl

  tells_direction : Tells starts_direction of_direction
  tells_direction = tells_meaning direction_of of_direction direction_tells refl

  abbrev of_next_port : Kinds
  of_next_port = either_of of_direction a_name

  next_port_laws : Laws n (λ m. rule.next_port end (suc m)) of_next_port false any_kind (λ m. next_port_of end m)
  unfolding next_port_of
  next_port_laws = apply_laws n (apply_laws n (nothing_laws HeaderPortOf n) (maybe_laws n starts_direction tells_direction (port_head_laws end n) (record { ready = inl (((tt, tt), tt), tt) })) refl) (identifier_laws end n) refl

  declared_ports_laws : Laws n (λ m. rule.declared_ports end (suc m)) of_direction false (ends_list (a_mark mark.Comma) any_kind) (λ m. declared_ports_of end m)
  unfolding declared_ports_of
  declared_ports_laws =
      both_laws ◌∷◌ n first_port_laws (many_laws n (starts_mark mark.Comma) (tells_mark mark.Comma) (skip_laws n (mark_laws mark.Comma n) next_port_laws refl) (record { ready = inl (tt, ((tt, tt), identifier_missing)) }) refl) refl

  abbrev of_ports : Kinds
  of_ports = either_of a_name of_direction

  first_port_missing : (rule.first_port end (suc n)).missing
  first_port_missing = ((tt, (tt, (((tt, tt), tt), tt))), identifier_missing)

  ports_laws : Laws n (λ m. rule.ports end (suc m)) of_ports false (ends_list (a_mark mark.Comma) any_kind) (λ m. ports_of end m)
  unfolding ports_of
  ports_laws = either_second n (apply_laws n (nothing_laws NamedPorts n) (identifiers_laws end n) refl) (apply_laws n (nothing_laws DeclaredPorts n) declared_ports_laws refl)
      starts_direction tells_direction refl (record { ready = inl (tt, (first_port_missing, tt)) }) (λ k. (tt, (identifier_missing, tt)))

  tells_ports : Tells starts_ports of_ports
  tells_ports [] = refl
  tells_ports (token.Mark m ∷ ts) = refl
  tells_ports (token.Name n ∷ ts) = refl
  tells_ports (token.Keyword word.Input ∷ ts) = refl
  tells_ports (token.Keyword _ ∷ ts) = refl
  tells_ports (token.Reserved w ∷ ts) = refl
  tells_ports (token.SystemTask t ∷ ts) = refl
  tells_ports (token.Number ds ∷ ts) = refl
  tells_ports (token.Text t ∷ ts) = refl

  port_list_laws : Laws n (λ m. rule.port_list end (suc m)) (a_mark mark.OpenParenthesis) false any_kind (λ m. port_list_of end m)
  unfolding port_list_of
  port_list_laws = keep_laws n (skip_laws n (mark_laws mark.OpenParenthesis n) (maybe_laws n starts_ports tells_ports ports_laws (record { ready = inl (false, (tt, (identifier_missing, tt))) })) refl) (mark_laws mark.CloseParenthesis n) refl

  -- ---- modules

  items_laws : Laws n (λ m. phrase.many (item end (suc m))) of_item true (without no_else of_item) (λ m. items_of end m)
  unfolding items_of
  items_laws = many_laws n starts_item tells_item (item_laws end n) (record { ready = inl (item_missing end n) }) refl

  module_laws : Laws n (λ m. rule.module_definition end (suc m)) (a_word word.Module) false any_kind (λ m. module_of end m)
  unfolding module_name_of module_body_of module_of
  module_laws =
      reread (keep_laws n (apply_laws n (keep_laws n (apply_laws n (apply_laws n (apply_laws n (keep_laws n (nothing_laws module_tree n) (word_laws word.Module n) refl) (identifier_laws end n) refl)
      (maybe_laws n (starts_mark mark.Hash) (tells_mark mark.Hash) header_parameters_laws (record { ready = inl (((tt, tt), ((((tt, (tt, (tt, tt))), identifier_missing), value_missing), tt)), tt) })) refl)
      (maybe_laws n (starts_mark mark.OpenParenthesis) (tells_mark mark.OpenParenthesis) port_list_laws (record { ready = inl ((tt, tt), tt) })) refl) (mark_laws mark.Semicolon n) refl) items_laws refl) (word_laws word.EndModule n) refl) (λ m. module_of end m)
      (λ m here. module_steps (read.word_of word.Module) (identifier_of end) (read.maybe (starts_mark mark.Hash) (header_parameters_of end m)) (read.maybe (starts_mark mark.OpenParenthesis) (port_list_of end m)) (read.sign mark.Semicolon)
      (items_of end m) (read.word_of word.EndModule) here)

  -- the modules of a text
  pub source_laws : Laws n (λ m. rule.source end (suc m)) (a_word word.Module) true (without any_kind (a_word word.Module)) (λ m. modules_of end m)
  unfolding modules_of
  source_laws = many_laws n (starts_word word.Module) (tells_word word.Module) module_laws (record { ready = inl (((((((tt, tt), identifier_missing), tt), tt), tt), tt), tt) }) refl
