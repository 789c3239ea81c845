-- Tokens with the meanings of the grammar.
use Rattle.std.proofs.Common.{◌≡◌, ℕ, true, false, refl}
use Rattle.v_syntax.specs.declared.token.Token.{Token}
use Rattle.v_syntax.specs.declared.token.Token.TheVariants as token
use Rattle.v_syntax.specs.declared.mark.Mark.TheVariants as mark
use Rattle.v_syntax.specs.declared.word.Keyword.TheVariants as word
use Rattle.v_syntax.specs.TokenMeanings.{name_of, number_of, text_of, task_of, case_kind, direction_of, port_kind, parameter_kind, edge_of, event_separator}
use Rattle.v_syntax.specs.Phrases as phrase
use Rattle.v_syntax.specs.Statements.{named_at, identifier}
use Rattle.v_expression.specs.Phrase.Readers.{is_some, identifier_of}
use Rattle.v_expression.specs.Phrase.Readers as read
use Rattle.v_expression.specs.Phrase.Kinds.{AtKeyword, AtMark, kind_of, Kinds, any_kind, a_name, a_number, a_text, a_task}
use Rattle.v_expression.proofs.PhraseLemmas.Laws.{Laws}
use Rattle.v_expression.proofs.PhraseLemmas.Tokens.{nothing_laws, place_in_laws, meant_laws}
use Rattle.v_expression.proofs.PhraseLemmas.Both.{apply_laws}

abbrev pub of_case_kind : Kinds
of_case_kind (AtKeyword word.Case) = true
of_case_kind (AtKeyword word.CaseZ) = true
of_case_kind (AtKeyword word.CaseX) = true
of_case_kind _ = false

abbrev pub of_direction : Kinds
of_direction (AtKeyword word.Input) = true
of_direction (AtKeyword word.Output) = true
of_direction _ = false

abbrev pub of_port_kind : Kinds
of_port_kind (AtKeyword word.Wire) = true
of_port_kind (AtKeyword word.Reg) = true
of_port_kind _ = false

abbrev pub of_parameter_kind : Kinds
of_parameter_kind (AtKeyword word.Parameter) = true
of_parameter_kind (AtKeyword word.LocalParam) = true
of_parameter_kind _ = false

abbrev pub of_edge : Kinds
of_edge (AtKeyword word.PosEdge) = true
of_edge (AtKeyword word.NegEdge) = true
of_edge _ = false

abbrev pub of_event_separator : Kinds
of_event_separator (AtKeyword word.Or) = true
of_event_separator (AtMark mark.Comma) = true
of_event_separator _ = false

name_tells : (t : Token) → is_some (name_of t) ≡ a_name (kind_of t)
name_tells (token.Name n) = refl
name_tells _ = refl

number_tells : (t : Token) → is_some (number_of t) ≡ a_number (kind_of t)
number_tells (token.Number ds) = refl
number_tells _ = refl

text_tells : (t : Token) → is_some (text_of t) ≡ a_text (kind_of t)
text_tells (token.Text b) = refl
text_tells _ = refl

pub task_tells : (t : Token) → is_some (task_of t) ≡ a_task (kind_of t)
task_tells (token.SystemTask s) = refl
task_tells _ = refl

pub case_tells : (t : Token) → is_some (case_kind t) ≡ of_case_kind (kind_of t)
case_tells (token.Keyword word.Case) = refl
case_tells (token.Keyword _) = refl
case_tells _ = refl

pub direction_tells : (t : Token) → is_some (direction_of t) ≡ of_direction (kind_of t)
direction_tells (token.Keyword word.Input) = refl
direction_tells (token.Keyword _) = refl
direction_tells _ = refl

pub port_tells : (t : Token) → is_some (port_kind t) ≡ of_port_kind (kind_of t)
port_tells (token.Keyword word.Wire) = refl
port_tells (token.Keyword _) = refl
port_tells _ = refl

parameter_tells : (t : Token) → is_some (parameter_kind t) ≡ of_parameter_kind (kind_of t)
parameter_tells (token.Keyword word.Parameter) = refl
parameter_tells (token.Keyword _) = refl
parameter_tells _ = refl

pub edge_tells : (t : Token) → is_some (edge_of t) ≡ of_edge (kind_of t)
edge_tells (token.Keyword word.PosEdge) = refl
edge_tells (token.Keyword _) = refl
edge_tells _ = refl

pub separator_tells : (t : Token) → is_some (event_separator t) ≡ of_event_separator (kind_of t)
separator_tells (token.Keyword word.Or) = refl
separator_tells (token.Keyword _) = refl
separator_tells (token.Mark mark.Comma) = refl
separator_tells (token.Mark _) = refl
separator_tells _ = refl

pub name_laws : (n : ℕ) → Laws n (λ m. phrase.token_of name_of) a_name false any_kind (λ m. read.token_of name_of)
name_laws n = meant_laws name_of a_name name_tells n

pub number_laws : (n : ℕ) → Laws n (λ m. phrase.token_of number_of) a_number false any_kind (λ m. read.token_of number_of)
number_laws n = meant_laws number_of a_number number_tells n

pub text_laws : (n : ℕ) → Laws n (λ m. phrase.token_of text_of) a_text false any_kind (λ m. read.token_of text_of)
text_laws n = meant_laws text_of a_text text_tells n

pub task_laws : (n : ℕ) → Laws n (λ m. phrase.token_of task_of) a_task false any_kind (λ m. read.token_of task_of)
task_laws n = meant_laws task_of a_task task_tells n

pub case_kind_laws : (n : ℕ) → Laws n (λ m. phrase.token_of case_kind) of_case_kind false any_kind (λ m. read.token_of case_kind)
case_kind_laws n = meant_laws case_kind of_case_kind case_tells n

pub direction_laws : (n : ℕ) → Laws n (λ m. phrase.token_of direction_of) of_direction false any_kind (λ m. read.token_of direction_of)
direction_laws n = meant_laws direction_of of_direction direction_tells n

pub port_kind_laws : (n : ℕ) → Laws n (λ m. phrase.token_of port_kind) of_port_kind false any_kind (λ m. read.token_of port_kind)
port_kind_laws n = meant_laws port_kind of_port_kind port_tells n

pub parameter_kind_laws : (n : ℕ) → Laws n (λ m. phrase.token_of parameter_kind) of_parameter_kind false any_kind (λ m. read.token_of parameter_kind)
parameter_kind_laws n = meant_laws parameter_kind of_parameter_kind parameter_tells n

pub edge_laws : (n : ℕ) → Laws n (λ m. phrase.token_of edge_of) of_edge false any_kind (λ m. read.token_of edge_of)
edge_laws n = meant_laws edge_of of_edge edge_tells n

pub separator_laws : (n : ℕ) → Laws n (λ m. phrase.token_of event_separator) of_event_separator false any_kind (λ m. read.token_of event_separator)
separator_laws n = meant_laws event_separator of_event_separator separator_tells n

pub identifier_laws : (end n : ℕ) → Laws n (λ m. identifier end) a_name false any_kind (λ m. identifier_of end)
unfolding identifier_of
identifier_laws end n = apply_laws n (apply_laws n (nothing_laws named_at n) (place_in_laws end n) refl) (name_laws n) refl
