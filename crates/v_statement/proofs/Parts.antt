-- The laws of what statements are made of.
use Rattle.std.proofs.Common.{◌≡◌, ℕ, zero, suc, Bool, true, false, ◌||◌, List, [], ◌∷◌, length, refl, ap, arith, inl, inr}
use Rattle.v_syntax.specs.declared.token.Token.{Token}
use Rattle.v_syntax.specs.declared.token.Token.TheVariants as token
use Rattle.v_syntax.specs.declared.mark.Mark.TheVariants as mark
use Rattle.v_syntax.specs.declared.statement.AssignmentKind.TheVariants.{Blocking}
use Rattle.v_syntax.specs.StatementTrees.{Value, Text, VariableTree, Variable, Delay}
use Rattle.v_expression.specs.Starts.{mark_begins_expression}
use Rattle.v_syntax.specs.Statements.{sign, listed, delay_value, later_kind, delay_control, assignment_kind, assignment_tree, task_tree, label, delay, delay_below, assignment, argument, arguments, task_enable, variable_assignment, expression}
use Rattle.v_expression.specs.Starts.{starts_expression}
use Rattle.v_expression.specs.Reading.{expression_of, target_of}
use Rattle.v_expression.specs.Phrase.Readers.{Reader, down, starts_mark, identifier_of}
use Rattle.v_syntax.specs.Phrases as phrase
use Rattle.v_expression.specs.Phrase.Readers as read
use Rattle.v_expression.specs.Phrase.Kinds.{Kinds, kind_at, any_kind, a_mark, a_name, a_text, a_task, either_of, without, Tells}
use Rattle.v_expression.proofs.PhraseLemmas.KindLaws.{tells_mark}
use Rattle.v_expression.proofs.PhraseLemmas.Laws.{Goes, Laws, Ready}
use Rattle.v_expression.proofs.PhraseLemmas.Tokens.{nothing_laws, place_in_laws, mark_laws, mark_here}
use Rattle.v_expression.proofs.PhraseLemmas.Meanings.{identifier_laws, name_laws, number_laws, text_laws, task_laws}
use Rattle.v_expression.proofs.PhraseLemmas.Both.{apply_laws, keep_laws, skip_laws}
use Rattle.v_expression.proofs.PhraseLemmas.Ready.{ready_behind}
use Rattle.v_expression.proofs.PhraseLemmas.Maybe.{maybe_laws}
use Rattle.v_expression.proofs.PhraseLemmas.Lists.{ends_list, listed_laws}
use Rattle.v_expression.proofs.PhraseLemmas.Either.{either_first}
use Rattle.v_expression.proofs.PhraseLemmas.Change.{narrow, raise}
use Rattle.v_expression.proofs.PhraseLemmas.Never.{never_deep}
use Rattle.v_expression.proofs.PhraseLemmas.Levels.{down_laws, down_ready}
use Rattle.v_expression.proofs.Phrases.{of_expression, ends_expression, of_target, tells_expression, expression_phrase_laws, expression_ready, target_phrase_laws}
use Rattle.v_statement.specs.Firsts.{starts_argument}
use Rattle.v_statement.specs.Reading.{label_of, delay_of, delay_below_of, delay_control_of, later_kind_of, assignment_kind_of, assignment_of, value_below, argument_of, arguments_of, task_of_room}

pub label_laws : (n : ℕ) → Laws n (λ m. label) (a_mark mark.Colon) false any_kind (λ m. label_of)
unfolding label_of
label_laws n = skip_laws n (mark_laws mark.Colon n) (name_laws n) refl

pub delay_laws : (end n : ℕ) → Laws n (λ m. delay end) (a_mark mark.Hash) false any_kind (λ m. delay_of end)
unfolding delay_of
delay_laws end n =
    keep_laws n (apply_laws n (apply_laws n (keep_laws n (nothing_laws Delay n) (mark_laws mark.Hash n) refl) (place_in_laws end n) refl) (number_laws n) refl) (mark_laws mark.Semicolon n) refl

-- a delay one level down
module _ (end : ℕ) where
  pub delay_below_laws : (n : ℕ) → Laws n (λ m. delay_below end m) (a_mark mark.Hash) false any_kind (λ m. delay_below_of end m)
  unfolding delay_below_of
  delay_below_laws zero = never_deep 0 (λ m. delay_below end m) (a_mark mark.Hash) any_kind false (λ m. delay_below_of end m) (λ here. refl) (λ x here rest w. w) (λ here rest f. f) (λ k. k)
  delay_below_laws (suc n) = raise (delay_laws end n)

  delay_goes : (here : List Token) → a_mark mark.Hash (kind_at here) ≡ true → Goes 0 (λ m. delay_below end m) here (length here)
  delay_goes here h = let (us, e) = mark_here mark.Hash here h in (1, omega arith, us, inl (inl (inl (inr (Delay, here, (refl, refl), inr e), tt), tt), tt), (let l : length here ≡ suc (length us) = ap length e in omega arith))

  pub delay_below_ready : (n : ℕ) → Ready n (λ m. delay_below end m) (a_mark mark.Hash) (λ m. delay_below_of end m)
  unfolding delay_below_of
  delay_below_ready n = down_ready n (λ m. delay_below end m) (a_mark mark.Hash) (λ m. delay_below_of end m) (λ here. refl) (λ m. ((((tt, tt), tt), tt), tt)) delay_goes

-- ---- assignments

-- where levels are counted
abbrev pub variable_by : ℕ → ℕ → Reader VariableTree
variable_by end m = read.both (λ f x. f x) (read.both (λ x y. x) (read.both (λ f x. f x) (read.nothing Variable) (identifier_of end)) (read.sign mark.Assign)) (down m (expression_of end))

pub or_false : (b : Bool) → b ≡ (b || false)
or_false true = refl
or_false false = refl

module _ (end n : ℕ) where
  delay_control_laws : Laws n (λ m. delay_control end) (a_mark mark.Hash) false any_kind (λ m. delay_control_of end)
  unfolding delay_control_of
  delay_control_laws = apply_laws n (apply_laws n (keep_laws n (nothing_laws delay_value n) (mark_laws mark.Hash n) refl) (place_in_laws end n) refl) (number_laws n) refl

  later_kind_laws : Laws n (λ m. phrase.both (λ f x. f x) (phrase.both (λ x y. x) (phrase.nothing later_kind) (sign mark.LessOrEqual)) (phrase.maybe (delay_control end))) (a_mark mark.LessOrEqual) false (without any_kind (a_mark mark.Hash))
      (λ m. later_kind_of end)
  unfolding later_kind_of
  later_kind_laws =
      apply_laws n (keep_laws n (nothing_laws later_kind n) (mark_laws mark.LessOrEqual n) refl) (maybe_laws n (starts_mark mark.Hash) (tells_mark mark.Hash) delay_control_laws (record { ready = inl (((tt, tt), tt), tt) })) refl

  abbrev of_assignment_kind : Kinds
  of_assignment_kind = either_of (a_mark mark.Assign) (a_mark mark.LessOrEqual)

  assignment_kind_laws : Laws n (λ m. assignment_kind end) of_assignment_kind false (without any_kind (a_mark mark.Hash)) (λ m. assignment_kind_of end)
  unfolding assignment_kind_of
  assignment_kind_laws = either_first n (narrow (keep_laws n (nothing_laws Blocking n) (mark_laws mark.Assign n) refl) (without any_kind (a_mark mark.Hash)) refl) later_kind_laws
      (starts_mark mark.Assign) (tells_mark mark.Assign) refl (record { ready = inl (tt, tt) }) (λ k. ((tt, tt), tt))

  assigned_laws : Laws n (λ m. assignment end m) of_target false any_kind (λ m ts. read.both (λ x y. x) (read.both (λ f x. f x) (read.both (λ f x. f x) (read.both (λ f x. f x) (read.nothing assignment_tree) (down m (target_of end))) (assignment_kind_of end)) (down m (expression_of end))) (read.sign mark.Semicolon) ts)
  assigned_laws =
      keep_laws n (apply_laws n (apply_laws n (apply_laws n (nothing_laws assignment_tree n) (target_phrase_laws end n) refl) assignment_kind_laws refl) (expression_phrase_laws end n) refl) (mark_laws mark.Semicolon n) refl

  pub assignment_laws : Laws n (λ m. assignment end m) of_target false any_kind (λ m. assignment_of end m)
  unfolding assignment_of
  assignment_laws = down_laws n (λ m. assignment end m) of_target any_kind _ (λ m. assignment_of end m) (λ here. refl) (λ room here. refl) (λ k. omega (arith, k.0.1)) (λ m. ((((tt, omega arith), (false, (tt, tt))), omega arith), tt)) assigned_laws.spells (λ k. assigned_laws)

  -- ---- system tasks

  value_laws : Laws n (λ m. expression end m) of_expression false ends_expression (λ m. value_below end m)
  unfolding value_below
  value_laws = expression_phrase_laws end n

  value_ready : Ready n (λ m. expression end m) of_expression (λ m. value_below end m)
  unfolding value_below
  value_ready = expression_ready end n

  abbrev of_argument : Kinds
  of_argument = either_of of_expression a_text

  argument_laws : Laws n (λ m. argument end m) of_argument false ends_expression (λ m. argument_of end m)
  unfolding argument_of
  argument_laws = either_first n (apply_laws n (nothing_laws Value n) value_laws refl) (narrow (apply_laws n (nothing_laws Text n) (text_laws n) refl) ends_expression refl)
      starts_expression tells_expression refl (ready_behind (λ f x. f x) Value value_ready) (λ k. (tt, tt))

  tells_argument : Tells starts_argument of_argument
  tells_argument [] = refl
  tells_argument (token.Mark m ∷ ts) = or_false (mark_begins_expression m)
  tells_argument (token.Name n ∷ ts) = refl
  tells_argument (token.Keyword w ∷ ts) = refl
  tells_argument (token.Reserved w ∷ ts) = refl
  tells_argument (token.SystemTask t ∷ ts) = refl
  tells_argument (token.Number ds ∷ ts) = refl
  tells_argument (token.Text t ∷ ts) = refl

  argument_list_laws : Laws n (λ m. listed (argument end m)) of_argument false (ends_list (a_mark mark.Comma) ends_expression) (λ m. read.listed (argument_of end m))
  argument_list_laws = listed_laws n argument_laws (true, (tt, tt)) refl

  arguments_laws : Laws n (λ m. arguments end m) (a_mark mark.OpenParenthesis) false any_kind (λ m. arguments_of end m)
  unfolding arguments_of
  arguments_laws =
      keep_laws n (skip_laws n (mark_laws mark.OpenParenthesis n) (maybe_laws n starts_argument tells_argument argument_list_laws (record { ready = inl ((true, (tt, tt)), tt) })) refl) (mark_laws mark.CloseParenthesis n) refl

  pub task_enable_laws : Laws n (λ m. task_enable end m) a_task false any_kind (λ m. task_of_room end m)
  unfolding task_of_room
  task_enable_laws =
      keep_laws n (apply_laws n (apply_laws n (nothing_laws task_tree n) (task_laws n) refl) (maybe_laws n (starts_mark mark.OpenParenthesis) (tells_mark mark.OpenParenthesis) arguments_laws (record { ready = inl (((tt, tt), tt)) })) refl) (mark_laws mark.Semicolon n) refl

  -- ---- the header of a `for`

  pub variable_laws : Laws n (λ m. variable_assignment end m) a_name false ends_expression (λ m. variable_by end m)
  variable_laws = apply_laws n (keep_laws n (apply_laws n (nothing_laws Variable n) (identifier_laws end n) refl) (mark_laws mark.Assign n) refl) (expression_phrase_laws end n) refl
