-- The laws of the rules of statements, over those of a statement one level down.
use Rattle.std.proofs.Common.{◌≡◌, ℕ, suc, true, false, ◌&&◌, List, [], ◌∷◌, Option, Some, None, refl, sym, ap, subst, arith, inl}
use Rattle.v_syntax.specs.declared.token.Token.{Token}
use Rattle.v_syntax.specs.declared.token.Token.TheVariants as token
use Rattle.v_syntax.specs.declared.mark.Mark.TheVariants as mark
use Rattle.v_syntax.specs.declared.word.Keyword.TheVariants as word
use Rattle.v_syntax.specs.declared.statement.StatementForm.{StatementForm}
use Rattle.v_syntax.specs.declared.statement.StatementForm.TheVariants as form
use Rattle.v_syntax.specs.declared.statement.StatementPlace.{StatementPlace}
use Rattle.v_syntax.specs.declared.statement.StatementPlace.TheVariants.{InAlways, InInitial, WholeInitial}
use Rattle.v_syntax.specs.Phrases.{Phrase, nothing, token_of, place_in, ◌⊛◌, ◌◃◌, ◌▹◌}
use Rattle.v_syntax.specs.Phrases as phrase
use Rattle.v_syntax.specs.ExpressionTrees.{Tree}
use Rattle.v_syntax.specs.StatementTrees.{StatementTree, CaseTree, If, IfElse, For, HeaderTree, Header, Match, Default}
use Rattle.v_syntax.specs.TokenMeanings.{case_kind}
use Rattle.v_syntax.specs.Statements.{sign, word_of, IsClosed, label, block_tree, delayed_tree, block, delayed_block, if_tree, conditional, listed, match_item, default_item, case_item, case_tree, case_statement, for_header, numbered, for_tree, for_statement, expression}
use Rattle.v_expression.specs.Starts.{mark_begins_expression}
use Rattle.v_expression.specs.Reading.{expression_of}
use Rattle.v_expression.specs.Phrase.Readers.{Reader, down, starts_mark, starts_word, is_some}
use Rattle.v_expression.specs.Phrase.Readers as read
use Rattle.v_expression.specs.Phrase.Kinds.{Kind, AtEnd, AtName, AtKeyword, AtReserved, AtTask, AtNumber, AtText, AtMark, kind_at, Kinds, any_kind, a_mark, a_word, either_of, without, Within, Tells}
use Rattle.v_expression.proofs.PhraseLemmas.KindLaws.{tells_mark, tells_word}
use Rattle.v_expression.proofs.PhraseLemmas.Laws.{Spells, Laws, Ready}
use Rattle.v_expression.proofs.PhraseLemmas.Tokens.{nothing_laws, place_in_laws, mark_laws, word_laws}
use Rattle.v_expression.proofs.PhraseLemmas.Meanings.{of_case_kind, case_kind_laws}
use Rattle.v_expression.proofs.PhraseLemmas.Both.{both_spells, both_by, apply_laws, keep_laws, skip_laws}
use Rattle.v_expression.proofs.PhraseLemmas.Maybe.{maybe_laws}
use Rattle.v_expression.proofs.PhraseLemmas.Many.{many_spells, many_laws}
use Rattle.v_expression.proofs.PhraseLemmas.Lists.{ends_list, some_laws, listed_laws, listed_spells}
use Rattle.v_expression.proofs.PhraseLemmas.Either.{either_spells, either_second}
use Rattle.v_expression.proofs.PhraseLemmas.Change.{reread, rewhole}
use Rattle.v_expression.proofs.PhraseLemmas.Levels.{down_laws}
use Rattle.v_expression.proofs.PhraseLemmas.Branches.{Ends, ended, ended_branches, branches_laws, plain_laws, plain_spells, no_else}
use Rattle.v_expression.proofs.Phrases.{of_expression, ends_expression, expression_phrase_laws}
use Rattle.v_statement.specs.Firsts.{task_form, mark_form, word_form, form_of, starts_statement, starts_case}
use Rattle.v_statement.specs.Reading.{label_of, delay_below_of, statements_of, condition_of, conditional_of, default_of, matched_of, choices_of, case_item_tree, case_item_of, case_items_of, case_head_of, case_of, variable_of, header_of, for_head_of, for_of}
use Rattle.v_statement.proofs.Parts.{label_laws, delay_below_laws, delay_below_ready, variable_by, variable_laws, or_false}
use Rattle.v_statement.proofs.Steps.{conditional_steps, case_steps, matched_same, match_steps, default_steps, item_steps}

-- the form of a statement that begins there
abbrev pub form_at : StatementPlace → Kind → Option StatementForm
form_at p AtName = Some form.Assignment
form_at p (AtMark m) = mark_form p m
form_at p (AtKeyword w) = word_form w
form_at p AtTask = task_form p
form_at p AtEnd = None
form_at p AtReserved = None
form_at p AtNumber = None
form_at p AtText = None

abbrev pub of_statement : StatementPlace → Kinds
of_statement p k = is_some (form_at p k)

pub form_told : (p : StatementPlace) (ts : List Token) → form_of p ts ≡ form_at p (kind_at ts)
form_told p [] = refl
form_told p (token.Mark m ∷ ts) = refl
form_told p (token.Name n ∷ ts) = refl
form_told p (token.Keyword w ∷ ts) = refl
form_told p (token.Reserved w ∷ ts) = refl
form_told p (token.SystemTask t ∷ ts) = refl
form_told p (token.Number ds ∷ ts) = refl
form_told p (token.Text t ∷ ts) = refl

pub tells_statement : (p : StatementPlace) → Tells (starts_statement p) (of_statement p)
tells_statement p ts = ap is_some (form_told p ts)

-- ---- what stands before and behind a statement

no_colon : (p : StatementPlace) → Within (of_statement p) (without any_kind (a_mark mark.Colon))
no_colon InAlways = refl
no_colon InInitial = refl
no_colon WholeInitial = refl

not_else : (p : StatementPlace) → Within (of_statement p) no_else
not_else InAlways = refl
not_else InInitial = refl
not_else WholeInitial = refl

abbrev pub of_case : Kinds
of_case = either_of of_expression (a_word word.Default)

tells_case : Tells starts_case of_case
tells_case [] = refl
tells_case (token.Mark m ∷ ts) = or_false (mark_begins_expression m)
tells_case (token.Name n ∷ ts) = refl
tells_case (token.Keyword word.Default ∷ ts) = refl
tells_case (token.Keyword _ ∷ ts) = refl
tells_case (token.Reserved w ∷ ts) = refl
tells_case (token.SystemTask t ∷ ts) = refl
tells_case (token.Number ds ∷ ts) = refl
tells_case (token.Text t ∷ ts) = refl

-- what stands before the branches of an `if`, and its reader where levels are counted
abbrev condition : ℕ → ℕ → Phrase Token Tree
condition end m = word_of word.If ▹ sign mark.OpenParenthesis ▹ expression end m ◃ sign mark.CloseParenthesis

abbrev condition_by : ℕ → ℕ → Reader Tree
condition_by end m = read.both (λ x y. x) (read.both (λ x y. y) (read.both (λ x y. y) (read.word_of word.If) (read.sign mark.OpenParenthesis)) (down m (expression_of end))) (read.sign mark.CloseParenthesis)

module _ (end n : ℕ) (p : StatementPlace) {S : ℕ → Phrase Token StatementTree} {s : ℕ → Reader StatementTree} (el : Laws n (λ m. ended (S m)) (of_statement p) false any_kind s) (q : Spells n S (of_statement p) false)
    (ready : Ready n S (of_statement p) s) (cut : (S 0).missing → ⊥) (able : (m : ℕ) → (S (suc m)).missing) where
  plain : Laws n S (of_statement p) false no_else s
  plain = plain_laws q el

  -- ---- blocks

  block_front : Laws n (λ m. phrase.both (λ f x. f x) (phrase.both (λ x y. x) (phrase.nothing block_tree) (phrase.exactly (token.Keyword word.Begin))) (phrase.maybe label)) (a_word word.Begin) false (without any_kind (a_mark mark.Colon))
      (λ m. read.both (λ f x. f x) (read.both (λ x y. x) (read.nothing block_tree) (read.word_of word.Begin)) (read.maybe (starts_mark mark.Colon) label_of))
  block_front = apply_laws n (keep_laws n (nothing_laws block_tree n) (word_laws word.Begin n) refl) (maybe_laws n (starts_mark mark.Colon) (tells_mark mark.Colon) (label_laws n) (record { ready = inl (tt, tt) })) refl

  statements_laws : Laws n (λ m. phrase.many (S m)) (of_statement p) true (without no_else (of_statement p)) (λ m. statements_of p (s m))
  unfolding statements_of
  statements_laws = many_laws n (starts_statement p) (tells_statement p) plain ready (not_else p)

  pub block_laws : Within (a_word word.End) (λ k. without any_kind (a_mark mark.Colon) k && without no_else (of_statement p) k) → Laws n (λ m. block (S m)) (a_word word.Begin) false any_kind
      (λ m. read.both (λ x y. x) (read.both (λ f x. f x) (read.both (λ f x. f x) (read.both (λ x y. x) (read.nothing block_tree) (read.word_of word.Begin)) (read.maybe (starts_mark mark.Colon) label_of)) (statements_of p (s m))) (read.word_of word.End))
  block_laws h = keep_laws n (apply_laws n block_front statements_laws (no_colon p)) (word_laws word.End n) h

  pub delayed_block_laws : Within (a_mark mark.Hash) (λ k. without any_kind (a_mark mark.Colon) k && without no_else (of_statement p) k)
      → Within (a_word word.End) (λ k. (without any_kind (a_mark mark.Colon) k && without no_else (of_statement p) k) && without any_kind (a_mark mark.Hash) k)
      → Laws n (λ m. delayed_block end m (S m)) (a_word word.Begin) false any_kind
      (λ m. read.both (λ x y. x) (read.both (λ f x. f x) (read.both (λ f x. f x) (read.both (λ f x. f x) (read.both (λ x y. x) (read.nothing delayed_tree) (read.word_of word.Begin)) (read.maybe (starts_mark mark.Colon) label_of)) (statements_of p (s m))) (read.maybe (starts_mark mark.Hash) (delay_below_of end m))) (read.word_of word.End))
  delayed_block_laws h k =
      keep_laws n (apply_laws n (apply_laws n (apply_laws n (keep_laws n (nothing_laws delayed_tree n) (word_laws word.Begin n) refl) (maybe_laws n (starts_mark mark.Colon) (tells_mark mark.Colon) (label_laws n) (record { ready = inl (tt, tt) })) refl)
      statements_laws (no_colon p)) (maybe_laws n (starts_mark mark.Hash) (tells_mark mark.Hash) (delay_below_laws end n) (delay_below_ready end n)) h) (word_laws word.End n) k

  -- ---- conditionals

  condition_laws : Laws n (λ m. condition end m) (a_word word.If) false any_kind
      (λ m. condition_by end m)
  condition_laws = keep_laws n (skip_laws n (skip_laws n (word_laws word.If n) (mark_laws mark.OpenParenthesis n) refl) (expression_phrase_laws end n) refl) (mark_laws mark.CloseParenthesis n) refl

  pub conditional_spells : Spells n (λ m. conditional end m (S m)) (a_word word.If) false
  conditional_spells = both_spells if_tree n condition_laws.spells (plain_spells n q)

  to_end : (m : ℕ) (z : StatementTree) (here rest : List Token) → (phrase.both if_tree (condition end m) (ended_branches (S m))).whole z here rest
      → (conditional end m (S m)).whole z here rest × Ends z rest
  unfolding IsClosed
  to_end m z here rest (c, (x, None), mid, w, (v, o), e) = ((c, (x, None), mid, w, v, e), subst (λ a. Ends a rest) e (λ h. absurd (o h)))
  to_end m z here rest (c, (x, Some y), mid, w, (us, v, k, u, o), e) = ((c, (x, Some y), mid, w, (us, v, k, u), e), subst (λ a. Ends a rest) e o)

  from_end : (m : ℕ) (z : StatementTree) (here rest : List Token) → (conditional end m (S m)).whole z here rest × Ends z rest
      → (phrase.both if_tree (condition end m) (ended_branches (S m))).whole z here rest
  unfolding IsClosed
  from_end m z here rest ((c, (x, None), mid, w, v, e), o) = let f : Ends (If c x) rest = subst (λ a. Ends a rest) (sym e) o in (c, (x, None), mid, w, (v, f), e)
  from_end m z here rest ((c, (x, Some y), mid, w, (us, v, k, u), e), o) = let f : Ends (IfElse c x y) rest = subst (λ a. Ends a rest) (sym e) o in (c, (x, Some y), mid, w, (us, v, k, u, f), e)

  conditional_body : Laws n (λ m. ended (conditional end m (S m))) (a_word word.If) false any_kind
      (λ m. read.both if_tree (condition_by end m) (read.branches (s m)))
  conditional_body = rewhole (both_by if_tree n condition_laws (branches_laws n el) (λ k i. refl)) (λ m z here rest. (conditional end m (S m)).whole z here rest × Ends z rest) to_end from_end

  pub conditional_laws : Laws n (λ m. ended (conditional end m (S m))) (a_word word.If) false any_kind (λ m. conditional_of end m (s m))
  unfolding conditional_of condition_of
  conditional_laws = down_laws n (λ m. ended (conditional end m (S m))) (a_word word.If) any_kind (λ m. read.both if_tree (condition_by end m) (read.branches (s m))) (λ m. conditional_of end m (s m)) (λ here. refl)
      (λ room here. sym (conditional_steps (condition_by end (suc room)) (s (suc room)) here)) (λ k. omega (arith, k.0.0.1)) (λ m. ((((tt, tt), omega arith), tt), able m)) conditional_body.spells (λ k. conditional_body)

  -- ---- cases

  labels_laws : (expression end n).missing → Laws n (λ m. listed (expression end m)) of_expression false (ends_list (a_mark mark.Comma) ends_expression) (λ m. read.listed (down m (expression_of end)))
  labels_laws k = listed_laws n (expression_phrase_laws end n) k refl

  match_laws : (expression end n).missing → Within (of_statement p) any_kind → Laws n (λ m. match_item end m (S m)) of_expression false no_else (λ m. read.both case_item_tree (read.both (λ f x. f x) (read.nothing Some) (matched_of end m)) (s m))
  match_laws k h =
      reread (apply_laws n (keep_laws n (apply_laws n (nothing_laws Match n) (labels_laws k) refl) (mark_laws mark.Colon n) refl) plain h)
      (λ m. read.both case_item_tree (read.both (λ f x. f x) (read.nothing Some) (matched_of end m)) (s m))
      (λ m here. match_steps (read.listed (down m (expression_of end))) (read.sign mark.Colon) (s m) (matched_of end m) here (matched_same end m here))

  match_spells : Spells n (λ m. match_item end m (S m)) of_expression false
  match_spells = both_spells (λ f x. f x) n (both_spells (λ x y. x) n (both_spells (λ f x. f x) n (nothing_laws Match n).spells (listed_spells n (expression_phrase_laws end n).spells)) (mark_laws mark.Colon n).spells) q

  default_laws : Laws n (λ m. default_item (S m)) (a_word word.Default) false no_else (λ m. read.both case_item_tree (read.both (λ x y. x) (read.nothing None) default_of) (s m))
  unfolding default_of
  default_laws =
      reread (apply_laws n (keep_laws n (keep_laws n (nothing_laws Default n) (word_laws word.Default n) refl) (maybe_laws n (starts_mark mark.Colon) (tells_mark mark.Colon) (mark_laws mark.Colon n) (record { ready = inl tt })) refl) plain (no_colon p))
      (λ m. read.both case_item_tree (read.both (λ x y. x) (read.nothing None) default_of) (s m)) (λ m here. default_steps (read.word_of word.Default) (read.maybe (starts_mark mark.Colon) (read.sign mark.Colon)) (s m) here)

  case_item_laws : (expression end n).missing → (S n).missing → Within (of_statement p) any_kind → Laws n (λ m. case_item end m (S m)) of_case false no_else (λ m. case_item_of end m (s m))
  unfolding case_item_of choices_of
  case_item_laws k j h =
      reread (either_second n (match_laws k h) default_laws (starts_word word.Default) (tells_word word.Default) refl (record { ready = inl (((tt, tt), tt), j) }) (λ i. (((tt, (k, tt)), tt), j)))
      (λ m. case_item_of end m (s m)) (λ m here. item_steps (starts_word word.Default) (read.both (λ x y. x) (read.nothing None) default_of) (read.both (λ f x. f x) (read.nothing Some) (matched_of end m)) (s m) here)

  case_item_spells : Spells n (λ m. case_item end m (S m)) of_case false
  case_item_spells = either_spells n match_spells default_laws.spells

  abbrev case_by : ℕ → Reader StatementTree
  case_by m = read.both (λ x y. x) (read.both (λ f x. f x) (read.both (λ x y. x) (read.both (λ f x. f x) (read.both (λ x y. x) (read.both (λ f x. f x) (read.nothing case_tree) (read.token_of case_kind)) (read.sign mark.OpenParenthesis)) (down m (expression_of end))) (read.sign mark.CloseParenthesis))
      (case_items_of end m (s m))) (read.word_of word.EndCase)

  abbrev case_head : ℕ → Phrase Token (List CaseTree → StatementTree)
  case_head m = nothing case_tree ⊛ token_of case_kind ◃ sign mark.OpenParenthesis ⊛ expression end m ◃ sign mark.CloseParenthesis

  case_head_laws : Laws n case_head of_case_kind false any_kind (λ m. read.both (λ x y. x) (read.both (λ f x. f x) (read.both (λ x y. x) (read.both (λ f x. f x) (read.nothing case_tree) (read.token_of case_kind)) (read.sign mark.OpenParenthesis)) (down m (expression_of end))) (read.sign mark.CloseParenthesis))
  case_head_laws = keep_laws n (apply_laws n (keep_laws n (apply_laws n (nothing_laws case_tree n) (case_kind_laws n) refl) (mark_laws mark.OpenParenthesis n) refl) (expression_phrase_laws end n) refl) (mark_laws mark.CloseParenthesis n) refl

  case_items_laws : (expression end n).missing → (S n).missing → Within (of_statement p) any_kind → Laws n (λ m. phrase.some (case_item end m (S m))) of_case false (ends_list of_case no_else) (λ m. case_items_of end m (s m))
  unfolding case_items_of
  case_items_laws k j h = some_laws n starts_case tells_case (case_item_laws k j h) (record { ready = inl (false, (((tt, (k, tt)), tt), j)) }) refl

  case_body : (expression end n).missing → (S n).missing → Within (of_statement p) any_kind → Laws n (λ m. case_statement end m (S m)) of_case_kind false any_kind case_by
  case_body k j h = keep_laws n (apply_laws n case_head_laws (case_items_laws k j h) refl) (word_laws word.EndCase n) refl

  case_spells : Spells n (λ m. case_statement end m (S m)) of_case_kind false
  case_spells = both_spells (λ x y. x) n (both_spells (λ f x. f x) n case_head_laws.spells (both_spells ◌∷◌ n case_item_spells (many_spells n case_item_spells))) (word_laws word.EndCase n).spells

  pub case_laws : Within (of_statement p) any_kind → Laws n (λ m. case_statement end m (S m)) of_case_kind false any_kind (λ m. case_of end m (s m))
  unfolding case_of case_head_of
  case_laws h = down_laws n (λ m. case_statement end m (S m)) of_case_kind any_kind case_by (λ m. case_of end m (s m)) (λ here. refl)
      (λ room here. sym (case_steps (read.token_of case_kind) (read.sign mark.OpenParenthesis) (expression_of end room) (read.sign mark.CloseParenthesis) (case_items_of end (suc room) (s (suc room))) (read.word_of word.EndCase) here)) (λ k. omega (arith, k.0.0.0.1))
      (λ m. ((((((((tt, tt), tt), omega arith), tt)), ((false, (((tt, (omega arith, tt)), tt), able m)), tt))), tt)) case_spells (λ k. case_body k.0.0.0.1 (of_items k.0.1.0) h)
    where
      of_items : (case_item end n (S n)).missing → (S n).missing
      of_items (false, k) = k.1
      of_items (true, k) = k.1

  -- ---- `for`

  abbrev for_front : ℕ → Phrase Token (ℕ × HeaderTree)
  for_front m = nothing numbered ⊛ place_in end ◃ word_of word.For ⊛ for_header end m

  abbrev for_front_by : ℕ → Reader (ℕ × HeaderTree)
  for_front_by m = read.both (λ f x. f x) (read.both (λ x y. x) (read.both (λ f x. f x) (read.nothing numbered) (read.place_in end)) (read.word_of word.For))
      (read.both (λ x y. x) (read.both (λ f x. f x) (read.both (λ x y. x) (read.both (λ f x. f x) (read.both (λ x y. x) (read.both (λ f x. f x) (read.both (λ x y. x) (read.nothing Header) (read.sign mark.OpenParenthesis)) (variable_by end m)) (read.sign mark.Semicolon))
      (down m (expression_of end))) (read.sign mark.Semicolon)) (variable_by end m)) (read.sign mark.CloseParenthesis))

  for_front_laws : Laws n for_front (a_word word.For) false any_kind for_front_by
  for_front_laws =
      apply_laws n (keep_laws n (apply_laws n (nothing_laws numbered n) (place_in_laws end n) refl) (word_laws word.For n) refl)
      (keep_laws n (apply_laws n (keep_laws n (apply_laws n (keep_laws n (apply_laws n (keep_laws n (nothing_laws Header n) (mark_laws mark.OpenParenthesis n) refl) (variable_laws end n) refl) (mark_laws mark.Semicolon n) refl)
      (expression_phrase_laws end n) refl) (mark_laws mark.Semicolon n) refl) (variable_laws end n) refl) (mark_laws mark.CloseParenthesis n) refl) refl

  pub for_spells : Spells n (λ m. for_statement end m (S m)) (a_word word.For) false
  for_spells = both_spells for_tree n for_front_laws.spells q

  for_to_end : (m : ℕ) (z : StatementTree) (here rest : List Token) → (phrase.both for_tree (for_front m) (ended (S m))).whole z here rest → (for_statement end m (S m)).whole z here rest × Ends z rest
  unfolding IsClosed
  for_to_end m z here rest ((at, h), x, mid, w, (v, o), e) = (((at, h), x, mid, w, v, e), subst (λ a. Ends a rest) e o)

  for_from_end : (m : ℕ) (z : StatementTree) (here rest : List Token) → (for_statement end m (S m)).whole z here rest × Ends z rest → (phrase.both for_tree (for_front m) (ended (S m))).whole z here rest
  unfolding IsClosed
  for_from_end m z here rest (((at, h), x, mid, w, v, e), o) = let f : Ends (For at h x) rest = subst (λ a. Ends a rest) (sym e) o in ((at, h), x, mid, w, (v, f), e)

  for_body : Laws n (λ m. ended (for_statement end m (S m))) (a_word word.For) false any_kind (λ m. read.both for_tree (for_front_by m) (s m))
  for_body = rewhole (both_by for_tree n for_front_laws el (λ k i. refl)) (λ m z here rest. (for_statement end m (S m)).whole z here rest × Ends z rest) for_to_end for_from_end

  pub for_laws : Laws n (λ m. ended (for_statement end m (S m))) (a_word word.For) false any_kind (λ m. for_of end m (s m))
  unfolding for_of for_head_of header_of variable_of
  for_laws = down_laws n (λ m. ended (for_statement end m (S m))) (a_word word.For) any_kind (λ m. read.both for_tree (for_front_by m) (s m)) (λ m. for_of end m (s m)) (λ here. refl) (λ room here. refl)
      (λ k. omega (arith, k.0.1.0.0.0.1)) (λ m. ((((tt, tt), tt), (((((((tt, tt), (((tt, ((tt, tt), tt)), tt), omega arith)), tt), omega arith), tt), (((tt, ((tt, tt), tt)), tt), omega arith)), tt)), able m)) for_body.spells (λ k. for_body)
