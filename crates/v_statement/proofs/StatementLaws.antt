-- The laws of statements of every height.
use Rattle.std.proofs.Common.{◌≡◌, ℕ, zero, suc, true, false, List, length, Option, Some, None, refl, sym, ap, ◌∙◌, arith, inl, inr}
use Rattle.v_syntax.specs.declared.token.Token.{Token}
use Rattle.v_syntax.specs.declared.statement.StatementForm.{StatementForm}
use Rattle.v_syntax.specs.declared.statement.StatementForm.TheVariants as form
use Rattle.v_syntax.specs.declared.statement.StatementPlace.{StatementPlace}
use Rattle.v_syntax.specs.declared.statement.StatementPlace.TheVariants.{InAlways, InInitial, WholeInitial}
use Rattle.v_syntax.specs.Phrases.{Phrase}
use Rattle.v_syntax.specs.Phrases as phrase
use Rattle.v_syntax.specs.StatementTrees.{StatementTree}
use Rattle.v_syntax.specs.Statements.{inside, statement}
use Rattle.v_syntax.specs.Statements as rule
use Rattle.v_expression.specs.Phrase.Readers.{Reader, is_some}
use Rattle.v_expression.specs.Phrase.Readers as read
use Rattle.v_expression.specs.Phrase.Kinds.{Kind, kind_at, any_kind}
use Rattle.v_expression.proofs.PhraseLemmas.Laws.{Goes, Spells, Laws, Ready}
use Rattle.v_expression.proofs.PhraseLemmas.OneOf.{Fits, ready_fits, one_spells, one_laws}
use Rattle.v_expression.proofs.PhraseLemmas.Change.{reread, rewhole, raise, raise_spells}
use Rattle.v_expression.proofs.PhraseLemmas.Levels.{down_ready}
use Rattle.v_expression.proofs.PhraseLemmas.Never.{never_spells, never_deep}
use Rattle.v_expression.proofs.PhraseLemmas.Branches.{Ends, ended, plain_laws, no_else}
use Rattle.v_statement.specs.Firsts.{form_of}
use Rattle.v_statement.specs.Reading.{assignment_of, condition_of, conditional_of, case_head_of, case_of, for_head_of, for_of, statement_of_form, lower}
use Rattle.v_statement.proofs.Rules.{form_at, of_statement, form_told}
use Rattle.v_statement.proofs.FormLaws.{is_form_only, is_form_self, is_form, of_form, no_task, no_delay, task_by, delay_by, form_by, form_spells, form_laws}
use Rattle.v_statement.proofs.Opens.{form_opens, statement_opens}

block_missing : (end : ℕ) (p : StatementPlace) (m : ℕ) (s : Phrase Token StatementTree) → (rule.block_at end p m s).missing
block_missing end InAlways m s = ((((tt, tt), tt), tt), tt)
block_missing end InInitial m s = ((((tt, tt), tt), tt), tt)
block_missing end WholeInitial m s = (((((tt, tt), tt), tt), tt), tt)

task_ready : (end n : ℕ) (p : StatementPlace) → Ready n (λ m. ended (rule.task_at end p m)) (of_form p form.TaskEnable) (λ m. task_by end p m)
task_ready end n InAlways = record { ready = inr (λ here h. absurd (no_task (kind_at here) h)) }
task_ready end n InInitial = record { ready = inl (((tt, tt), tt), tt) }
task_ready end n WholeInitial = record { ready = inl (((tt, tt), tt), tt) }

delay_ready : (end n : ℕ) (p : StatementPlace) → Ready n (λ m. ended (rule.delay_at end p)) (of_form p form.Delay) (λ m. delay_by end p)
delay_ready end n InAlways = record { ready = inr (λ here h. absurd (no_delay InAlways refl (kind_at here) h)) }
delay_ready end n InInitial = record { ready = inr (λ here h. absurd (no_delay InInitial refl (kind_at here) h)) }
delay_ready end n WholeInitial = record { ready = inl ((((tt, tt), tt), tt), tt) }

-- what the two readers of a form give where the form is found
found_form : (p : StatementPlace) (k : Kind) (i : StatementForm) → form_at p k ≡ Some i → of_form p i k ≡ true
found_form p k i h = ap (is_form i) h ∙ is_form_self i

by_form : (end : ℕ) (p : StatementPlace) (m : ℕ) (s : Reader StatementTree) (here : List Token) (i : StatementForm) → of_form p i (kind_at here) ≡ true → form_by end p m s i here ≡ statement_of_form end p m s i here
by_form end InAlways m s here form.TaskEnable h = absurd (no_task (kind_at here) h)
by_form end InAlways m s here form.Delay h = absurd (no_delay InAlways refl (kind_at here) h)
by_form end InInitial m s here form.Delay h = absurd (no_delay InInitial refl (kind_at here) h)
by_form end InInitial m s here form.TaskEnable h = refl
by_form end WholeInitial m s here form.TaskEnable h = refl
by_form end WholeInitial m s here form.Delay h = refl
by_form end p m s here form.Null h = refl
by_form end p m s here form.Block h = refl
by_form end p m s here form.Assignment h = refl
by_form end p m s here form.If h = refl
by_form end p m s here form.Case h = refl
by_form end p m s here form.For h = refl

same_form : (end : ℕ) (p : StatementPlace) (m : ℕ) (s : Reader StatementTree) (here : List Token) (o : Option StatementForm) → form_of p here ≡ o → read.one_by (λ i. form_by end p m s i) here o ≡ read.one_by (λ i. statement_of_form end p m s i) here o
same_form end p m s here (Some i) h = by_form end p m s here i (found_form p (kind_at here) i (sym (form_told p here) ∙ h))
same_form end p m s here None h = refl

module _ (end : ℕ) where
  abbrev St : StatementPlace → ℕ → Phrase Token StatementTree
  St p m = statement end m p

  abbrev Rd : StatementPlace → ℕ → Reader StatementTree
  Rd p m = lower end m p

  cut : (p : StatementPlace) → (St p 0).missing → ⊥
  unfolding statement
  cut p k = k

  able : (p : StatementPlace) (m : ℕ) → (St p (suc m)).missing
  unfolding statement
  able p m = (form.Null, (tt, tt))

  deep : (p : StatementPlace) (here : List Token) → Rd p zero here ≡ read.down zero (λ r ts. Rd p r ts) here
  unfolding lower
  deep p here = refl

  statement_ready : (n : ℕ) (p : StatementPlace) → Ready n (St p) (of_statement p) (Rd p)
  statement_ready n p = down_ready n (St p) (of_statement p) (Rd p) (deep p) (able p) (statement_opens end p)

  -- ---- one level up

  module _ (n : ℕ) (p : StatementPlace) (q : Spells n (St (inside p)) (of_statement (inside p)) false) (el : Laws n (λ m. ended (St (inside p) m)) (of_statement (inside p)) false any_kind (Rd (inside p))) where
    abbrev F : StatementForm → ℕ → Phrase Token StatementTree
    F i m = rule.statement_of_form end p m (St (inside p) m) i

    abbrev R : StatementForm → ℕ → Reader StatementTree
    R i m = form_by end p m (Rd (inside p) m) i

    form_wide : (i : StatementForm) (k : Kind) → of_form p i k ≡ true → of_statement p k ≡ true
    form_wide i k h = ap is_some (is_form_only i (form_at p k) h)

    up_spells : Spells (suc n) (St p) (of_statement p) false
    unfolding statement
    up_spells = raise_spells (one_spells n F (of_form p) (of_statement p) form_wide (form_spells end n p el q (statement_ready n (inside p)) (cut (inside p)) (able (inside p))))

    goes : (i : StatementForm) (here : List Token) → of_form p i (kind_at here) ≡ true → Goes 0 (λ m. ended (F i m)) here (length here)
    goes i here h = let (us, f, l) = form_opens end p i here h in (2, omega arith, us, f, l)

    form_ready : (i : StatementForm) → Ready n (λ m. ended (F i m)) (of_form p i) (R i)
    unfolding assignment_of condition_of conditional_of case_head_of case_of for_head_of for_of
    form_ready form.Null = record { ready = inl (tt, tt) }
    form_ready form.Block = record { ready = inl (block_missing end p n (St (inside p) n)) }
    form_ready form.Assignment = down_ready n (λ m. ended (F form.Assignment m)) (of_form p form.Assignment) (R form.Assignment) (λ here. refl) (λ m. ((((tt, omega arith), (false, (tt, tt))), omega arith), tt)) (goes form.Assignment)
    form_ready form.If = down_ready n (λ m. ended (F form.If m)) (of_form p form.If) (R form.If) (λ here. refl) (λ m. ((((tt, tt), omega arith), tt), able (inside p) m)) (goes form.If)
    form_ready form.Case = down_ready n (λ m. ended (F form.Case m)) (of_form p form.Case) (R form.Case) (λ here. refl)
        (λ m. ((((((((tt, tt), tt), omega arith), tt)), ((false, (((tt, (omega arith, tt)), tt), able (inside p) m)), tt))), tt)) (goes form.Case)
    form_ready form.For = down_ready n (λ m. ended (F form.For m)) (of_form p form.For) (R form.For) (λ here. refl)
        (λ m. ((((tt, tt), tt), (((((((tt, tt), (((tt, ((tt, tt), tt)), tt), omega arith)), tt), omega arith), tt), (((tt, ((tt, tt), tt)), tt), omega arith)), tt)), able (inside p) m)) (goes form.For)
    form_ready form.TaskEnable = task_ready end n p
    form_ready form.Delay = delay_ready end n p

    fits : (i : StatementForm) (here : List Token) → form_at p (kind_at here) ≡ Some i → (phrase.one_of (λ i. ended (F i n))).missing → Fits n (λ m. ended (F i m)) (R i) here
    fits i here h k = ready_fits (form_ready i) here (ap (is_form i) h ∙ is_form_self i)

    to_end : (m : ℕ) (x : StatementTree) (here rest : List Token) → (phrase.one_of (λ i. ended (F i m))).whole x here rest → (phrase.one_of (λ i. F i m)).whole x here rest × Ends x rest
    to_end m x here rest (i, (w, o)) = ((i, w), o)

    from_end : (m : ℕ) (x : StatementTree) (here rest : List Token) → (phrase.one_of (λ i. F i m)).whole x here rest × Ends x rest → (phrase.one_of (λ i. ended (F i m))).whole x here rest
    from_end m x here rest ((i, w), o) = (i, (w, o))

    formed : Laws n (λ m. ended (phrase.one_of (λ i. F i m))) (of_statement p) false any_kind (λ m. read.one_of (form_of p) (λ i. R i m))
    formed = rewhole (one_laws n (λ i m. ended (F i m)) (of_form p) any_kind R (form_of p) (form_at p) (form_told p) (of_statement p) (λ i k h. is_form_only i (form_at p k) h) form_wide
        (form_laws end n p el q (statement_ready n (inside p)) (cut (inside p)) (able (inside p))) fits) (λ m x here rest. (phrase.one_of (λ i. F i m)).whole x here rest × Ends x rest) to_end from_end

    read_same : (m : ℕ) (here : List Token) → read.one_of (form_of p) (λ i. R i m) here ≡ Rd p (suc m) here
    unfolding lower
    read_same m here = same_form end p m (Rd (inside p) m) here (form_of p here) refl

    up_laws : Laws (suc n) (λ m. ended (St p m)) (of_statement p) false any_kind (Rd p)
    unfolding statement
    up_laws = raise (reread formed (λ m. Rd p (suc m)) read_same)

  -- ---- all heights

  abbrev Both : ℕ → StatementPlace → Type 0
  Both n p = Spells n (St p) (of_statement p) false × Laws n (λ m. ended (St p m)) (of_statement p) false any_kind (Rd p)

  none : (p : StatementPlace) → Both 0 p
  unfolding statement lower
  none p = (
    never_spells 0 (St p) (of_statement p) false (λ x here rest w. w) (λ here rest f. f) (λ k. k),
    never_deep 0 (λ m. ended (St p m)) (of_statement p) any_kind false (Rd p) (λ here. refl) (λ x here rest w. w.0) (λ here rest f. f) (λ k. k),
  )

  both : (n : ℕ) (p : StatementPlace) → Both n p
  both zero p = none p
  both (suc n) p = let b = both n (inside p) in (up_spells n p b.0 b.1, up_laws n p b.0 b.1)

  -- a statement before no `else`
  pub statement_laws : (n : ℕ) (p : StatementPlace) → Laws n (λ m. statement end m p) (of_statement p) false no_else (λ m. lower end m p)
  statement_laws n p = let b = both n p in plain_laws b.0 b.1

  pub ended_laws : (n : ℕ) (p : StatementPlace) → Laws n (λ m. ended (statement end m p)) (of_statement p) false any_kind (λ m. lower end m p)
  ended_laws n p = (both n p).1

  pub statement_missing : (n : ℕ) (p : StatementPlace) → (statement end (suc n) p).missing
  statement_missing n p = able p n
