-- A token with which a statement begins is a partial statement of some height.
use Rattle.std.proofs.Common.{◌≡◌, ℕ, suc, ◌<◌, true, false, List, [], ◌∷◌, length, Option, Some, None, refl, ap, ◌∙◌, arith, inl, inr}
use Rattle.v_syntax.specs.declared.token.Token.{Token}
use Rattle.v_syntax.specs.declared.token.Token.TheVariants as token
use Rattle.v_syntax.specs.declared.mark.Mark.TheVariants as mark
use Rattle.v_syntax.specs.declared.word.Keyword.TheVariants as word
use Rattle.v_syntax.specs.declared.statement.StatementForm.{StatementForm}
use Rattle.v_syntax.specs.declared.statement.StatementForm.TheVariants as form
use Rattle.v_syntax.specs.declared.statement.StatementPlace.{StatementPlace}
use Rattle.v_syntax.specs.declared.statement.StatementPlace.TheVariants.{InAlways, InInitial, WholeInitial}
use Rattle.v_syntax.specs.StatementTrees.{Null, Delay}
use Rattle.v_syntax.specs.TokenMeanings.{task_of, case_kind}
use Rattle.v_syntax.specs.Statements.{block_tree, delayed_tree, assignment_tree, case_tree, task_tree, numbered, inside, statement}
use Rattle.v_syntax.specs.Statements as rule
use Rattle.v_expression.specs.Phrase.Readers.{is_some}
use Rattle.v_expression.specs.Phrase.Kinds.{Kind, kind_at, a_mark, a_word, a_task, Within}
use Rattle.v_expression.proofs.PhraseLemmas.KindLaws.{within}
use Rattle.v_expression.proofs.PhraseLemmas.Laws.{Goes}
use Rattle.v_expression.proofs.PhraseLemmas.Tokens.{word_here, mark_here, meant_here}
use Rattle.v_expression.proofs.PhraseLemmas.Meanings.{of_case_kind, case_tells, task_tells}
use Rattle.v_expression.proofs.Phrases.{of_target, target_front}
use Rattle.v_statement.proofs.Rules.{form_at, of_statement}
use Rattle.v_statement.proofs.FormLaws.{is_form, is_form_self, of_form, no_task, no_delay}

-- a statement of the form, with statements of height 2 in it, of which the first token is kept
abbrev pub Opening : ℕ → StatementPlace → StatementForm → List Token → Type 0
Opening end p i here = (us : List Token) × (rule.statement_of_form end p 2 (statement end 2 (inside p)) i).front here us × (length us < length here)

less : (t : Token) (here us : List Token) → here ≡ t ∷ us → length us < length here
less t here us e = let l : length here ≡ suc (length us) = ap length e in omega arith

able : (end m : ℕ) (p : StatementPlace) → (statement end (suc m) p).missing
unfolding statement
able end m p = (form.Null, (tt, tt))

module _ (end : ℕ) where
  null_opens : (p : StatementPlace) (here : List Token) → a_mark mark.Semicolon (kind_at here) ≡ true → Opening end p form.Null here
  null_opens p here h = let (us, e) = mark_here mark.Semicolon here h in (us, inr (Null, here, (refl, refl), inr e), less _ here us e)

  begins : (p : StatementPlace) (here us : List Token) → here ≡ token.Keyword word.Begin ∷ us → (rule.block_at end p 2 (statement end 2 (inside p))).front here us
  begins InAlways here us e = inl (inl (inl (inr (block_tree, here, (refl, refl), inr e), tt), tt), tt)
  begins InInitial here us e = inl (inl (inl (inr (block_tree, here, (refl, refl), inr e), tt), tt), tt)
  begins WholeInitial here us e = inl (inl (inl (inl (inr (delayed_tree, here, (refl, refl), inr e), tt), tt), tt), tt)

  block_opens : (p : StatementPlace) (here : List Token) → a_word word.Begin (kind_at here) ≡ true → Opening end p form.Block here
  block_opens p here h = let (us, e) = word_here word.Begin here h in (us, begins p here us e, less _ here us e)

  assignment_opens : (p : StatementPlace) (here : List Token) → of_target (kind_at here) ≡ true → Opening end p form.Assignment here
  assignment_opens p [] h = absurd (let e : false ≡ true = h in cc)
  assignment_opens p (t ∷ us) h = (us, inl (inl (inl (inr (assignment_tree, t ∷ us, (refl, refl), target_front end t us h), (false, (tt, tt))), omega arith), tt), less t (t ∷ us) us refl)

  if_opens : (p : StatementPlace) (here : List Token) → a_word word.If (kind_at here) ≡ true → Opening end p form.If here
  if_opens p here h = let (us, e) = word_here word.If here h in (us, inl (inl (inl (inl (inr e, tt), omega arith), tt), able end 1 (inside p)), less _ here us e)

  case_opens : (p : StatementPlace) (here : List Token) → of_case_kind (kind_at here) ≡ true → Opening end p form.Case here
  case_opens p here h =
      let (t, us, k, e, m) = meant_here case_kind of_case_kind case_tells refl here h in
      (us, inl (inl (inl (inl (inl (inr (case_tree, here, (refl, refl), inr (t, k, e, m)), tt), omega arith), tt), ((false, (((tt, (omega arith, tt)), tt), able end 1 (inside p))), tt)), tt), less t here us e)

  for_opens : (p : StatementPlace) (here : List Token) → a_word word.For (kind_at here) ≡ true → Opening end p form.For here
  for_opens p here h =
      let (us, e) = word_here word.For here h in
      (us, inl (inl (inr (numbered _, here, (numbered, _, here, (refl, refl), (refl, refl), refl), inr e), (((((((tt, tt), (((tt, ((tt, tt), tt)), tt), omega arith)), tt), omega arith), tt), (((tt, ((tt, tt), tt)), tt), omega arith)), tt)), able end 1 (inside p)), less _ here us e)

  task_fronts : (p : StatementPlace) (here : List Token) → of_form p form.TaskEnable (kind_at here) ≡ true → a_task (kind_at here) ≡ true → Opening end p form.TaskEnable here
  task_fronts InAlways here i h = absurd (no_task (kind_at here) i)
  task_fronts InInitial here i h = let (t, us, k, e, m) = meant_here task_of a_task task_tells refl here h in (us, inl (inl (inr (task_tree, here, (refl, refl), inr (t, k, e, m)), tt), tt), less t here us e)
  task_fronts WholeInitial here i h = let (t, us, k, e, m) = meant_here task_of a_task task_tells refl here h in (us, inl (inl (inr (task_tree, here, (refl, refl), inr (t, k, e, m)), tt), tt), less t here us e)

  delay_fronts : (p : StatementPlace) (here : List Token) → of_form p form.Delay (kind_at here) ≡ true → a_mark mark.Hash (kind_at here) ≡ true → Opening end p form.Delay here
  delay_fronts InAlways here i h = absurd (no_delay InAlways refl (kind_at here) i)
  delay_fronts InInitial here i h = absurd (no_delay InInitial refl (kind_at here) i)
  delay_fronts WholeInitial here i h = let (us, e) = mark_here mark.Hash here h in (us, inl (inl (inl (inr (Delay, here, (refl, refl), inr e), tt), tt), tt), less _ here us e)

-- ---- the first tokens of the forms

null_of : (p : StatementPlace) → Within (of_form p form.Null) (a_mark mark.Semicolon)
null_of InAlways = refl
null_of InInitial = refl
null_of WholeInitial = refl

block_of : (p : StatementPlace) → Within (of_form p form.Block) (a_word word.Begin)
block_of InAlways = refl
block_of InInitial = refl
block_of WholeInitial = refl

assignment_of : (p : StatementPlace) → Within (of_form p form.Assignment) of_target
assignment_of InAlways = refl
assignment_of InInitial = refl
assignment_of WholeInitial = refl

if_of : (p : StatementPlace) → Within (of_form p form.If) (a_word word.If)
if_of InAlways = refl
if_of InInitial = refl
if_of WholeInitial = refl

case_of : (p : StatementPlace) → Within (of_form p form.Case) of_case_kind
case_of InAlways = refl
case_of InInitial = refl
case_of WholeInitial = refl

for_of : (p : StatementPlace) → Within (of_form p form.For) (a_word word.For)
for_of InAlways = refl
for_of InInitial = refl
for_of WholeInitial = refl

task_at_of : (p : StatementPlace) → Within (of_form p form.TaskEnable) a_task
task_at_of InAlways = refl
task_at_of InInitial = refl
task_at_of WholeInitial = refl

delay_at_of : (p : StatementPlace) → Within (of_form p form.Delay) (a_mark mark.Hash)
delay_at_of InAlways = refl
delay_at_of InInitial = refl
delay_at_of WholeInitial = refl

pub form_opens : (end : ℕ) (p : StatementPlace) (i : StatementForm) (here : List Token) → of_form p i (kind_at here) ≡ true → Opening end p i here
form_opens end p form.Null here h = null_opens end p here (within (of_form p form.Null) (a_mark mark.Semicolon) (null_of p) (kind_at here) h)
form_opens end p form.Block here h = block_opens end p here (within (of_form p form.Block) (a_word word.Begin) (block_of p) (kind_at here) h)
form_opens end p form.Assignment here h = assignment_opens end p here (within (of_form p form.Assignment) of_target (assignment_of p) (kind_at here) h)
form_opens end p form.If here h = if_opens end p here (within (of_form p form.If) (a_word word.If) (if_of p) (kind_at here) h)
form_opens end p form.Case here h = case_opens end p here (within (of_form p form.Case) of_case_kind (case_of p) (kind_at here) h)
form_opens end p form.For here h = for_opens end p here (within (of_form p form.For) (a_word word.For) (for_of p) (kind_at here) h)
form_opens end p form.TaskEnable here h = task_fronts end p here h (within (of_form p form.TaskEnable) a_task (task_at_of p) (kind_at here) h)
form_opens end p form.Delay here h = delay_fronts end p here h (within (of_form p form.Delay) (a_mark mark.Hash) (delay_at_of p) (kind_at here) h)

formed : (p : StatementPlace) (k : Kind) (o : Option StatementForm) → form_at p k ≡ o → is_some o ≡ true → (i : StatementForm) × (of_form p i k ≡ true)
formed p k (Some i) e h = (i, ap (is_form i) e ∙ is_form_self i)
formed p k None e h = absurd (let f : false ≡ true = h in cc)

-- the form of a statement that begins there
pub form_there : (p : StatementPlace) (k : Kind) → of_statement p k ≡ true → (i : StatementForm) × (of_form p i k ≡ true)
form_there p k h = formed p k (form_at p k) refl h

pub statement_opens : (end : ℕ) (p : StatementPlace) (here : List Token) → of_statement p (kind_at here) ≡ true → Goes 0 (λ m. statement end m p) here (length here)
unfolding statement
statement_opens end p here h = let (i, f) = form_there p (kind_at here) h in let (us, g, l) = form_opens end p i here f in (3, omega arith, us, (i, g), l)
