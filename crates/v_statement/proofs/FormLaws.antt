-- The laws of a statement of each form.
use Rattle.std.proofs.Common.{◌≡◌, ℕ, suc, Bool, true, false, List, Option, Some, refl, ap, subst, ◌∙◌}
use Rattle.v_syntax.specs.declared.token.Token.{Token}
use Rattle.v_syntax.specs.declared.mark.Mark.TheVariants as mark
use Rattle.v_syntax.specs.declared.word.Keyword.TheVariants as word
use Rattle.v_syntax.specs.declared.statement.StatementForm.{StatementForm}
use Rattle.v_syntax.specs.declared.statement.StatementForm.TheVariants as form
use Rattle.v_syntax.specs.declared.statement.StatementPlace.{StatementPlace}
use Rattle.v_syntax.specs.declared.statement.StatementPlace.TheVariants.{InAlways, InInitial, WholeInitial}
use Rattle.v_syntax.specs.Phrases.{Phrase, nothing, ◌◃◌}
use Rattle.v_syntax.specs.StatementTrees.{StatementTree, Null, Delay}
use Rattle.v_syntax.specs.Statements.{sign, IsClosed, block_tree, delayed_tree, assignment_tree, case_tree, task_tree, delay, block, delayed_block, assignment, case_statement, task_enable, inside}
use Rattle.v_syntax.specs.Statements as rule
use Rattle.v_expression.specs.Phrase.Stops.{syntax_at}
use Rattle.v_expression.specs.Phrase.Readers.{Reader, maybe, starts_mark, word_of}
use Rattle.v_expression.specs.Phrase.Kinds.{Kind, Kinds, no_kind, any_kind, a_mark, a_word, Within}
use Rattle.v_expression.proofs.PhraseLemmas.KindLaws.{within}
use Rattle.v_expression.proofs.PhraseLemmas.Laws.{Spells, Laws, Ready}
use Rattle.v_expression.proofs.PhraseLemmas.Tokens.{nothing_laws, mark_laws}
use Rattle.v_expression.proofs.PhraseLemmas.Meanings.{of_case_kind}
use Rattle.v_expression.proofs.PhraseLemmas.Both.{keep_laws}
use Rattle.v_expression.proofs.PhraseLemmas.Change.{reread, widen, widen_spells}
use Rattle.v_expression.proofs.PhraseLemmas.Never.{never_laws}
use Rattle.v_expression.proofs.PhraseLemmas.Branches.{ended, closed_laws}
use Rattle.v_expression.proofs.Phrases.{of_target}
use Rattle.v_statement.specs.Reading.{label_of, maybe_label_of, block_head_of, statements_of, delay_below_of, maybe_delay_of, last_delay_of, block_end_of, block_of, null_of}
use Rattle.v_statement.specs.Reading as read
use Rattle.v_statement.proofs.Parts.{assignment_laws, task_enable_laws, delay_laws}
use Rattle.v_statement.proofs.Steps.{plain_steps, delayed_steps}
use Rattle.v_statement.proofs.Rules.{form_at, of_statement, block_laws, delayed_block_laws, conditional_spells, conditional_laws, case_laws, for_spells, for_laws}

-- ---- forms

abbrev pub is_form : StatementForm → Option StatementForm → Bool
is_form form.Null (Some form.Null) = true
is_form form.Block (Some form.Block) = true
is_form form.Assignment (Some form.Assignment) = true
is_form form.If (Some form.If) = true
is_form form.Case (Some form.Case) = true
is_form form.For (Some form.For) = true
is_form form.TaskEnable (Some form.TaskEnable) = true
is_form form.Delay (Some form.Delay) = true
is_form _ _ = false

pub is_form_only : (i : StatementForm) (o : Option StatementForm) → is_form i o ≡ true → o ≡ Some i
is_form_only form.Null (Some form.Null) h = refl
is_form_only form.Block (Some form.Block) h = refl
is_form_only form.Assignment (Some form.Assignment) h = refl
is_form_only form.If (Some form.If) h = refl
is_form_only form.Case (Some form.Case) h = refl
is_form_only form.For (Some form.For) h = refl
is_form_only form.TaskEnable (Some form.TaskEnable) h = refl
is_form_only form.Delay (Some form.Delay) h = refl
is_form_only _ _ h = absurd (let e : false ≡ true = h in cc)

pub is_form_self : (i : StatementForm) → is_form i (Some i) ≡ true
is_form_self form.Null = refl
is_form_self _ = refl

abbrev pub of_form : StatementPlace → StatementForm → Kinds
of_form p i k = is_form i (form_at p k)

null_in : (p : StatementPlace) → Within (a_mark mark.Semicolon) (of_form p form.Null)
null_in InAlways = refl
null_in InInitial = refl
null_in WholeInitial = refl

block_in : (p : StatementPlace) → Within (a_word word.Begin) (of_form p form.Block)
block_in InAlways = refl
block_in InInitial = refl
block_in WholeInitial = refl

assignment_in : (p : StatementPlace) → Within of_target (of_form p form.Assignment)
assignment_in InAlways = refl
assignment_in InInitial = refl
assignment_in WholeInitial = refl

if_in : (p : StatementPlace) → Within (a_word word.If) (of_form p form.If)
if_in InAlways = refl
if_in InInitial = refl
if_in WholeInitial = refl

case_in : (p : StatementPlace) → Within of_case_kind (of_form p form.Case)
case_in InAlways = refl
case_in InInitial = refl
case_in WholeInitial = refl

for_in : (p : StatementPlace) → Within (a_word word.For) (of_form p form.For)
for_in InAlways = refl
for_in InInitial = refl
for_in WholeInitial = refl

pub no_task : (k : Kind) → of_form InAlways form.TaskEnable k ≡ true → ⊥
no_task k h = let e : false ≡ true = within (of_form InAlways form.TaskEnable) no_kind refl k h in cc

pub no_delay : (p : StatementPlace) → Within (of_form p form.Delay) no_kind → (k : Kind) → of_form p form.Delay k ≡ true → ⊥
no_delay p n k h = let e : false ≡ true = within (of_form p form.Delay) no_kind n k h in cc

any_statement : (p : StatementPlace) → Within (of_statement p) any_kind
any_statement InAlways = refl
any_statement InInitial = refl
any_statement WholeInitial = refl

-- ---- statements that no `else` belongs to

null_closed : (x : StatementTree) (here rest : List Token) → (nothing Null ◃ sign mark.Semicolon).whole x here rest → IsClosed x
unfolding IsClosed
null_closed z here rest (x, u, mid, (e, g), h, f) = let q : Null ≡ z = e ∙ f in subst IsClosed q tt

delay_closed : (end : ℕ) (x : StatementTree) (here rest : List Token) → (delay end).whole x here rest → IsClosed x
unfolding IsClosed
delay_closed end z here rest (x4, u4, m4, (x3, ds, m3, (x2, at, m2, (x1, u1, m1, (e1, g1), h1, e2), h2, e3), h3, e4), h4, e5) = let q : Delay at ds ≡ z = ap (λ f. f at ds) (e1 ∙ e2) ∙ ap (λ f. f ds) e3 ∙ e4 ∙ e5 in subst IsClosed q tt

assignment_closed : (end m : ℕ) (x : StatementTree) (here rest : List Token) → (assignment end m).whole x here rest → IsClosed x
unfolding IsClosed
assignment_closed end m z here rest (x4, u4, m4, (x3, v, m3, (x2, k, m2, (x1, t, m1, (e1, g1), h1, e2), h2, e3), h3, e4), h4, e5) = let q : assignment_tree t k v ≡ z = cc in subst IsClosed q tt

task_closed : (end m : ℕ) (x : StatementTree) (here rest : List Token) → (task_enable end m).whole x here rest → IsClosed x
unfolding IsClosed
task_closed end m z here rest (x3, u3, m3, (x2, es, m2, (x1, t, m1, (e1, g1), h1, e2), h2, e3), h3, e4) = let q : task_tree t es ≡ z = cc in subst IsClosed q tt

case_closed : (end m : ℕ) (s : Phrase Token StatementTree) (x : StatementTree) (here rest : List Token) → (case_statement end m s).whole x here rest → IsClosed x
unfolding IsClosed
case_closed end m s z here rest (x6, u6, m6, (x5, cs, m5, (x4, u4, m4, (x3, v, m3, (x2, u2, m2, (x1, k, m1, (e1, g1), h1, e2), h2, e3), h3, e4), h4, e5), h5, e6), h6, e7) = let q : case_tree k v cs ≡ z = cc in subst IsClosed q tt

block_closed : (s : Phrase Token StatementTree) (x : StatementTree) (here rest : List Token) → (block s).whole x here rest → IsClosed x
unfolding IsClosed
block_closed s z here rest (x4, u4, m4, (x3, ss, m3, (x2, l, m2, (x1, u1, m1, (e1, g1), h1, e2), h2, e3), h3, e4), h4, e5) = let q : block_tree l ss ≡ z = cc in subst IsClosed q tt

delayed_closed : (end n : ℕ) (s : Phrase Token StatementTree) (x : StatementTree) (here rest : List Token) → (delayed_block end n s).whole x here rest → IsClosed x
unfolding IsClosed
delayed_closed end n s z here rest (x5, u5, m5, (x4, d, m4, (x3, ss, m3, (x2, l, m2, (x1, u1, m1, (e1, g1), h1, e2), h2, e3), h3, e4), h4, e5), h5, e6) = let q : delayed_tree l ss d ≡ z = cc in subst IsClosed q tt

-- ---- readers: where a form has no place it reads nothing

abbrev pub task_by : ℕ → StatementPlace → ℕ → Reader StatementTree
task_by end InAlways m ts = syntax_at ts
task_by end InInitial m ts = read.task_of_room end m ts
task_by end WholeInitial m ts = read.task_of_room end m ts

abbrev pub delay_by : ℕ → StatementPlace → Reader StatementTree
delay_by end InAlways ts = syntax_at ts
delay_by end InInitial ts = syntax_at ts
delay_by end WholeInitial ts = read.delay_of end ts

abbrev pub form_by : ℕ → StatementPlace → ℕ → Reader StatementTree → StatementForm → Reader StatementTree
form_by end p m s form.Null = null_of
form_by end p m s form.Block = block_of end m p s
form_by end p m s form.Assignment = read.assignment_of end m
form_by end p m s form.If = read.conditional_of end m s
form_by end p m s form.Case = read.case_of end m s
form_by end p m s form.For = read.for_of end m s
form_by end p m s form.TaskEnable = task_by end p m
form_by end p m s form.Delay = delay_by end p

-- ---- forms that differ by their place

block_form : (end n : ℕ) (p : StatementPlace) {S : ℕ → Phrase Token StatementTree} {s : ℕ → Reader StatementTree} → Laws n (λ m. ended (S m)) (of_statement (inside p)) false any_kind s → Spells n S (of_statement (inside p)) false
    → Ready n S (of_statement (inside p)) s → ((S 0).missing → ⊥) → ((m : ℕ) → (S (suc m)).missing) → Laws n (λ m. rule.block_at end p m (S m)) (of_form p form.Block) false any_kind (λ m. block_of end m p (s m))
unfolding maybe_label_of block_head_of maybe_delay_of last_delay_of block_end_of block_of
block_form end n InAlways {s = s} el q ready cut able =
    widen (reread (block_laws end n InAlways el q ready cut able refl) (λ m. block_of end m InAlways (s m)) (λ m here. plain_steps (word_of word.Begin) (maybe (starts_mark mark.Colon) label_of) (statements_of InAlways (s m)) (word_of word.End) here)) (of_form InAlways form.Block) refl
block_form end n InInitial {s = s} el q ready cut able =
    widen (reread (block_laws end n InInitial el q ready cut able refl) (λ m. block_of end m InInitial (s m)) (λ m here. plain_steps (word_of word.Begin) (maybe (starts_mark mark.Colon) label_of) (statements_of InInitial (s m)) (word_of word.End) here)) (of_form InInitial form.Block) refl
block_form end n WholeInitial {s = s} el q ready cut able =
    widen (reread (delayed_block_laws end n InInitial el q ready cut able refl refl) (λ m. block_of end m WholeInitial (s m))
    (λ m here. delayed_steps (word_of word.Begin) (maybe (starts_mark mark.Colon) label_of) (statements_of InInitial (s m)) (maybe (starts_mark mark.Hash) (delay_below_of end m)) (word_of word.End) here)) (of_form WholeInitial form.Block) refl

block_at_closed : (end : ℕ) (p : StatementPlace) (m : ℕ) (s : Phrase Token StatementTree) (x : StatementTree) (here rest : List Token) → (rule.block_at end p m s).whole x here rest → IsClosed x
block_at_closed end InAlways m s x here rest w = block_closed s x here rest w
block_at_closed end InInitial m s x here rest w = block_closed s x here rest w
block_at_closed end WholeInitial m s x here rest w = delayed_closed end m s x here rest w

task_form_laws : (end n : ℕ) (p : StatementPlace) → Laws n (λ m. rule.task_at end p m) (of_form p form.TaskEnable) false any_kind (λ m. task_by end p m)
task_form_laws end n InAlways = never_laws n (of_form InAlways form.TaskEnable) any_kind
task_form_laws end n InInitial = widen (task_enable_laws end n) (of_form InInitial form.TaskEnable) refl
task_form_laws end n WholeInitial = widen (task_enable_laws end n) (of_form WholeInitial form.TaskEnable) refl

task_at_closed : (end : ℕ) (p : StatementPlace) (m : ℕ) (x : StatementTree) (here rest : List Token) → (rule.task_at end p m).whole x here rest → IsClosed x
task_at_closed end InAlways m x here rest w = absurd w
task_at_closed end InInitial m x here rest w = task_closed end m x here rest w
task_at_closed end WholeInitial m x here rest w = task_closed end m x here rest w

delay_form_laws : (end n : ℕ) (p : StatementPlace) → Laws n (λ m. rule.delay_at end p) (of_form p form.Delay) false any_kind (λ m. delay_by end p)
delay_form_laws end n InAlways = never_laws n (of_form InAlways form.Delay) any_kind
delay_form_laws end n InInitial = never_laws n (of_form InInitial form.Delay) any_kind
delay_form_laws end n WholeInitial = widen (delay_laws end n) (of_form WholeInitial form.Delay) refl

delay_at_closed : (end : ℕ) (p : StatementPlace) (x : StatementTree) (here rest : List Token) → (rule.delay_at end p).whole x here rest → IsClosed x
delay_at_closed end InAlways x here rest w = absurd w
delay_at_closed end InInitial x here rest w = absurd w
delay_at_closed end WholeInitial x here rest w = delay_closed end x here rest w

-- ---- all forms

module _ (end n : ℕ) (p : StatementPlace) {S : ℕ → Phrase Token StatementTree} {s : ℕ → Reader StatementTree} (el : Laws n (λ m. ended (S m)) (of_statement (inside p)) false any_kind s) (q : Spells n S (of_statement (inside p)) false)
    (ready : Ready n S (of_statement (inside p)) s) (cut : (S 0).missing → ⊥) (able : (m : ℕ) → (S (suc m)).missing) where
  abbrev F : StatementForm → ℕ → Phrase Token StatementTree
  F i m = rule.statement_of_form end p m (S m) i

  abbrev R : StatementForm → ℕ → Reader StatementTree
  R i m = form_by end p m (s m) i

  null_laws : Laws n (λ m. F form.Null m) (of_form p form.Null) false any_kind (λ m. R form.Null m)
  unfolding null_of
  null_laws = widen (keep_laws n (nothing_laws Null n) (mark_laws mark.Semicolon n) refl) (of_form p form.Null) (null_in p)

  assigned : Laws n (λ m. F form.Assignment m) (of_form p form.Assignment) false any_kind (λ m. R form.Assignment m)
  assigned = widen (assignment_laws end n) (of_form p form.Assignment) (assignment_in p)

  cased : Laws n (λ m. F form.Case m) (of_form p form.Case) false any_kind (λ m. R form.Case m)
  cased = widen (case_laws end n (inside p) el q ready cut able (any_statement (inside p))) (of_form p form.Case) (case_in p)

  pub form_spells : (i : StatementForm) → Spells n (F i) (of_form p i) false
  form_spells form.Null = null_laws.spells
  form_spells form.Block = (block_form end n p el q ready cut able).spells
  form_spells form.Assignment = assigned.spells
  form_spells form.If = widen_spells (conditional_spells end n (inside p) el q ready cut able) (of_form p form.If) (if_in p)
  form_spells form.Case = cased.spells
  form_spells form.For = widen_spells (for_spells end n (inside p) el q ready cut able) (of_form p form.For) (for_in p)
  form_spells form.TaskEnable = (task_form_laws end n p).spells
  form_spells form.Delay = (delay_form_laws end n p).spells

  pub form_laws : (i : StatementForm) → Laws n (λ m. ended (F i m)) (of_form p i) false any_kind (R i)
  form_laws form.Null = closed_laws null_laws (λ m x here rest w. null_closed x here rest w)
  form_laws form.Block = closed_laws (block_form end n p el q ready cut able) (λ m x here rest w. block_at_closed end p m (S m) x here rest w)
  form_laws form.Assignment = closed_laws assigned (λ m x here rest w. assignment_closed end m x here rest w)
  form_laws form.If = widen (conditional_laws end n (inside p) el q ready cut able) (of_form p form.If) (if_in p)
  form_laws form.Case = closed_laws cased (λ m x here rest w. case_closed end m (S m) x here rest w)
  form_laws form.For = widen (for_laws end n (inside p) el q ready cut able) (of_form p form.For) (for_in p)
  form_laws form.TaskEnable = closed_laws (task_form_laws end n p) (λ m x here rest w. task_at_closed end p m x here rest w)
  form_laws form.Delay = closed_laws (delay_form_laws end n p) (λ m x here rest w. delay_at_closed end p x here rest w)
