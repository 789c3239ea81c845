-- Expressions and targets as phrases.
use Rattle.std.proofs.Common.{◌≡◌, ℕ, ◌<◌, true, false, List, [], ◌∷◌, length, refl, arith, ◌⊎◌, inl, inr, eqb-true}
use Rattle.std.specs.Prelude.{nat_eq, nat_lt}
use Rattle.std.proofs.lemmas.Bool.{ltb-true}
use Rattle.v_syntax.specs.declared.token.Token.{Token}
use Rattle.v_syntax.specs.declared.token.Token.TheVariants as token
use Rattle.v_syntax.specs.Statements.{expression, target}
use Rattle.v_expression.specs.Follows.{follow_mark, follow}
use Rattle.v_expression.specs.Starts.{mark_begins_expression, starts_expression, mark_begins_target, starts_target}
use Rattle.v_expression.specs.Reading.{expression_of, target_of}
use Rattle.v_expression.proofs.Basics.{height_positive, spans_shrink, target_height_positive, target_shrinks}
use Rattle.v_expression.proofs.Starts.{spans_start, begins_start, target_start, target_begins_start, expression_opens, target_opens}
use Rattle.v_expression.proofs.Laws.{expression_laws, target_laws}
use Rattle.v_expression.specs.Phrase.Readers.{down}
use Rattle.v_expression.specs.Phrase.Kinds.{AtEnd, AtName, AtKeyword, AtReserved, AtTask, AtNumber, AtText, AtMark, kind_at, Kinds, Tells}
use Rattle.v_expression.proofs.PhraseLemmas.Laws.{Goes, Starts, Laws, Ready}
use Rattle.v_expression.proofs.Levels.{reader_laws}
use Rattle.v_expression.proofs.PhraseLemmas.Levels.{down_ready}

-- with what an expression begins, and what doesn't go on with one
abbrev pub of_expression : Kinds
of_expression AtName = true
of_expression AtNumber = true
of_expression (AtMark m) = mark_begins_expression m
of_expression AtEnd = false
of_expression (AtKeyword w) = false
of_expression AtReserved = false
of_expression AtTask = false
of_expression AtText = false

abbrev pub ends_expression : Kinds
ends_expression (AtMark m) = nat_eq (follow_mark m) 0
ends_expression AtName = true
ends_expression AtNumber = true
ends_expression AtEnd = true
ends_expression (AtKeyword w) = true
ends_expression AtReserved = true
ends_expression AtTask = true
ends_expression AtText = true

abbrev pub of_target : Kinds
of_target AtName = true
of_target (AtMark m) = mark_begins_target m
of_target AtNumber = false
of_target AtEnd = false
of_target (AtKeyword w) = false
of_target AtReserved = false
of_target AtTask = false
of_target AtText = false

abbrev pub ends_target : Kinds
ends_target (AtMark m) = nat_lt (follow_mark m) 13
ends_target AtName = true
ends_target AtNumber = true
ends_target AtEnd = true
ends_target (AtKeyword w) = true
ends_target AtReserved = true
ends_target AtTask = true
ends_target AtText = true

pub tells_expression : Tells starts_expression of_expression
tells_expression [] = refl
tells_expression (token.Mark m ∷ ts) = refl
tells_expression (token.Name n ∷ ts) = refl
tells_expression (token.Keyword w ∷ ts) = refl
tells_expression (token.Reserved w ∷ ts) = refl
tells_expression (token.SystemTask t ∷ ts) = refl
tells_expression (token.Number ds ∷ ts) = refl
tells_expression (token.Text t ∷ ts) = refl

pub tells_target : Tells starts_target of_target
tells_target [] = refl
tells_target (token.Mark m ∷ ts) = refl
tells_target (token.Name n ∷ ts) = refl
tells_target (token.Keyword w ∷ ts) = refl
tells_target (token.Reserved w ∷ ts) = refl
tells_target (token.SystemTask t ∷ ts) = refl
tells_target (token.Number ds ∷ ts) = refl
tells_target (token.Text t ∷ ts) = refl

expression_ends : (ts : List Token) → ends_expression (kind_at ts) ≡ true → follow ts ≡ 0
expression_ends [] h = refl
expression_ends (token.Mark m ∷ ts) h = eqb-true (follow_mark m) 0 h
expression_ends (token.Name n ∷ ts) h = refl
expression_ends (token.Keyword w ∷ ts) h = refl
expression_ends (token.Reserved w ∷ ts) h = refl
expression_ends (token.SystemTask t ∷ ts) h = refl
expression_ends (token.Number ds ∷ ts) h = refl
expression_ends (token.Text t ∷ ts) h = refl

target_ends : (ts : List Token) → ends_target (kind_at ts) ≡ true → follow ts < 13
target_ends [] h = omega arith
target_ends (token.Mark m ∷ ts) h = ltb-true (follow_mark m) 13 h
target_ends (token.Name n ∷ ts) h = omega arith
target_ends (token.Keyword w ∷ ts) h = omega arith
target_ends (token.Reserved w ∷ ts) h = omega arith
target_ends (token.SystemTask t ∷ ts) h = omega arith
target_ends (token.Number ds ∷ ts) h = omega arith
target_ends (token.Text t ∷ ts) h = omega arith

kind_told : (test : List Token → _) (is : Kinds) → Tells test is → (here rest : List Token) → (here ≡ rest) ⊎ (test here ≡ true) → Starts is here rest
kind_told test is tells here rest (inl e) = inl e
kind_told test is tells here rest (inr h) = inr (rw (← tells here) h)

module _ (end : ℕ) where
  pub expression_phrase_laws : (n : ℕ) → Laws n (λ m. expression end m) of_expression false ends_expression (λ m. down m (expression_of end))
  expression_phrase_laws n = reader_laws (expression_laws end) of_expression ends_expression height_positive
      (λ x here rest w. rw (← tells_expression here) (spans_start x end here rest w)) (λ x here rest w. spans_shrink x end here rest w)
      (λ m here rest f. kind_told starts_expression of_expression tells_expression here rest (begins_start end m 1 here rest f)) expression_ends n

  expression_goes : (here : List Token) → of_expression (kind_at here) ≡ true → Goes 0 (λ m. expression end m) here (length here)
  expression_goes [] h = absurd (let e : false ≡ true = h in cc)
  expression_goes (t ∷ ts) h = (2, omega arith, ts, expression_opens end 2 t ts (rw (tells_expression (t ∷ ts)) h) (omega arith), omega arith)

  pub expression_ready : (n : ℕ) → Ready n (λ m. expression end m) of_expression (λ m. down m (expression_of end))
  expression_ready n = down_ready n (λ m. expression end m) of_expression (λ m. down m (expression_of end)) (λ here. refl) (λ m. omega arith) expression_goes

  pub target_phrase_laws : (n : ℕ) → Laws n (λ m. target end m) of_target false ends_target (λ m. down m (target_of end))
  target_phrase_laws n = reader_laws (target_laws end) of_target ends_target target_height_positive
      (λ x here rest w. rw (← tells_target here) (target_start x end here rest w)) (λ x here rest w. target_shrinks x end here rest w)
      (λ m here rest f. kind_told starts_target of_target tells_target here rest (target_begins_start end m here rest f)) target_ends n

  pub target_front : (t : Token) (us : List Token) → of_target (kind_at (t ∷ us)) ≡ true → (target end 2).front (t ∷ us) us
  target_front t us h = target_opens end 2 t us (rw (tells_target (t ∷ us)) h) (omega arith)
