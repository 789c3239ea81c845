-- What a caller of the reader of statements sees.
use Rattle.std.proofs.Common.{◌≡◌, ℕ, suc, ◌+◌, true, List, Result, refl, sym, subst, ◌∙◌, arith}
use Rattle.std.specs.Prelude.{IfOk, IfErr}
use Rattle.v_syntax.specs.declared.token.Token.{Token}
use Rattle.v_syntax.specs.declared.statement.StatementPlace.{StatementPlace}
use Rattle.v_syntax.specs.declared.word.Keyword.TheVariants as word
use Rattle.v_syntax.specs.StatementTrees.{StatementTree}
use Rattle.v_syntax.specs.Statements.{IsClosed, statement}
use Rattle.v_expression.specs.declared.phrase.read_error.ReadError.{ReadError}
use Rattle.v_expression.specs.Phrase.Stops.{Gives}
use Rattle.v_expression.specs.Phrase.Refusals.{IsRefusal, IsRead}
use Rattle.v_expression.specs.Phrase.Readers.{starts_word}
use Rattle.v_expression.proofs.PhraseLemmas.KindLaws.{tells_word}
use Rattle.v_expression.proofs.PhraseLemmas.Callers as laws
use Rattle.v_statement.specs.Reading.{lower, statement_of}
use Rattle.v_statement.proofs.StatementLaws.{statement_laws, ended_laws, statement_missing}

module _ (end room : ℕ) (p : StatementPlace) (here : List Token) {X : Type 0} (seen : X → StatementTree × List Token) (r : Result X ReadError) where
  is_lower : statement_of end room p here ≡ lower end (suc room) p here
  unfolding lower
  is_lower = refl

  given : Gives seen r (statement_of end room p here) → Gives seen r (lower end (suc room) p here)
  given g = subst (λ a. Gives seen r a) is_lower g

  one_more : suc room ≡ room + 1
  one_more = omega arith

  pub statement_found : Gives seen r (statement_of end room p here) → IfOk r (λ x. (statement end (room + 1) p).whole (seen x).0 here (seen x).1)
  statement_found g = subst (λ n. IfOk r (λ x. (statement end n p).whole (seen x).0 here (seen x).1)) one_more (laws.found (λ n. statement_laws end n p) (suc room) here seen r (given g))

  pub statement_refused : Gives seen r (statement_of end room p here) → IfErr r (λ e. IsRefusal (λ n rest. (statement end n p).front here rest) (room + 1) e)
  statement_refused g = subst (λ n. IfErr r (λ e. IsRefusal (λ m rest. (statement end m p).front here rest) n e)) one_more (laws.refused (λ n. statement_laws end n p) (suc room) here seen (statement_missing end room p) r (given g))

  pub statement_only : Gives seen r (statement_of end room p here) → (x : StatementTree) (rest : List Token) → (statement end (room + 1) p).whole x here rest → (starts_word word.Else rest ≡ true → IsClosed x)
      → IsRead (λ y. ((seen y).0 ≡ x) × ((seen y).1 ≡ rest)) r
  statement_only g x rest w o =
      laws.only (λ n. ended_laws end n p) (suc room) here seen r (given g) x rest (subst (λ n. (statement end n p).whole x here rest) (sym one_more) w, λ h. o (tells_word word.Else rest ∙ h)) refl

pub one_statement : (end : ℕ) (p : StatementPlace) (n m : ℕ) (x y : StatementTree) (here rest : List Token) → (statement end n p).whole x here rest → (statement end m p).whole y here rest
    → (starts_word word.Else rest ≡ true → IsClosed x) → (starts_word word.Else rest ≡ true → IsClosed y) → x ≡ y
one_statement end p n m x y here rest a b c d =
    laws.one_tree (λ k. ended_laws end k p) n m x y here rest (a, λ h. c (tells_word word.Else rest ∙ h)) (b, λ h. d (tells_word word.Else rest ∙ h)) refl
