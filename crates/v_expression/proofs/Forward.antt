-- Reading goes forward.
use Rattle.std.proofs.Common.{◌≡◌, ℕ, zero, suc, ◌+◌, ◌<◌, ◌≤◌, List, [], ◌∷◌, length, Option, Some, None, Ok, Err, ap, arith, ◌⊎◌, inl, inr}
use Rattle.v_syntax.specs.declared.token.Token.{Token}
use Rattle.v_syntax.specs.declared.token.Token.TheVariants as token
use Rattle.v_syntax.specs.declared.mark.Mark.{Mark}
use Rattle.v_syntax.specs.declared.mark.Mark.TheVariants as mark
use Rattle.v_syntax.specs.declared.expression.UnaryOperator.{UnaryOperator}
use Rattle.v_syntax.specs.declared.expression.BinaryOperator.{BinaryOperator}
use Rattle.v_syntax.specs.ExpressionTrees.{Tree, Bracketed, Replication, SelectTree, Bit, Part, IndexedPart, TargetTree, height}
use Rattle.v_syntax.specs.ExpressionOperators.{level_of}
use Rattle.v_syntax.specs.ExpressionSpans.{place}
use Rattle.v_expression.specs.Phrase.Stops.{Syntax, TooDeep, Answer, ◌>>=◌, after, behind, syntax_at}
use Rattle.v_expression.proofs.PhraseLemmas.Passes.{Passes, passes_more, passes_then}
use Rattle.v_expression.specs.Reading.{Readers, down, down_from, last_of, part, indexed_part, range_by, range_of, bound_by, bound_of, select_of, of_word, further_by, further_of, selects_by, selects_of, named_of, bracketed_of, and_first, others_by, others_of, parts_of, replication_of, concatenation_of, inside_by, inside_of, braced_of, primary_of, prefix_of, infix_of, prefixed_of, unary_by, unary_of, from_level, operand_of, step_by, steps_of, climb_of, branches_of, choose_by, choose_of, whole_of, and_first_target, other_targets_by, other_targets_of, target_parts_of, joined_of, named_target_of, any_target_of, below, nothing}
use Rattle.v_expression.proofs.PhraseLemmas.Marks.{after_case, behind_case}
use Rattle.v_expression.proofs.PhraseLemmas.Suffixes.{at_most_or_more}
use Rattle.v_expression.proofs.Basics.{down_fits, down_high}

pub passes_after : {A : Type 0} → (n : ℕ) (m : Mark) (f : List Token → Answer A) (ts : List Token) → length ts ≤ n → ((rest : List Token) → length rest ≤ n → Passes n (f rest)) → Passes n (after m ts >>= f)
passes_after n m f ts h next = go (after_case m ts)
  where
    go : ((us : List Token) × (ts ≡ token.Mark m ∷ us) × (after m ts ≡ Ok us)) ⊎ (after m ts ≡ syntax_at ts) → Passes n (after m ts >>= f)
    go (inl (us, e, q)) = rw q (next us (let l : length ts ≡ suc (length us) = ap length e in omega arith))
    go (inr q) = rw q h

-- behind a mark no more is left
pub behind_shorter : {A : Type 0} → (n : ℕ) (m : Mark) (ts : List Token) (f : Option (List Token) → Answer A) → length ts ≤ n
    → ((us : List Token) → length us ≤ n → Passes n (f (Some us))) → Passes n (f None) → Passes n (f (behind m ts))
behind_shorter n m ts f h some other = go (behind_case m ts)
  where
    go : ((us : List Token) × (ts ≡ token.Mark m ∷ us) × (behind m ts ≡ Some us)) ⊎ (behind m ts ≡ None) → Passes n (f (behind m ts))
    go (inl (us, e, q)) = rw q (some us (let l : length ts ≡ suc (length us) = ap length e in omega arith))
    go (inr q) = rw q other

pub record GoForward (sub : Readers) : Type 0 where
  pub expression : (ts : List Token) → Passes (length ts) (sub.expression ts)
  pub climb : (min : ℕ) (ts : List Token) → Passes (length ts) (sub.climb min ts)
  pub unary : (ts : List Token) → Passes (length ts) (sub.unary ts)
  pub target : (ts : List Token) → Passes (length ts) (sub.target ts)

module _ (end room : ℕ) (sub : Readers) (ih : GoForward sub) where
  pub expression_pass : (n : ℕ) (ts : List Token) → length ts ≤ n → Passes n (sub.expression ts)
  expression_pass n ts h = passes_more (length ts) n (sub.expression ts) h (ih.expression ts)

  pub down_forward : {A : Type 0} → (n : ℕ) (here : List Token) (f : Readers → Answer A) → length here ≤ n → Passes n (f sub) → Passes n (down room sub here >>= f)
  unfolding down
  down_forward n here f h p = go room
    where
      go : (k : ℕ) → Passes n (down k sub here >>= f)
      go zero = h
      go (suc k) = p

  pub down_from_forward : {A : Type 0} → (n : ℕ) (first : Tree) (here : List Token) (f : Readers → Answer A) → length here ≤ n → Passes n (f sub) → Passes n (down_from room sub first here >>= f)
  down_from_forward n first here f h p = go (at_most_or_more (height first) room)
    where
      go : (height first ≤ room) ⊎ (room < height first) → Passes n (down_from room sub first here >>= f)
      go (inl k) = rw (down_fits room sub first here k) p
      go (inr k) = rw (down_high room sub first here k) h

  pub last_pass : (n : ℕ) (ts : List Token) → length ts ≤ n → Passes n (last_of sub ts)
  unfolding last_of
  last_pass n ts h = passes_then n _ (λ e rest k. passes_after n mark.CloseBracket (λ r. Ok (e, r)) rest k (λ r l. l)) (sub.expression ts) (expression_pass n ts h)

  pub range_pass : (n at : ℕ) (e : Tree) (ts : List Token) → length ts ≤ n → Passes n (range_of at sub e ts)
  unfolding range_of
  range_pass n at e ts h = behind_shorter n mark.Colon ts (range_by at sub e ts) h
      (λ us k. passes_then n (part at e) (λ x rest l. l) (last_of sub us) (last_pass n us k))
      (passes_after n mark.PlusColon _ ts h (λ us k. passes_then n (indexed_part at e) (λ x rest l. l) (last_of sub us) (last_pass n us k)))

  pub bound_pass : (n at : ℕ) (e : Tree) (ts : List Token) → length ts ≤ n → Passes n (bound_of at sub e ts)
  unfolding bound_of
  bound_pass n at e ts h = behind_shorter n mark.CloseBracket ts (bound_by at sub e ts) h (λ us k. k) (range_pass n at e ts h)

  pub select_pass : (n : ℕ) (here ts : List Token) → length here ≤ n → length ts ≤ n → Passes n (select_of end room sub here ts)
  unfolding select_of
  select_pass n here ts h k = down_forward n here _ h (passes_then n _ (λ e rest l. bound_pass n (place end here) e rest l) (sub.expression ts) (expression_pass n ts k))

  pub further_pass : (n : ℕ) (s : SelectTree) (ts : List Token) → length ts ≤ n → Passes n (further_of end room sub s ts)
  unfolding further_of
  further_pass n (Bit at e) ts h = behind_shorter n mark.OpenBracket ts (further_by end room sub (Bit at e) ts) h
      (λ us k. passes_then n (of_word at e) (λ x rest l. l) (select_of end room sub ts us) (select_pass n ts us h k)) h
  further_pass n (Part at l r) ts h = h
  further_pass n (IndexedPart at b w) ts h = h

  pub selects_pass : (n : ℕ) (ts : List Token) → length ts ≤ n → Passes n (selects_of end room sub ts)
  unfolding selects_of
  selects_pass n ts h = behind_shorter n mark.OpenBracket ts (selects_by end room sub ts) h
      (λ us k. passes_then n _ (λ s rest l. further_pass n s rest l) (select_of end room sub ts us) (select_pass n ts us h k)) h

  pub others_pass : (n k : ℕ) (ts : List Token) → length ts ≤ n → Passes n (others_of sub k ts)
  unfolding others_of
  others_pass n zero ts h = h
  others_pass n (suc k) ts h = go (λ us l. others_pass n k us l)
    where
      go : ((us : List Token) → length us ≤ n → Passes n (others_of sub k us)) → Passes n (others_by sub (others_of sub k) ts (behind mark.CloseBrace ts))
      go next = behind_shorter n mark.CloseBrace ts (others_by sub (others_of sub k) ts) h (λ us l. l)
          (passes_after n mark.Comma _ ts h (λ us l. passes_then n _ (λ e rest j. passes_then n (and_first e) (λ es r i. i) (others_of sub k rest) (next rest j)) (sub.expression us) (expression_pass n us l)))

  pub parts_pass : (n : ℕ) (e : Tree) (ts : List Token) → length ts ≤ n → Passes n (parts_of sub e ts)
  unfolding parts_of
  parts_pass n e ts h = passes_then n (and_first e) (λ es r i. i) (others_of sub (length ts) ts) (others_pass n (length ts) ts h)

  pub replication_pass : (n at : ℕ) (c : Tree) (ts : List Token) → length ts ≤ n → Passes n (replication_of at sub c ts)
  unfolding replication_of
  replication_pass n at c ts h = passes_then n _ (λ e rest k. passes_then n _ (λ es r l. passes_after n mark.CloseBrace (λ z. Ok (Replication at c es, z)) r l (λ z i. i)) (parts_of sub e rest) (parts_pass n e rest k))
      (sub.expression ts) (expression_pass n ts h)

  pub concatenation_pass : (n at : ℕ) (e : Tree) (ts : List Token) → length ts ≤ n → Passes n (concatenation_of at sub e ts)
  unfolding concatenation_of
  concatenation_pass n at e ts h = passes_then n _ (λ es r l. l) (parts_of sub e ts) (parts_pass n e ts h)

  pub inside_pass : (n at : ℕ) (e : Tree) (ts : List Token) → length ts ≤ n → Passes n (inside_of at sub e ts)
  unfolding inside_of
  inside_pass n at e ts h = behind_shorter n mark.OpenBrace ts (inside_by at sub e ts) h (λ us k. replication_pass n at e us k) (concatenation_pass n at e ts h)

  named_pass : (n at : ℕ) (name : List ℕ) (ts : List Token) → length ts ≤ n → Passes n (named_of end room sub at name ts)
  unfolding named_of
  named_pass n at name ts h = passes_then n _ (λ s r l. l) (selects_of end room sub ts) (selects_pass n ts h)

  bracketed_pass : (n : ℕ) (here ts : List Token) → length here ≤ n → length ts ≤ n → Passes n (bracketed_of end room sub here ts)
  unfolding bracketed_of
  bracketed_pass n here ts h k = down_forward n here _ h (passes_then n _ (λ e rest l. passes_after n mark.CloseParenthesis (λ r. Ok (Bracketed (place end here) e, r)) rest l (λ r i. i)) (sub.expression ts) (expression_pass n ts k))

  braced_pass : (n : ℕ) (here ts : List Token) → length here ≤ n → length ts ≤ n → Passes n (braced_of end room sub here ts)
  unfolding braced_of
  braced_pass n here ts h k = down_forward n here _ h (passes_then n _ (λ e rest l. inside_pass n (place end here) e rest l) (sub.expression ts) (expression_pass n ts k))

  primary_forward : (ts : List Token) → Passes (length ts) (primary_of end room sub ts)
  unfolding primary_of
  primary_forward (token.Number ds ∷ ts) = omega arith
  primary_forward (token.Name name ∷ ts) = named_pass (length (token.Name name ∷ ts)) (place end (token.Name name ∷ ts)) name ts (omega arith)
  primary_forward (token.Mark mark.OpenParenthesis ∷ ts) = bracketed_pass (length (token.Mark mark.OpenParenthesis ∷ ts)) (token.Mark mark.OpenParenthesis ∷ ts) ts (omega arith) (omega arith)
  primary_forward (token.Mark mark.OpenBrace ∷ ts) = braced_pass (length (token.Mark mark.OpenBrace ∷ ts)) (token.Mark mark.OpenBrace ∷ ts) ts (omega arith) (omega arith)
  primary_forward [] = omega arith
  primary_forward (t ∷ ts) = omega arith

  prefixed_forward : (op : UnaryOperator) (t : Token) (ts : List Token) → Passes (length (t ∷ ts)) (prefixed_of end room sub op (t ∷ ts) ts)
  unfolding prefixed_of
  prefixed_forward op t ts = down_forward (length (t ∷ ts)) (t ∷ ts) _ (omega arith)
      (passes_then (length (t ∷ ts)) _ (λ e rest h. h) (sub.unary ts) (passes_more (length ts) (length (t ∷ ts)) (sub.unary ts) (omega arith) (ih.unary ts)))

  pub unary_forward : (ts : List Token) → Passes (length ts) (unary_of end room sub ts)
  unfolding unary_of
  unary_forward [] = omega arith
  unary_forward (t ∷ ts) = go (prefix_of t)
    where
      go : (o : Option UnaryOperator) → Passes (length (t ∷ ts)) (unary_by end room sub t ts o)
      go None = primary_forward (t ∷ ts)
      go (Some op) = prefixed_forward op t ts

  operand_forward : (op : BinaryOperator) (l : Tree) (t : Token) (ts : List Token) → Passes (length (t ∷ ts)) (operand_of room sub op l (t ∷ ts) ts)
  unfolding operand_of
  operand_forward op l t ts = down_from_forward (length (t ∷ ts)) l (t ∷ ts) _ (omega arith)
      (passes_then (length (t ∷ ts)) _ (λ e rest h. h) (sub.climb (level_of op + 1) ts) (passes_more (length ts) (length (t ∷ ts)) (sub.climb (level_of op + 1) ts) (omega arith) (ih.climb (level_of op + 1) ts)))

  steps_forward : (min n : ℕ) (l : Tree) (ts : List Token) → Passes (length ts) (steps_of room sub min n l ts)
  unfolding steps_of
  steps_forward min zero l ts = omega arith
  steps_forward min (suc n) l [] = omega arith
  steps_forward min (suc n) l (t ∷ ts) = go (λ e r. steps_forward min n e r) (from_level min (infix_of t))
    where
      go : ((e : Tree) (r : List Token) → Passes (length r) (steps_of room sub min n e r)) → (o : Option BinaryOperator) → Passes (length (t ∷ ts)) (step_by room sub (steps_of room sub min n) l t ts o)
      go next None = omega arith
      go next (Some op) = passes_then (length (t ∷ ts)) _ (λ e rest h. passes_more (length rest) (length (t ∷ ts)) _ h (next e rest)) _ (operand_forward op l t ts)

  pub steps_pass : (n min k : ℕ) (l : Tree) (ts : List Token) → length ts ≤ n → Passes n (steps_of room sub min k l ts)
  steps_pass n min k l ts h = passes_more (length ts) n _ h (steps_forward min k l ts)

  pub climb_forward : (min : ℕ) (ts : List Token) → Passes (length ts) (climb_of end room sub min ts)
  unfolding climb_of
  climb_forward min ts = passes_then (length ts) _ (λ e rest h. steps_pass (length ts) min (length rest) e rest h) (unary_of end room sub ts) (unary_forward ts)

  branches_pass : (n : ℕ) (c : Tree) (here ts : List Token) → length here ≤ n → length ts ≤ n → Passes n (branches_of room sub c here ts)
  unfolding branches_of
  branches_pass n c here ts h k = down_from_forward n c here _ h
      (passes_then n _ (λ a rest l. passes_after n mark.Colon _ rest l (λ r i. passes_then n _ (λ b last j. j) (sub.expression r) (expression_pass n r i))) (sub.expression ts) (expression_pass n ts k))

  pub choose_pass : (n : ℕ) (c : Tree) (ts : List Token) → length ts ≤ n → Passes n (choose_of room sub c ts)
  unfolding choose_of
  choose_pass n c ts h = behind_shorter n mark.Question ts (choose_by room sub c ts) h (λ us k. branches_pass n c ts us h k) h

  pub whole_forward : (ts : List Token) → Passes (length ts) (whole_of end room sub ts)
  unfolding whole_of
  whole_forward ts = passes_then (length ts) _ (λ c rest h. choose_pass (length ts) c rest h) (climb_of end room sub 2 ts) (climb_forward 2 ts)

  -- ---- targets

  pub target_pass : (n : ℕ) (ts : List Token) → length ts ≤ n → Passes n (sub.target ts)
  target_pass n ts h = passes_more (length ts) n (sub.target ts) h (ih.target ts)

  pub other_targets_pass : (n k : ℕ) (ts : List Token) → length ts ≤ n → Passes n (other_targets_of sub k ts)
  unfolding other_targets_of
  other_targets_pass n zero ts h = h
  other_targets_pass n (suc k) ts h = go (λ us l. other_targets_pass n k us l)
    where
      go : ((us : List Token) → length us ≤ n → Passes n (other_targets_of sub k us)) → Passes n (other_targets_by sub (other_targets_of sub k) ts (behind mark.CloseBrace ts))
      go next = behind_shorter n mark.CloseBrace ts (other_targets_by sub (other_targets_of sub k) ts) h (λ us l. l)
          (passes_after n mark.Comma _ ts h (λ us l. passes_then n _ (λ t rest j. passes_then n (and_first_target t) (λ all r i. i) (other_targets_of sub k rest) (next rest j)) (sub.target us) (target_pass n us l)))

  pub target_parts_pass : (n : ℕ) (t : TargetTree) (ts : List Token) → length ts ≤ n → Passes n (target_parts_of sub t ts)
  unfolding target_parts_of
  target_parts_pass n t ts h = passes_then n (and_first_target t) (λ all r i. i) (other_targets_of sub (length ts) ts) (other_targets_pass n (length ts) ts h)

  joined_pass : (n : ℕ) (here ts : List Token) → length here ≤ n → length ts ≤ n → Passes n (joined_of end room sub here ts)
  unfolding joined_of
  joined_pass n here ts h k = down_forward n here _ h (passes_then n _ (λ t rest l. passes_then n _ (λ all r i. i) (target_parts_of sub t rest) (target_parts_pass n t rest l)) (sub.target ts) (target_pass n ts k))

  named_target_pass : (n at : ℕ) (name : List ℕ) (ts : List Token) → length ts ≤ n → Passes n (named_target_of end room sub at name ts)
  unfolding named_target_of
  named_target_pass n at name ts h = passes_then n _ (λ s r l. l) (selects_of end room sub ts) (selects_pass n ts h)

  pub any_target_forward : (ts : List Token) → Passes (length ts) (any_target_of end room sub ts)
  unfolding any_target_of
  any_target_forward (token.Name name ∷ ts) = named_target_pass (length (token.Name name ∷ ts)) (place end (token.Name name ∷ ts)) name ts (omega arith)
  any_target_forward (token.Mark mark.OpenBrace ∷ ts) = joined_pass (length (token.Mark mark.OpenBrace ∷ ts)) (token.Mark mark.OpenBrace ∷ ts) ts (omega arith) (omega arith)
  any_target_forward [] = omega arith
  any_target_forward (t ∷ ts) = omega arith

nothing_forward : GoForward nothing
unfolding nothing
nothing_forward = record { expression = λ ts. omega arith; climb = λ min ts. omega arith; unary = λ ts. omega arith; target = λ ts. omega arith }

pub below_forward : (end room : ℕ) → GoForward (below end room)
unfolding below
below_forward end zero = nothing_forward
below_forward end (suc k) = record {
  expression = whole_forward end k (below end k) (below_forward end k);
  climb = climb_forward end k (below end k) (below_forward end k);
  unary = unary_forward end k (below end k) (below_forward end k);
  target = any_target_forward end k (below end k) (below_forward end k);
}

pub expression_goes_forward : (end room : ℕ) (ts : List Token) → Passes (length ts) (whole_of end room (below end room) ts)
expression_goes_forward end room ts = whole_forward end room (below end room) (below_forward end room) ts

pub target_goes_forward : (end room : ℕ) (ts : List Token) → Passes (length ts) (any_target_of end room (below end room) ts)
target_goes_forward end room ts = any_target_forward end room (below end room) (below_forward end room) ts
