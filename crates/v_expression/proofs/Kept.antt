-- With more levels below, a reader answers the same, unless it stopped at the height.
use Rattle.std.proofs.Common.{◌≡◌, ℕ, zero, suc, ◌+◌, ◌<◌, ◌≤◌, List, [], ◌∷◌, length, Option, Some, None, Result, Ok, Err, refl, arith, ◌⊎◌, inl, inr}
use Rattle.v_syntax.specs.declared.token.Token.{Token}
use Rattle.v_syntax.specs.declared.token.Token.TheVariants as token
use Rattle.v_syntax.specs.declared.mark.Mark.TheVariants as mark
use Rattle.v_syntax.specs.declared.expression.UnaryOperator.{UnaryOperator}
use Rattle.v_syntax.specs.declared.expression.BinaryOperator.{BinaryOperator}
use Rattle.v_syntax.specs.ExpressionTrees.{Tree, Bracketed, Replication, SelectTree, Bit, Part, IndexedPart, TargetTree, height}
use Rattle.v_syntax.specs.ExpressionOperators.{level_of}
use Rattle.v_syntax.specs.ExpressionSpans.{place}
use Rattle.v_expression.specs.Phrase.Stops.{Stop, Syntax, TooDeep, ◌>>=◌, after, behind}
use Rattle.v_expression.proofs.PhraseLemmas.Extends.{Extends, same, extends_then}
use Rattle.v_expression.specs.Reading.{Readers, down, down_from, last_of, range_by, range_of, bound_by, bound_of, select_of, further_by, further_of, selects_by, selects_of, named_of, bracketed_of, others_by, others_of, parts_of, replication_of, concatenation_of, inside_by, inside_of, braced_of, primary_of, prefix_of, infix_of, prefixed_of, unary_by, unary_of, from_level, operand_of, step_by, steps_of, climb_of, branches_of, choose_by, choose_of, whole_of, other_targets_by, other_targets_of, target_parts_of, joined_of, named_target_of, any_target_of, below}
use Rattle.v_expression.proofs.PhraseLemmas.Suffixes.{at_most_or_more}
use Rattle.v_expression.proofs.Basics.{height_positive, down_fits, down_high}

pub record AreKept (sub sup : Readers) : Type 0 where
  pub expression : (ts : List Token) → Extends (sub.expression ts) (sup.expression ts)
  pub climb : (min : ℕ) (ts : List Token) → Extends (sub.climb min ts) (sup.climb min ts)
  pub unary : (ts : List Token) → Extends (sub.unary ts) (sup.unary ts)
  pub target : (ts : List Token) → Extends (sub.target ts) (sup.target ts)

module _ (sub sup : Readers) (k : AreKept sub sup) where
  last_kept : (ts : List Token) → Extends (last_of sub ts) (last_of sup ts)
  unfolding last_of
  last_kept ts = extends_then _ _ (λ e. same (after mark.CloseBracket e.1 >>= λ r. Ok (e.0, r))) _ _ (k.expression ts)

  range_kept : (at : ℕ) (e : Tree) (ts : List Token) → Extends (range_of at sub e ts) (range_of at sup e ts)
  unfolding range_of
  range_kept at e ts = go (behind mark.Colon ts)
    where
      go : (o : Option (List Token)) → Extends (range_by at sub e ts o) (range_by at sup e ts o)
      go (Some us) = extends_then _ _ (λ x. refl) _ _ (last_kept us)
      go None = extends_then _ _ (λ us. extends_then _ _ (λ x. refl) _ _ (last_kept us)) _ _ (same (after mark.PlusColon ts))

  bound_kept : (at : ℕ) (e : Tree) (ts : List Token) → Extends (bound_of at sub e ts) (bound_of at sup e ts)
  unfolding bound_of
  bound_kept at e ts = go (behind mark.CloseBracket ts)
    where
      go : (o : Option (List Token)) → Extends (bound_by at sub e ts o) (bound_by at sup e ts o)
      go (Some us) = refl
      go None = range_kept at e ts

  others_kept : (n : ℕ) (ts : List Token) → Extends (others_of sub n ts) (others_of sup n ts)
  unfolding others_of
  others_kept zero ts = refl
  others_kept (suc n) ts = go (λ us. others_kept n us) (behind mark.CloseBrace ts)
    where
      go : ((us : List Token) → Extends (others_of sub n us) (others_of sup n us)) → (o : Option (List Token)) → Extends (others_by sub (others_of sub n) ts o) (others_by sup (others_of sup n) ts o)
      go next (Some us) = refl
      go next None = extends_then _ _ (λ us. extends_then _ _ (λ e. extends_then _ _ (λ es. refl) _ _ (next e.1)) _ _ (k.expression us)) _ _ (same (after mark.Comma ts))

  parts_kept : (e : Tree) (ts : List Token) → Extends (parts_of sub e ts) (parts_of sup e ts)
  unfolding parts_of
  parts_kept e ts = extends_then _ _ (λ es. refl) _ _ (others_kept (length ts) ts)

  replication_kept : (at : ℕ) (e : Tree) (ts : List Token) → Extends (replication_of at sub e ts) (replication_of at sup e ts)
  unfolding replication_of
  replication_kept at e ts = extends_then _ _ (λ f. extends_then _ _ (λ es. same (after mark.CloseBrace es.1 >>= λ r. Ok (Replication at e es.0, r))) _ _ (parts_kept f.0 f.1)) _ _ (k.expression ts)

  concatenation_kept : (at : ℕ) (e : Tree) (ts : List Token) → Extends (concatenation_of at sub e ts) (concatenation_of at sup e ts)
  unfolding concatenation_of
  concatenation_kept at e ts = extends_then _ _ (λ es. refl) _ _ (parts_kept e ts)

  inside_kept : (at : ℕ) (e : Tree) (ts : List Token) → Extends (inside_of at sub e ts) (inside_of at sup e ts)
  unfolding inside_of
  inside_kept at e ts = go (behind mark.OpenBrace ts)
    where
      go : (o : Option (List Token)) → Extends (inside_by at sub e ts o) (inside_by at sup e ts o)
      go (Some us) = replication_kept at e us
      go None = concatenation_kept at e ts

  other_targets_kept : (n : ℕ) (ts : List Token) → Extends (other_targets_of sub n ts) (other_targets_of sup n ts)
  unfolding other_targets_of
  other_targets_kept zero ts = refl
  other_targets_kept (suc n) ts = go (λ us. other_targets_kept n us) (behind mark.CloseBrace ts)
    where
      go : ((us : List Token) → Extends (other_targets_of sub n us) (other_targets_of sup n us)) → (o : Option (List Token))
          → Extends (other_targets_by sub (other_targets_of sub n) ts o) (other_targets_by sup (other_targets_of sup n) ts o)
      go next (Some us) = refl
      go next None = extends_then _ _ (λ us. extends_then _ _ (λ t. extends_then _ _ (λ all. refl) _ _ (next t.1)) _ _ (k.target us)) _ _ (same (after mark.Comma ts))

  target_parts_kept : (t : TargetTree) (ts : List Token) → Extends (target_parts_of sub t ts) (target_parts_of sup t ts)
  unfolding target_parts_of
  target_parts_kept t ts = extends_then _ _ (λ all. refl) _ _ (other_targets_kept (length ts) ts)

module _ (end room most : ℕ) (sub sup : Readers) (le : room ≤ most) (ih : 0 < room → AreKept sub sup) where
  down_kept : {A : Type 0} → (here : List Token) (f g : Readers → Result A Stop) → (AreKept sub sup → Extends (f sub) (g sup))
      → Extends (down room sub here >>= f) (down most sup here >>= g)
  unfolding down
  down_kept here f g next = go room most le ih
    where
      go : (a b : ℕ) → a ≤ b → (0 < a → AreKept sub sup) → Extends (down a sub here >>= f) (down b sup here >>= g)
      go zero b h i = tt
      go (suc a) zero h i = absurd (omega arith)
      go (suc a) (suc b) h i = next (i (omega arith))

  down_from_kept : {A : Type 0} → (here : List Token) (first : Tree) (f g : Readers → Result A Stop) → (AreKept sub sup → Extends (f sub) (g sup))
      → Extends (down_from room sub first here >>= f) (down_from most sup first here >>= g)
  down_from_kept here first f g next = go (at_most_or_more (height first) room)
    where
      go : (height first ≤ room) ⊎ (room < height first) → Extends (down_from room sub first here >>= f) (down_from most sup first here >>= g)
      go (inl h) = rw (down_fits room sub first here h, down_fits most sup first here (omega arith)) (next (ih (omega (arith, height_positive first))))
      go (inr h) = rw (down_high room sub first here h) tt

  select_kept : (here ts : List Token) → Extends (select_of end room sub here ts) (select_of end most sup here ts)
  unfolding select_of
  select_kept here ts = down_kept here _ _ (λ k. extends_then _ _ (λ e. bound_kept sub sup k (place end here) e.0 e.1) _ _ (k.expression ts))

  further_kept : (s : SelectTree) (ts : List Token) → Extends (further_of end room sub s ts) (further_of end most sup s ts)
  unfolding further_of
  further_kept s ts = go s (behind mark.OpenBracket ts)
    where
      go : (s : SelectTree) (o : Option (List Token)) → Extends (further_by end room sub s ts o) (further_by end most sup s ts o)
      go (Bit at e) (Some us) = extends_then _ _ (λ x. refl) _ _ (select_kept ts us)
      go (Bit at e) None = refl
      go (Part at l r) o = refl
      go (IndexedPart at b w) o = refl

  selects_kept : (ts : List Token) → Extends (selects_of end room sub ts) (selects_of end most sup ts)
  unfolding selects_of
  selects_kept ts = go (behind mark.OpenBracket ts)
    where
      go : (o : Option (List Token)) → Extends (selects_by end room sub ts o) (selects_by end most sup ts o)
      go (Some us) = extends_then _ _ (λ x. further_kept x.0 x.1) _ _ (select_kept ts us)
      go None = refl

  named_kept : (at : ℕ) (name : List ℕ) (ts : List Token) → Extends (named_of end room sub at name ts) (named_of end most sup at name ts)
  unfolding named_of
  named_kept at name ts = extends_then _ _ (λ x. refl) _ _ (selects_kept ts)

  bracketed_kept : (here ts : List Token) → Extends (bracketed_of end room sub here ts) (bracketed_of end most sup here ts)
  unfolding bracketed_of
  bracketed_kept here ts = down_kept here _ _ (λ k. extends_then _ _ (λ x. same (after mark.CloseParenthesis x.1 >>= λ r. Ok (Bracketed (place end here) x.0, r))) _ _ (k.expression ts))

  braced_kept : (here ts : List Token) → Extends (braced_of end room sub here ts) (braced_of end most sup here ts)
  unfolding braced_of
  braced_kept here ts = down_kept here _ _ (λ k. extends_then _ _ (λ x. inside_kept sub sup k (place end here) x.0 x.1) _ _ (k.expression ts))

  primary_kept : (ts : List Token) → Extends (primary_of end room sub ts) (primary_of end most sup ts)
  unfolding primary_of
  primary_kept (token.Number ds ∷ ts) = refl
  primary_kept (token.Name name ∷ ts) = named_kept (place end (token.Name name ∷ ts)) name ts
  primary_kept (token.Mark mark.OpenParenthesis ∷ ts) = bracketed_kept (token.Mark mark.OpenParenthesis ∷ ts) ts
  primary_kept (token.Mark mark.OpenBrace ∷ ts) = braced_kept (token.Mark mark.OpenBrace ∷ ts) ts
  primary_kept [] = refl
  primary_kept (t ∷ ts) = refl

  prefixed_kept : (op : UnaryOperator) (here ts : List Token) → Extends (prefixed_of end room sub op here ts) (prefixed_of end most sup op here ts)
  unfolding prefixed_of
  prefixed_kept op here ts = down_kept here _ _ (λ k. extends_then _ _ (λ x. refl) _ _ (k.unary ts))

  unary_kept : (ts : List Token) → Extends (unary_of end room sub ts) (unary_of end most sup ts)
  unfolding unary_of
  unary_kept [] = refl
  unary_kept (t ∷ ts) = go (prefix_of t)
    where
      go : (o : Option UnaryOperator) → Extends (unary_by end room sub t ts o) (unary_by end most sup t ts o)
      go None = primary_kept (t ∷ ts)
      go (Some op) = prefixed_kept op (t ∷ ts) ts

  operand_kept : (op : BinaryOperator) (l : Tree) (here ts : List Token) → Extends (operand_of room sub op l here ts) (operand_of most sup op l here ts)
  unfolding operand_of
  operand_kept op l here ts = down_from_kept here l _ _ (λ k. extends_then _ _ (λ x. refl) _ _ (k.climb (level_of op + 1) ts))

  steps_kept : (min n : ℕ) (l : Tree) (ts : List Token) → Extends (steps_of room sub min n l ts) (steps_of most sup min n l ts)
  unfolding steps_of
  steps_kept min zero l ts = refl
  steps_kept min (suc n) l [] = refl
  steps_kept min (suc n) l (t ∷ ts) = go (λ e r. steps_kept min n e r) (from_level min (infix_of t))
    where
      go : ((e : Tree) (r : List Token) → Extends (steps_of room sub min n e r) (steps_of most sup min n e r))
          → (o : Option BinaryOperator) → Extends (step_by room sub (steps_of room sub min n) l t ts o) (step_by most sup (steps_of most sup min n) l t ts o)
      go next None = refl
      go next (Some op) = extends_then _ _ (λ x. next x.0 x.1) _ _ (operand_kept op l (t ∷ ts) ts)

  climb_kept : (min : ℕ) (ts : List Token) → Extends (climb_of end room sub min ts) (climb_of end most sup min ts)
  unfolding climb_of
  climb_kept min ts = extends_then _ _ (λ x. steps_kept min (length x.1) x.0 x.1) _ _ (unary_kept ts)

  branches_kept : (c : Tree) (here ts : List Token) → Extends (branches_of room sub c here ts) (branches_of most sup c here ts)
  unfolding branches_of
  branches_kept c here ts = down_from_kept here c _ _ (λ k. extends_then _ _
      (λ a. extends_then _ _ (λ r. extends_then _ _ (λ b. refl) _ _ (k.expression r)) _ _ (same (after mark.Colon a.1))) _ _ (k.expression ts))

  choose_kept : (c : Tree) (ts : List Token) → Extends (choose_of room sub c ts) (choose_of most sup c ts)
  unfolding choose_of
  choose_kept c ts = go (behind mark.Question ts)
    where
      go : (o : Option (List Token)) → Extends (choose_by room sub c ts o) (choose_by most sup c ts o)
      go (Some us) = branches_kept c ts us
      go None = refl

  whole_kept : (ts : List Token) → Extends (whole_of end room sub ts) (whole_of end most sup ts)
  unfolding whole_of
  whole_kept ts = extends_then _ _ (λ x. choose_kept x.0 x.1) _ _ (climb_kept 2 ts)

  joined_kept : (here ts : List Token) → Extends (joined_of end room sub here ts) (joined_of end most sup here ts)
  unfolding joined_of
  joined_kept here ts = down_kept here _ _ (λ k. extends_then _ _ (λ t. extends_then _ _ (λ all. refl) _ _ (target_parts_kept sub sup k t.0 t.1)) _ _ (k.target ts))

  named_target_kept : (at : ℕ) (name : List ℕ) (ts : List Token) → Extends (named_target_of end room sub at name ts) (named_target_of end most sup at name ts)
  unfolding named_target_of
  named_target_kept at name ts = extends_then _ _ (λ x. refl) _ _ (selects_kept ts)

  any_target_kept : (ts : List Token) → Extends (any_target_of end room sub ts) (any_target_of end most sup ts)
  unfolding any_target_of
  any_target_kept (token.Name name ∷ ts) = named_target_kept (place end (token.Name name ∷ ts)) name ts
  any_target_kept (token.Mark mark.OpenBrace ∷ ts) = joined_kept (token.Mark mark.OpenBrace ∷ ts) ts
  any_target_kept [] = refl
  any_target_kept (t ∷ ts) = refl

below_kept : (end room most : ℕ) → room ≤ most → 0 < room → AreKept (below end room) (below end most)
unfolding below
below_kept end zero most h p = absurd (omega arith)
below_kept end (suc a) zero h p = absurd (omega arith)
below_kept end (suc a) (suc b) h p = record {
  expression = whole_kept end a b (below end a) (below end b) (omega arith) (below_kept end a b (omega arith));
  climb = climb_kept end a b (below end a) (below end b) (omega arith) (below_kept end a b (omega arith));
  unary = unary_kept end a b (below end a) (below end b) (omega arith) (below_kept end a b (omega arith));
  target = any_target_kept end a b (below end a) (below end b) (omega arith) (below_kept end a b (omega arith));
}

pub expression_is_kept : (end room most : ℕ) (ts : List Token) → room ≤ most → Extends (whole_of end room (below end room) ts) (whole_of end most (below end most) ts)
expression_is_kept end room most ts h = whole_kept end room most (below end room) (below end most) h (below_kept end room most h) ts

pub target_is_kept : (end room most : ℕ) (ts : List Token) → room ≤ most → Extends (any_target_of end room (below end room) ts) (any_target_of end most (below end most) ts)
target_is_kept end room most ts h = any_target_kept end room most (below end room) (below end most) h (below_kept end room most h) ts
