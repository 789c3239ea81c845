-- What a tree spells is read as that tree, if no token follows that goes on with it.
use Rattle.std.proofs.Common.{◌≡◌, ℕ, zero, suc, ◌+◌, ◌<◌, ◌≤◌, List, [], ◌∷◌, length, Option, Some, None, Ok, refl, ap, ◌∙◌, arith, ◌⊎◌, inl, inr}
use Rattle.v_syntax.specs.declared.token.Token.{Token}
use Rattle.v_syntax.specs.declared.token.Token.TheVariants as token
use Rattle.v_syntax.specs.declared.mark.Mark.{Mark}
use Rattle.v_syntax.specs.declared.mark.Mark.TheVariants as mark
use Rattle.v_syntax.specs.declared.expression.UnaryOperator.{UnaryOperator}
use Rattle.v_syntax.specs.declared.expression.BinaryOperator.{BinaryOperator}
use Rattle.v_syntax.specs.ExpressionTrees.{Tree, Number, Named, Bracketed, Unary, Binary, Conditional, Concatenation, Replication, Trees, none, more, SelectsTree, Whole, One, OfWord, SelectTree, Bit, Part, IndexedPart, TargetTree, NamedTarget, JoinedTarget, TargetTrees, no_target, more_targets, height, selects_height, select_height, trees_height, target_height, targets_height}
use Rattle.v_syntax.specs.ExpressionOperators.{unary_operator, binary_operator, level_of, level}
use Rattle.v_syntax.specs.ExpressionSpans.{IsMark, IsBinary, place, Spans, SelectsSpan, SelectSpans, AllSpan, OthersSpan, TargetSpans, TargetsSpan, OtherTargetsSpan}
use Rattle.v_expression.specs.Phrase.Stops.{Answer, ◌>>=◌, after, behind}
use Rattle.v_expression.specs.Reading.{Readers, last_of, range_of, bound_of, select_of, further_by, further_of, selects_by, selects_of, named_of, bracketed_of, others_of, parts_of, replication_of, concatenation_of, inside_of, braced_of, primary_of, infix_of, prefixed_of, unary_of, from_level, operand_of, step_by, steps_of, climb_of, branches_of, choose_of, whole_of, other_targets_of, target_parts_of, joined_of, named_target_of, any_target_of, below}
use Rattle.v_expression.specs.Follows.{level_or_zero, follow_mark, follow}
use Rattle.v_expression.proofs.Room.{down_some}
use Rattle.v_expression.proofs.PhraseLemmas.Marks.{behind_case, after_mark, behind_mark, behind_other}
use Rattle.v_expression.proofs.Basics.{level_from_2, level_below_12, front, from_level_some, from_level_none, height_positive, target_height_positive, down_fits, spans_shrink, target_shrinks}

-- ---- what can follow

front_follow : (ts : List Token) → front ts ≤ follow ts
front_follow [] = omega arith
front_follow (token.Mark m ∷ ts) = go m
  where
    go : (m : Mark) → level_or_zero (binary_operator m) ≤ follow_mark m
    go mark.CaseEqual = omega arith
    go _ = omega arith
front_follow (token.Name n ∷ ts) = omega arith
front_follow (token.Keyword w ∷ ts) = omega arith
front_follow (token.Reserved w ∷ ts) = omega arith
front_follow (token.SystemTask t ∷ ts) = omega arith
front_follow (token.Number ds ∷ ts) = omega arith
front_follow (token.Text t ∷ ts) = omega arith

pub follow_infix : (m : Mark) (op : BinaryOperator) → binary_operator m ≡ Some op → follow_mark m ≡ level_of op
follow_infix mark.OpenBracket op h = absurd (let e : None ≡ Some op = h in cc)
follow_infix mark.Question op h = absurd (let e : None ≡ Some op = h in cc)
follow_infix mark.CaseEqual op h = ap level_or_zero h
follow_infix _ op h = ap level_or_zero h

-- no select follows
no_select : (ts : List Token) → follow ts < 13 → behind mark.OpenBracket ts ≡ None
no_select ts h = go (behind_case mark.OpenBracket ts)
  where
    go : ((us : List Token) × (ts ≡ token.Mark mark.OpenBracket ∷ us) × (behind mark.OpenBracket ts ≡ Some us)) ⊎ (behind mark.OpenBracket ts ≡ None) → behind mark.OpenBracket ts ≡ None
    go (inl (us, p, q)) = let e : follow ts ≡ 13 = ap follow p in absurd (omega arith)
    go (inr q) = q

no_question : (ts : List Token) → follow ts < 1 → behind mark.Question ts ≡ None
no_question ts h = go (behind_case mark.Question ts)
  where
    go : ((us : List Token) × (ts ≡ token.Mark mark.Question ∷ us) × (behind mark.Question ts ≡ Some us)) ⊎ (behind mark.Question ts ≡ None) → behind mark.Question ts ≡ None
    go (inl (us, p, q)) = let e : follow ts ≡ 1 = ap follow p in absurd (omega arith)
    go (inr q) = q

-- an expression ends before this mark
pub ends : (m : Mark) (ts us : List Token) → IsMark m ts us → follow_mark m ≡ 0 → follow ts < 1
ends m ts us p h = let e : follow ts ≡ follow_mark m = ap follow p in omega arith

pub others_end : (es : Trees) (end : ℕ) (here us rest : List Token) → OthersSpan end es here us → IsMark mark.CloseBrace us rest → (follow here < 1) × (behind mark.OpenBrace here ≡ None)
unfolding OthersSpan
others_end none end here us rest p q = (ends mark.CloseBrace here rest (p ∙ q) refl, behind_other mark.CloseBrace mark.OpenBrace here rest (p ∙ q) refl)
others_end (more e es) end here us rest (vs, ws, p, s, o) q = (ends mark.Comma here vs p refl, behind_other mark.Comma mark.OpenBrace here vs p refl)

-- ---- the readers one level down

pub record ReadAgain (end n : ℕ) (sub : Readers) : Type 0 where
  pub expression : (e : Tree) (here rest : List Token) → Spans end e here rest → height e ≤ n → follow rest < 1 → sub.expression here ≡ Ok (e, rest)
  pub climb : (min : ℕ) (e : Tree) (here rest : List Token) → Spans end e here rest → 2 ≤ level e → min ≤ level e → height e ≤ n → front rest < min → follow rest < 13
      → sub.climb min here ≡ Ok (e, rest)
  pub unary : (e : Tree) (here rest : List Token) → Spans end e here rest → 12 ≤ level e → height e ≤ n → follow rest < 13 → sub.unary here ≡ Ok (e, rest)
  pub target : (t : TargetTree) (here rest : List Token) → TargetSpans end t here rest → target_height t ≤ n → follow rest < 13 → sub.target here ≡ Ok (t, rest)

select_positive : (s : SelectTree) → 1 ≤ select_height s
unfolding select_height
select_positive (Bit at e) = height_positive e
select_positive (Part at l r) = omega (arith, height_positive l)
select_positive (IndexedPart at b w) = omega (arith, height_positive b)

all_positive : (es : Trees) (end : ℕ) (here rest : List Token) → AllSpan end es here rest → 1 ≤ trees_height es
unfolding AllSpan trees_height
all_positive none end here rest p = absurd p
all_positive (more e es) end here rest p = omega (arith, height_positive e)

targets_positive : (ts : TargetTrees) (end : ℕ) (here rest : List Token) → TargetsSpan end ts here rest → 1 ≤ targets_height ts
unfolding TargetsSpan targets_height
targets_positive no_target end here rest p = absurd p
targets_positive (more_targets t ts) end here rest p = omega (arith, target_height_positive t)

abbrev pub with_operand : BinaryOperator → Tree → Tree × List Token → Answer Tree
with_operand op l r = Ok (Binary op l r.0, r.1)

abbrev pub with_targets : ℕ → TargetTrees × List Token → Answer TargetTree
with_targets at all = Ok (JoinedTarget at all.0, all.1)

-- both branches, behind the condition
abbrev pub third : Tree → Tree → Tree × List Token → Answer Tree
third c a b = Ok (Conditional c a b.0, b.1)

abbrev pub second : Readers → Tree → Tree × List Token → Answer Tree
second sub c a = after mark.Colon a.1 >>= λ rest. sub.expression rest >>= third c a.0

module _ (end room : ℕ) (sub : Readers) (ih : ReadAgain end room sub) where
  pub last_again : (e : Tree) (here us rest : List Token) → Spans end e here us → height e ≤ room → IsMark mark.CloseBracket us rest → last_of sub here ≡ Ok (e, rest)
  unfolding last_of
  last_again e here us rest s h p = rw (ih.expression e here us s h (ends mark.CloseBracket us rest p refl), after_mark mark.CloseBracket us rest p) refl

  -- from behind the bracket on
  pub select_again : (s : SelectTree) (here rest : List Token) → SelectSpans end s here rest → select_height s ≤ room
      → (us : List Token) × IsMark mark.OpenBracket here us × (select_of end room sub here us ≡ Ok (s, rest))
  unfolding SelectSpans select_height select_of bound_of range_of
  select_again (Bit at e) here rest (us, vs, a, p, s, q) h = (
    us,
    p,
    rw (a, down_some room sub here (omega (arith, height_positive e)), ih.expression e us vs s h (ends mark.CloseBracket vs rest q refl), behind_mark mark.CloseBracket vs rest q) refl,
  )
  select_again (Part at l r) here rest (us, vs, ws, xs, a, p, s, q, t, u) h = (
    us,
    p,
    rw (
      a,
      down_some room sub here (omega (arith, height_positive l)),
      ih.expression l us vs s (omega arith) (ends mark.Colon vs ws q refl),
      behind_other mark.Colon mark.CloseBracket vs ws q refl,
      behind_mark mark.Colon vs ws q,
      last_again r ws xs rest t (omega arith) u,
    ) refl,
  )
  select_again (IndexedPart at b w) here rest (us, vs, ws, xs, a, p, s, q, t, u) h = (
    us,
    p,
    rw (
      a,
      down_some room sub here (omega (arith, height_positive b)),
      ih.expression b us vs s (omega arith) (ends mark.PlusColon vs ws q refl),
      behind_other mark.PlusColon mark.CloseBracket vs ws q refl,
      behind_other mark.PlusColon mark.Colon vs ws q refl,
      after_mark mark.PlusColon vs ws q,
      last_again w ws xs rest t (omega arith) u,
    ) refl,
  )

  further_stop : (s : SelectTree) (ts : List Token) → behind mark.OpenBracket ts ≡ None → further_of end room sub s ts ≡ Ok (One s, ts)
  unfolding further_of
  further_stop (Bit at e) ts h = rw h refl
  further_stop (Part at l r) ts h = refl
  further_stop (IndexedPart at b w) ts h = refl

  -- behind the index of a memory's word
  pub word_again : (at : ℕ) (e : Tree) (s : SelectTree) (here rest : List Token) → SelectSpans end s here rest → select_height s ≤ room
      → further_of end room sub (Bit at e) here ≡ Ok (OfWord at e s, rest)
  unfolding further_of
  word_again at e s here rest d h = go (select_again s here rest d h)
    where
      go : (us : List Token) × IsMark mark.OpenBracket here us × (select_of end room sub here us ≡ Ok (s, rest)) → further_by end room sub (Bit at e) here (behind mark.OpenBracket here) ≡ Ok (OfWord at e s, rest)
      go (us, p, q) = rw (behind_mark mark.OpenBracket here us p, q) refl

  -- a select and what is read behind it
  pub first_again : (s : SelectTree) (here us : List Token) → SelectSpans end s here us → select_height s ≤ room → selects_of end room sub here ≡ further_of end room sub s us
  unfolding selects_of
  first_again s here us d h = go (select_again s here us d h)
    where
      go : (vs : List Token) × IsMark mark.OpenBracket here vs × (select_of end room sub here vs ≡ Ok (s, us)) → selects_by end room sub here (behind mark.OpenBracket here) ≡ further_of end room sub s us
      go (vs, p, q) = rw (behind_mark mark.OpenBracket here vs p, q) refl

  selects_none : (here : List Token) → behind mark.OpenBracket here ≡ None → selects_of end room sub here ≡ Ok (Whole, here)
  unfolding selects_of
  selects_none here h = rw h refl

  pub selects_again : (s : SelectsTree) (here rest : List Token) → SelectsSpan end s here rest → selects_height s ≤ room + 1 → follow rest < 13 → selects_of end room sub here ≡ Ok (s, rest)
  unfolding SelectsSpan selects_height SelectSpans select_height
  selects_again Whole here rest p h f = rw p (selects_none rest (no_select rest f))
  selects_again (One s) here rest d h f = first_again s here rest d (omega arith) ∙ further_stop s rest (no_select rest f)
  selects_again (OfWord at e s) here rest (us, vs, ws, a, p, t, q, u) h f =
      first_again (Bit at e) here ws (us, vs, a, p, t, q) (omega arith) ∙ word_again at e s ws rest u (omega arith)

  pub others_again : (es : Trees) (n : ℕ) (here us rest : List Token) → OthersSpan end es here us → IsMark mark.CloseBrace us rest → trees_height es ≤ room → length here ≤ n
      → others_of sub n here ≡ Ok (es, rest)
  unfolding OthersSpan trees_height others_of
  others_again none zero here us rest p q h l = absurd (let e : length here ≡ suc (length rest) = ap length (p ∙ q) in omega arith)
  others_again none (suc n) here us rest p q h l = rw (behind_mark mark.CloseBrace here rest (p ∙ q)) refl
  others_again (more e es) zero here us rest (vs, ws, p, s, o) q h l = absurd (let g : length here ≡ suc (length vs) = ap length p in omega arith)
  others_again (more e es) (suc n) here us rest (vs, ws, p, s, o) q h l =
      let g : length here ≡ suc (length vs) = ap length p in
      rw (
        behind_other mark.Comma mark.CloseBrace here vs p refl,
        after_mark mark.Comma here vs p,
        ih.expression e vs ws s (omega arith) (others_end es end ws us rest o q).0,
        others_again es n ws us rest o q (omega arith) (omega (arith, spans_shrink e end vs ws s)),
      ) refl

  -- the first of some expressions, and all of them
  pub record PartsAgain (es : Trees) (here rest : List Token) : Type 0 where
    pub first : Tree
    pub behind_first : List Token
    pub reads : sub.expression here ≡ Ok (first, behind_first)
    pub is_no_brace : behind mark.OpenBrace behind_first ≡ None
    pub all : parts_of sub first behind_first ≡ Ok (es, rest)

  pub parts_again : (es : Trees) (here us rest : List Token) → AllSpan end es here us → IsMark mark.CloseBrace us rest → trees_height es ≤ room → PartsAgain es here rest
  unfolding AllSpan trees_height parts_of
  parts_again none here us rest p q h = absurd p
  parts_again (more e es) here us rest (vs, s, o) q h = record {
    first = e;
    behind_first = vs;
    reads = ih.expression e here vs s (omega arith) (others_end es end vs us rest o q).0;
    is_no_brace = (others_end es end vs us rest o q).1;
    all = rw (others_again es (length vs) vs us rest o q (omega arith) (omega arith)) refl;
  }

  concatenation_again : (at : ℕ) (es : Trees) (us rest : List Token) → PartsAgain es us rest → (sub.expression us >>= λ e. inside_of at sub e.0 e.1) ≡ Ok (Concatenation at es, rest)
  unfolding inside_of concatenation_of
  concatenation_again at es us rest a = rw (a.reads, a.is_no_brace, a.all) refl

  replication_again : (at : ℕ) (c : Tree) (es : Trees) (ws ys rest : List Token) → PartsAgain es ws ys → IsMark mark.CloseBrace ys rest → replication_of at sub c ws ≡ Ok (Replication at c es, rest)
  unfolding replication_of
  replication_again at c es ws ys rest a q = rw (a.reads, a.all, after_mark mark.CloseBrace ys rest q) refl

  pub counted_again : (at : ℕ) (c : Tree) (us vs ws : List Token) → Spans end c us vs → height c ≤ room → IsMark mark.OpenBrace vs ws
      → (sub.expression us >>= λ e. inside_of at sub e.0 e.1) ≡ replication_of at sub c ws
  unfolding inside_of
  counted_again at c us vs ws s h p = rw (ih.expression c us vs s h (ends mark.OpenBrace vs ws p refl), behind_mark mark.OpenBrace vs ws p) refl

  pub braced_again : (us : List Token) → 1 ≤ room → unary_of end room sub (token.Mark mark.OpenBrace ∷ us)
      ≡ (sub.expression us >>= λ e. inside_of (place end (token.Mark mark.OpenBrace ∷ us)) sub e.0 e.1)
  unfolding unary_of primary_of braced_of
  braced_again us h = rw (down_some room sub (token.Mark mark.OpenBrace ∷ us) h) refl

  -- what ends with a token of its own
  abbrev pub IsClosed : Tree → Type 0
  IsClosed (Number at ds) = Unit {0}
  IsClosed (Bracketed at e) = Unit {0}
  IsClosed (Concatenation at es) = Unit {0}
  IsClosed (Replication at e es) = Unit {0}
  IsClosed (Named at name s) = ⊥
  IsClosed (Unary at op e) = ⊥
  IsClosed (Binary op l r) = ⊥
  IsClosed (Conditional c a b) = ⊥

  pub closed_again : (e : Tree) (here rest : List Token) → IsClosed e → Spans end e here rest → height e ≤ room + 1 → unary_of end room sub here ≡ Ok (e, rest)
  unfolding Spans height unary_of primary_of bracketed_of
  closed_again (Number at ds) here rest c (a, p) h = rw (a, p) refl
  closed_again (Bracketed at e) here rest c (us, vs, a, p, s, q) h =
      rw (
        a,
        p,
        down_some room sub (token.Mark mark.OpenParenthesis ∷ us) (omega (arith, height_positive e)),
        ih.expression e us vs s (omega arith) (ends mark.CloseParenthesis vs rest q refl),
        after_mark mark.CloseParenthesis vs rest q,
      ) refl
  closed_again (Concatenation at es) here rest c (us, vs, a, p, s, q) h =
      rw (a, p) (braced_again us (omega (arith, all_positive es end us vs s)) ∙ concatenation_again (place end (token.Mark mark.OpenBrace ∷ us)) es us rest (parts_again es us vs rest s q (omega arith)))
  closed_again (Replication at e es) here rest c (us, vs, ws, xs, ys, a, p, s, q, t, u, v) h =
      rw (a, p) (braced_again us (omega (arith, height_positive e)) ∙ counted_again (place end (token.Mark mark.OpenBrace ∷ us)) e us vs ws s (omega arith) q
      ∙ replication_again (place end (token.Mark mark.OpenBrace ∷ us)) e es ws ys rest (parts_again es ws xs ys t u (omega arith)) v)
  closed_again (Named at name s) here rest c d h = absurd c
  closed_again (Unary at op e) here rest c d h = absurd c
  closed_again (Binary op l r) here rest c d h = absurd c
  closed_again (Conditional x a b) here rest c d h = absurd c

  pub named_again : (name : List ℕ) (us : List Token) → unary_of end room sub (token.Name name ∷ us)
      ≡ (selects_of end room sub us >>= λ x. Ok (Named (place end (token.Name name ∷ us)) name x.0, x.1))
  unfolding unary_of primary_of named_of
  named_again name us = refl

  pub prefixed_again : (op : UnaryOperator) (m : Mark) (us : List Token) → unary_operator m ≡ Some op → 1 ≤ room
      → unary_of end room sub (token.Mark m ∷ us) ≡ (sub.unary us >>= λ e. Ok (Unary (place end (token.Mark m ∷ us)) op e.0, e.1))
  unfolding unary_of prefixed_of
  prefixed_again op m us o h = rw (o, down_some room sub (token.Mark m ∷ us) h) refl

  pub unary_again : (e : Tree) (here rest : List Token) → Spans end e here rest → 12 ≤ level e → height e ≤ room + 1 → follow rest < 13 → unary_of end room sub here ≡ Ok (e, rest)
  unfolding Spans height level
  unary_again (Number at ds) here rest d b h f = closed_again (Number at ds) here rest tt d h
  unary_again (Bracketed at e) here rest d b h f = closed_again (Bracketed at e) here rest tt d h
  unary_again (Concatenation at es) here rest d b h f = closed_again (Concatenation at es) here rest tt d h
  unary_again (Replication at e es) here rest d b h f = closed_again (Replication at e es) here rest tt d h
  unary_again (Named at name s) here rest (us, a, p, q) b h f = rw (a, p) (named_again name us ∙ rw (selects_again s us rest q h f) refl)
  unary_again (Unary at op e) here rest (us, a, (m, p, o), s, b) c h f =
      rw (a, p) (prefixed_again op m us o (omega (arith, height_positive e)) ∙ rw (ih.unary e us rest s b (omega arith) f) refl)
  unary_again (Binary op l r) here rest d b h f = absurd (omega (arith, level_below_12 op))
  unary_again (Conditional c x y) here rest d b h f = absurd (omega arith)

  steps_stop : (min n : ℕ) (e : Tree) (rest : List Token) → front rest < min → steps_of room sub min n e rest ≡ Ok (e, rest)
  unfolding steps_of
  steps_stop min zero e rest f = refl
  steps_stop min (suc n) e [] f = refl
  steps_stop min (suc n) e (t ∷ ts) f = go (infix_of t) refl
    where
      go : (o : Option BinaryOperator) → infix_of t ≡ o → step_by room sub (steps_of room sub min n) e t ts (from_level min o) ≡ Ok (e, t ∷ ts)
      go None q = refl
      go (Some op) q = rw (from_level_none min op (let g : front (t ∷ ts) ≡ level_of op = ap level_or_zero q in omega arith)) refl

  -- one operator of the loop
  pub operand_next : (min n : ℕ) (op : BinaryOperator) (l : Tree) (us vs : List Token) → IsBinary op us vs → min ≤ level_of op → height l ≤ room
      → steps_of room sub min (suc n) l us ≡ ((sub.climb (level_of op + 1) vs >>= with_operand op l) >>= λ x. steps_of room sub min n x.0 x.1)
  unfolding steps_of operand_of
  operand_next min n op l us vs (m, p, o) b h = rw (p, o, from_level_some min op b, down_fits room sub l (token.Mark m ∷ vs) h) refl

  pub record Reached (min : ℕ) (e : Tree) (here rest : List Token) : Type 0 where
    pub left : ℕ
    pub enough : length rest ≤ left
    pub reads : climb_of end room sub min here ≡ steps_of room sub min left e rest

  reached_first : (min : ℕ) (e : Tree) (here rest : List Token) → Spans end e here rest → 12 ≤ level e → height e ≤ room + 1 → follow rest < 13 → Reached min e here rest
  unfolding climb_of
  reached_first min e here rest d b h f = record { left = length rest; enough = omega arith; reads = rw (unary_again e here rest d b h f) refl }

  infix_fronts : (op : BinaryOperator) (us vs : List Token) → IsBinary op us vs → (front us ≡ level_of op) × (follow us ≡ level_of op)
  infix_fronts op us vs (m, p, o) = (ap front p ∙ ap level_or_zero o, ap follow p ∙ follow_infix m op o)

  pub climb_again : (min : ℕ) (e : Tree) (here rest : List Token) → Spans end e here rest → 2 ≤ level e → min ≤ level e → height e ≤ room + 1 → front rest ≤ level e → follow rest < 13
      → Reached min e here rest
  unfolding Spans height level
  climb_again min (Number at ds) here rest d b m h f g = reached_first min (Number at ds) here rest d (omega arith) h g
  climb_again min (Named at name s) here rest d b m h f g = reached_first min (Named at name s) here rest d (omega arith) h g
  climb_again min (Bracketed at e) here rest d b m h f g = reached_first min (Bracketed at e) here rest d (omega arith) h g
  climb_again min (Unary at op e) here rest d b m h f g = reached_first min (Unary at op e) here rest d (omega arith) h g
  climb_again min (Concatenation at es) here rest d b m h f g = reached_first min (Concatenation at es) here rest d (omega arith) h g
  climb_again min (Replication at e es) here rest d b m h f g = reached_first min (Replication at e es) here rest d (omega arith) h g
  climb_again min (Conditional c x y) here rest d b m h f g = absurd (omega arith)
  climb_again min (Binary op l r) here rest (us, vs, s, p, t, bl, br) b m h f g =
      let i = infix_fronts op us vs p in
      go (climb_again min l here us s (omega arith) (omega arith) (omega arith) (omega (arith, i.0)) (omega (arith, i.1, level_below_12 op)))
    where
      go : Reached min l here us → Reached min (Binary op l r) here rest
      go x = from x.left refl
        where
          from : (k : ℕ) → x.left ≡ k → Reached min (Binary op l r) here rest
          from zero q = absurd (let e : length us ≡ suc (length vs) = ap length p.1 in omega (arith, x.enough))
          from (suc n) q = record {
            left = n;
            enough = let e : length us ≡ suc (length vs) = ap length p.1 in omega (arith, x.enough, spans_shrink r end vs rest t);
            reads = x.reads ∙ ap (λ k. steps_of room sub min k l us) q ∙ operand_next min n op l us vs p m (omega arith)
                ∙ rw (ih.climb (level_of op + 1) r vs rest t (omega arith) (omega arith) (omega arith) (omega arith) g) refl;
          }

  pub climb_whole : (min : ℕ) (e : Tree) (here rest : List Token) → Spans end e here rest → 2 ≤ level e → min ≤ level e → height e ≤ room + 1 → front rest < min → follow rest < 13
      → climb_of end room sub min here ≡ Ok (e, rest)
  climb_whole min e here rest d b m h f g = let x = climb_again min e here rest d b m h (omega arith) g in x.reads ∙ steps_stop min x.left e rest f

  plain_again : (e : Tree) (here rest : List Token) → Spans end e here rest → 2 ≤ level e → height e ≤ room + 1 → follow rest < 1 → whole_of end room sub here ≡ Ok (e, rest)
  unfolding whole_of choose_of
  plain_again e here rest d b h f = rw (climb_whole 2 e here rest d b b h (omega (arith, front_follow rest)) (omega arith), no_question rest f) refl

  -- behind the condition and its mark
  pub branches_next : (c : Tree) (here us vs : List Token) → Spans end c here us → IsMark mark.Question us vs → 2 ≤ level c → height c ≤ room
      → whole_of end room sub here ≡ (sub.expression vs >>= second sub c)
  unfolding whole_of choose_of branches_of
  branches_next c here us vs d p b h =
      let f : follow us ≡ 1 = ap follow p in let g : front us ≡ 0 = ap front p in
      rw (climb_whole 2 c here us d b b (omega arith) (omega arith) (omega arith), behind_mark mark.Question us vs p, down_fits room sub c us h) refl

  pub whole_again : (e : Tree) (here rest : List Token) → Spans end e here rest → height e ≤ room + 1 → follow rest < 1 → whole_of end room sub here ≡ Ok (e, rest)
  unfolding Spans height level
  whole_again (Number at ds) here rest d h f = plain_again (Number at ds) here rest d (omega arith) h f
  whole_again (Named at name s) here rest d h f = plain_again (Named at name s) here rest d (omega arith) h f
  whole_again (Bracketed at e) here rest d h f = plain_again (Bracketed at e) here rest d (omega arith) h f
  whole_again (Unary at op e) here rest d h f = plain_again (Unary at op e) here rest d (omega arith) h f
  whole_again (Concatenation at es) here rest d h f = plain_again (Concatenation at es) here rest d (omega arith) h f
  whole_again (Replication at e es) here rest d h f = plain_again (Replication at e es) here rest d (omega arith) h f
  whole_again (Binary op l r) here rest d h f = plain_again (Binary op l r) here rest d (level_from_2 op) h f
  whole_again (Conditional c x y) here rest (us, vs, ws, xs, s, p, t, q, u, b) h f =
      branches_next c here us vs s p b (omega arith)
      ∙ rw (ih.expression x vs ws t (omega arith) (ends mark.Colon ws xs q refl), after_mark mark.Colon ws xs q, ih.expression y xs rest u (omega arith) f) refl

  -- ---- targets

  other_targets_end : (ts : TargetTrees) (here us rest : List Token) → OtherTargetsSpan end ts here us → IsMark mark.CloseBrace us rest → follow here < 1
  unfolding OtherTargetsSpan
  other_targets_end no_target here us rest p q = ends mark.CloseBrace here rest (p ∙ q) refl
  other_targets_end (more_targets t ts) here us rest (vs, ws, p, s, o) q = ends mark.Comma here vs p refl

  pub other_targets_again : (ts : TargetTrees) (n : ℕ) (here us rest : List Token) → OtherTargetsSpan end ts here us → IsMark mark.CloseBrace us rest → targets_height ts ≤ room → length here ≤ n
      → other_targets_of sub n here ≡ Ok (ts, rest)
  unfolding OtherTargetsSpan targets_height other_targets_of
  other_targets_again no_target zero here us rest p q h l = absurd (let e : length here ≡ suc (length rest) = ap length (p ∙ q) in omega arith)
  other_targets_again no_target (suc n) here us rest p q h l = rw (behind_mark mark.CloseBrace here rest (p ∙ q)) refl
  other_targets_again (more_targets t ts) zero here us rest (vs, ws, p, s, o) q h l = absurd (let g : length here ≡ suc (length vs) = ap length p in omega arith)
  other_targets_again (more_targets t ts) (suc n) here us rest (vs, ws, p, s, o) q h l =
      let g : length here ≡ suc (length vs) = ap length p in
      rw (
        behind_other mark.Comma mark.CloseBrace here vs p refl,
        after_mark mark.Comma here vs p,
        ih.target t vs ws s (omega arith) (omega (arith, other_targets_end ts ws us rest o q)),
        other_targets_again ts n ws us rest o q (omega arith) (omega (arith, target_shrinks t end vs ws s)),
      ) refl

  pub joined_next : (us : List Token) → 1 ≤ room → any_target_of end room sub (token.Mark mark.OpenBrace ∷ us)
      ≡ (sub.target us >>= λ t. target_parts_of sub t.0 t.1 >>= with_targets (place end (token.Mark mark.OpenBrace ∷ us)))
  unfolding any_target_of joined_of
  joined_next us h = rw (down_some room sub (token.Mark mark.OpenBrace ∷ us) h) refl

  pub named_target_next : (name : List ℕ) (us : List Token) → any_target_of end room sub (token.Name name ∷ us)
      ≡ (selects_of end room sub us >>= λ x. Ok (NamedTarget (place end (token.Name name ∷ us)) name x.0, x.1))
  unfolding any_target_of named_target_of
  named_target_next name us = refl

  joined_parts : (at : ℕ) (ts : TargetTrees) (us vs rest : List Token) → TargetsSpan end ts us vs → IsMark mark.CloseBrace vs rest → targets_height ts ≤ room
      → (sub.target us >>= λ t. target_parts_of sub t.0 t.1 >>= with_targets at) ≡ Ok (JoinedTarget at ts, rest)
  unfolding TargetsSpan targets_height target_parts_of
  joined_parts at no_target us vs rest p q h = absurd p
  joined_parts at (more_targets t ts) us vs rest (ws, s, o) q h =
      rw (ih.target t us ws s (omega arith) (omega (arith, other_targets_end ts ws vs rest o q)), other_targets_again ts (length ws) ws vs rest o q (omega arith) (omega arith)) refl

  pub joined_again : (at : ℕ) (ts : TargetTrees) (here rest : List Token) → TargetSpans end (JoinedTarget at ts) here rest → target_height (JoinedTarget at ts) ≤ room + 1
      → any_target_of end room sub here ≡ Ok (JoinedTarget at ts, rest)
  unfolding TargetSpans target_height
  joined_again at ts here rest (us, vs, a, p, s, q) h =
      rw (a, p) (joined_next us (omega (arith, targets_positive ts end us vs s)) ∙ joined_parts (place end (token.Mark mark.OpenBrace ∷ us)) ts us vs rest s q (omega arith))

  pub any_target_again : (t : TargetTree) (here rest : List Token) → TargetSpans end t here rest → target_height t ≤ room + 1 → follow rest < 13 → any_target_of end room sub here ≡ Ok (t, rest)
  unfolding TargetSpans target_height
  any_target_again (NamedTarget at name s) here rest (us, a, p, q) h f = rw (a, p) (named_target_next name us ∙ rw (selects_again s us rest q h f) refl)
  any_target_again (JoinedTarget at ts) here rest d h f = joined_again at ts here rest d h

pub below_again : (end room : ℕ) → ReadAgain end room (below end room)
unfolding below
below_again end zero = record {
  expression = λ e here rest d h f. absurd (omega (arith, height_positive e));
  climb = λ min e here rest d b m h f g. absurd (omega (arith, height_positive e));
  unary = λ e here rest d b h f. absurd (omega (arith, height_positive e));
  target = λ t here rest d h f. absurd (omega (arith, target_height_positive t));
}
below_again end (suc k) = record {
  expression = λ e here rest d h f. whole_again end k (below end k) (below_again end k) e here rest d (omega arith) f;
  climb = λ min e here rest d b m h f g. climb_whole end k (below end k) (below_again end k) min e here rest d b m (omega arith) f g;
  unary = λ e here rest d b h f. unary_again end k (below end k) (below_again end k) e here rest d b (omega arith) f;
  target = λ t here rest d h f. any_target_again end k (below end k) (below_again end k) t here rest d (omega arith) f;
}

pub expression_is_again : (end room : ℕ) (e : Tree) (here rest : List Token) → Spans end e here rest → height e ≤ room + 1 → follow rest < 1
    → whole_of end room (below end room) here ≡ Ok (e, rest)
expression_is_again end room e here rest d h f = whole_again end room (below end room) (below_again end room) e here rest d h f

pub target_is_again : (end room : ℕ) (t : TargetTree) (here rest : List Token) → TargetSpans end t here rest → target_height t ≤ room + 1 → follow rest < 13
    → any_target_of end room (below end room) here ≡ Ok (t, rest)
target_is_again end room t here rest d h f = any_target_again end room (below end room) (below_again end room) t here rest d h f
