-- No reader stops inside of what a partial tree spells, if the tree fits the height.
use Rattle.std.proofs.Common.{◌≡◌, ℕ, zero, suc, ◌+◌, ◌≤◌, List, ◌∷◌, length, Ok, refl, ap, ◌∙◌, arith}
use Rattle.v_syntax.specs.declared.token.Token.{Token}
use Rattle.v_syntax.specs.declared.token.Token.TheVariants as token
use Rattle.v_syntax.specs.declared.mark.Mark.TheVariants as mark
use Rattle.v_syntax.specs.declared.expression.UnaryOperator.{UnaryOperator}
use Rattle.v_syntax.specs.declared.expression.BinaryOperator.{BinaryOperator}
use Rattle.v_syntax.specs.ExpressionTrees.{Tree, Number, Named, Bracketed, Unary, Binary, Conditional, Concatenation, Replication, Trees, none, more, SelectsTree, Whole, One, OfWord, Bit, TargetTree, NamedTarget, JoinedTarget, TargetTrees, no_target, more_targets, height, selects_height, select_height, trees_height, target_height, targets_height}
use Rattle.v_syntax.specs.ExpressionOperators.{level_of, level}
use Rattle.v_syntax.specs.ExpressionSpans.{IsMark, IsUnary, IsBinary, place, Spans, SelectsSpan, SelectSpans, AllSpan, TargetSpans}
use Rattle.v_syntax.specs.ExpressionFronts.{ItemsSpan, TargetItemsSpan, WordSpans, NoWord, Word, BoundSpans, NoBound, Left, Base, Begins, Missing, Entire, CutFirst, CutBracketed, CutUnary, CutBinary, CutConditional, CutChoice, CutSelect, CutConcatenation, CutReplication, OpenReplication, TargetBegins, MissingTarget, EntireTarget, CutTargetSelect, CutJoinedTarget}
use Rattle.v_expression.specs.Phrase.Stops.{◌>>=◌}
use Rattle.v_expression.specs.Reading.{Readers, last_of, part, indexed_part, range_of, bound_of, select_of, of_word, further_of, selects_of, bracketed_of, and_first, others_of, parts_of, replication_of, concatenation_of, inside_of, primary_of, unary_of, steps_of, climb_of, whole_of, and_first_target, other_targets_of, target_parts_of, any_target_of, below}
use Rattle.v_expression.specs.Follows.{level_or_zero, follow}
use Rattle.v_expression.proofs.Room.{down_some}
use Rattle.v_expression.proofs.PhraseLemmas.Marks.{after_mark, behind_mark, behind_other}
use Rattle.v_expression.proofs.Basics.{level_from_2, level_below_12, front, height_positive, target_height_positive, spans_shrink, target_shrinks}
use Rattle.v_expression.proofs.PhraseLemmas.Passes.{Passes, passes_more, passes_then}
use Rattle.v_expression.proofs.Forward.{passes_after, GoForward, bound_pass, further_pass, selects_pass, others_pass, parts_pass, inside_pass, unary_forward, steps_pass, climb_forward, choose_pass, whole_forward, expression_pass, other_targets_pass, target_parts_pass, any_target_forward, below_forward}
use Rattle.v_expression.proofs.Again.{follow_infix, ends, ReadAgain, with_operand, with_targets, second, third, first_again, word_again, parts_again, counted_again, braced_again, closed_again, named_again, prefixed_again, operand_next, Reached, climb_again, branches_next, joined_next, named_target_next, joined_again, below_again}

pub begins_positive : (end m k : ℕ) (here rest : List Token) → Begins end m k here rest → 1 ≤ m
begins_positive end m k here rest (Missing p e) = p
begins_positive end m k here rest (Entire e s f b) = omega (arith, height_positive e)
begins_positive end m k here rest (CutFirst j i l b q) = omega arith
begins_positive end m k here rest (CutBracketed j us l p q) = omega arith
begins_positive end m k here rest (CutUnary j us op l p q) = omega arith
begins_positive end m k here rest (CutBinary j us vs op x l s f b p c q) = omega arith
begins_positive end m k here rest (CutConditional j us vs c l s f b p d q) = omega arith
begins_positive end m k here rest (CutChoice j us vs ws xs c a l s f b p t g r d q) = omega arith
begins_positive end m k here rest (CutSelect j us vs ws name l p w b q) = omega arith
begins_positive end m k here rest (CutConcatenation j us vs es l p i f q) = omega arith
begins_positive end m k here rest (CutReplication j us vs ws xs c es l p s f r i g q) = omega arith
begins_positive end m k here rest (OpenReplication j us vs ws xs c es l p s f r i g q) = omega arith

pub target_begins_positive : (end m : ℕ) (here rest : List Token) → TargetBegins end m here rest → 1 ≤ m
target_begins_positive end m here rest (MissingTarget p e) = p
target_begins_positive end m here rest (EntireTarget t s f) = omega (arith, target_height_positive t)
target_begins_positive end m here rest (CutTargetSelect j us vs ws name l p w b q) = omega arith
target_begins_positive end m here rest (CutJoinedTarget j us vs ts l p i f q) = omega arith

-- the readers for heights up to n
pub record ReachEnds (end n : ℕ) (sub : Readers) : Type 0 where
  pub expression : (m k : ℕ) (here rest : List Token) → Begins end m k here rest → m ≤ n → Passes (length rest) (sub.expression here)
  pub climb : (min m k : ℕ) (here rest : List Token) → Begins end m k here rest → 2 ≤ k → min ≤ k → m ≤ n → Passes (length rest) (sub.climb min here)
  pub unary : (m k : ℕ) (here rest : List Token) → Begins end m k here rest → 12 ≤ k → m ≤ n → Passes (length rest) (sub.unary here)
  pub target : (m : ℕ) (here rest : List Token) → TargetBegins end m here rest → m ≤ n → Passes (length rest) (sub.target here)

module _ (end room : ℕ) (sub : Readers) (fw : GoForward sub) (again : ReadAgain end room sub) (ih : ReachEnds end room sub) where
  -- ---- selects

  last_far : (m : ℕ) (here rest : List Token) → Begins end m 1 here rest → m ≤ room → Passes (length rest) (last_of sub here)
  unfolding last_of
  last_far m here rest q h = passes_then (length rest) _ (λ e r k. passes_after (length rest) mark.CloseBracket (λ z. Ok (e, z)) r k (λ z l. l)) (sub.expression here) (ih.expression m 1 here rest q h)

  select_far : (m : ℕ) (here us rest : List Token) → BoundSpans end m here us → Begins end m 1 us rest → m ≤ room
      → (vs : List Token) × IsMark mark.OpenBracket here vs × Passes (length rest) (select_of end room sub here vs)
  unfolding select_of bound_of range_of
  select_far m here us rest (NoBound p) q h = (
    us,
    p,
    rw (down_some room sub here (omega (arith, begins_positive end m 1 us rest q)))
        (passes_then (length rest) _ (λ e r l. bound_pass end room sub fw (length rest) (place end here) e r l) (sub.expression us) (ih.expression m 1 us rest q h)),
  )
  select_far m here us rest (Left vs ws e p s f c) q h = (
    vs,
    p,
    rw (
      down_some room sub here (omega (arith, begins_positive end m 1 us rest q)),
      again.expression e vs ws s (omega arith) (ends mark.Colon ws us c refl),
      behind_other mark.Colon mark.CloseBracket ws us c refl,
      behind_mark mark.Colon ws us c,
    )
        (passes_then (length rest) (part (place end here) e) (λ x r l. l) (last_of sub us) (last_far m us rest q h)),
  )
  select_far m here us rest (Base vs ws e p s f c) q h = (
    vs,
    p,
    rw (
      down_some room sub here (omega (arith, begins_positive end m 1 us rest q)),
      again.expression e vs ws s (omega arith) (ends mark.PlusColon ws us c refl),
      behind_other mark.PlusColon mark.CloseBracket ws us c refl,
      behind_other mark.PlusColon mark.Colon ws us c refl,
      after_mark mark.PlusColon ws us c,
    )
        (passes_then (length rest) (indexed_part (place end here) e) (λ x r l. l) (last_of sub us) (last_far m us rest q h)),
  )

  selects_far : (m : ℕ) (here us vs rest : List Token) → WordSpans end m here us → BoundSpans end m us vs → Begins end m 1 vs rest → m ≤ room → Passes (length rest) (selects_of end room sub here)
  unfolding selects_of further_of SelectSpans select_height
  selects_far m here us vs rest (NoWord e) b q h = let x = select_far m us vs rest b q h in
      rw (e, behind_mark mark.OpenBracket us x.0 x.1) (passes_then (length rest) _ (λ s r l. further_pass end room sub fw (length rest) s r l) (select_of end room sub us x.0) x.2)
  selects_far m here us vs rest (Word ws xs e p s f c) b q h = let x = select_far m us vs rest b q h in
      rw (first_again end room sub again (Bit (place end here) e) here us (ws, xs, refl, p, s, c) (omega arith), behind_mark mark.OpenBracket us x.0 x.1)
      (passes_then (length rest) (of_word (place end here) e) (λ y r l. l) (select_of end room sub us x.0) x.2)

  selects_entire : (s : SelectsTree) (here rest : List Token) → SelectsSpan end s here rest → selects_height s ≤ room + 1 → Passes (length rest) (selects_of end room sub here)
  unfolding SelectsSpan selects_height SelectSpans select_height
  selects_entire Whole here rest p h = selects_pass end room sub fw (length rest) here (let e : length here ≡ length rest = ap length p in omega arith)
  selects_entire (One s) here rest d h = rw (first_again end room sub again s here rest d (omega arith)) (further_pass end room sub fw (length rest) s rest (omega arith))
  selects_entire (OfWord at e s) here rest (us, vs, ws, a, p, t, q, u) h =
      rw (first_again end room sub again (Bit at e) here ws (us, vs, a, p, t, q) (omega arith), word_again end room sub again at e s ws rest u (omega arith)) (omega arith)

  -- ---- lists

  items_far : (es : Trees) (n m : ℕ) (ws xs vs rest : List Token) → IsMark mark.Comma ws xs → ItemsSpan end es xs vs → trees_height es ≤ room → Begins end m 1 vs rest → m ≤ room → length ws ≤ n
      → Passes (length rest) (others_of sub n ws)
  unfolding ItemsSpan trees_height others_of
  items_far none zero m ws xs vs rest p i f q h l = absurd (let e : length ws ≡ suc (length xs) = ap length p in omega arith)
  items_far none (suc n) m ws xs vs rest p i f q h l = rw (behind_other mark.Comma mark.CloseBrace ws xs p refl, after_mark mark.Comma ws xs p, i)
      (passes_then (length rest) _ (λ e r j. passes_then (length rest) (and_first e) (λ es z k. k) (others_of sub n r) (others_pass end room sub fw (length rest) n r j)) (sub.expression vs) (ih.expression m 1 vs rest q h))
  items_far (more e es) zero m ws xs vs rest p i f q h l = absurd (let g : length ws ≡ suc (length xs) = ap length p in omega arith)
  items_far (more e es) (suc n) m ws xs vs rest p (ys, zs, s, c, i) f q h l =
      let g : length ws ≡ suc (length xs) = ap length p in
      rw (behind_other mark.Comma mark.CloseBrace ws xs p refl, after_mark mark.Comma ws xs p, again.expression e xs ys s (omega arith) (ends mark.Comma ys zs c refl))
      (passes_then (length rest) (and_first e) (λ es z k. k) (others_of sub n ys) (items_far es n m ys zs vs rest c i (omega arith) q h (omega (arith, spans_shrink e end xs ys s))))

  parts_far : (e : Tree) (es : Trees) (m : ℕ) (ws xs vs rest : List Token) → IsMark mark.Comma ws xs → ItemsSpan end es xs vs → trees_height es ≤ room → Begins end m 1 vs rest → m ≤ room
      → Passes (length rest) (parts_of sub e ws)
  unfolding parts_of
  parts_far e es m ws xs vs rest p i f q h = passes_then (length rest) (and_first e) (λ d z k. k) (others_of sub (length ws) ws) (items_far es (length ws) m ws xs vs rest p i f q h (omega arith))

  concatenation_far : (at : ℕ) (es : Trees) (m : ℕ) (us vs rest : List Token) → ItemsSpan end es us vs → trees_height es ≤ room → Begins end m 1 vs rest → m ≤ room
      → Passes (length rest) (sub.expression us >>= λ e. inside_of at sub e.0 e.1)
  unfolding ItemsSpan trees_height inside_of concatenation_of
  concatenation_far at none m us vs rest i f q h = rw i (passes_then (length rest) _ (λ e r l. inside_pass end room sub fw (length rest) at e r l) (sub.expression vs) (ih.expression m 1 vs rest q h))
  concatenation_far at (more e es) m us vs rest (ws, xs, s, c, i) f q h =
      rw (again.expression e us ws s (omega arith) (ends mark.Comma ws xs c refl), behind_other mark.Comma mark.OpenBrace ws xs c refl)
      (passes_then (length rest) _ (λ d z k. k) (parts_of sub e ws) (parts_far e es m ws xs vs rest c i (omega arith) q h))

  replication_far : (at : ℕ) (c : Tree) (es : Trees) (m : ℕ) (us vs rest : List Token) → ItemsSpan end es us vs → trees_height es ≤ room → Begins end m 1 vs rest → m ≤ room
      → Passes (length rest) (replication_of at sub c us)
  unfolding ItemsSpan trees_height replication_of
  replication_far at c none m us vs rest i f q h = rw i (passes_then (length rest) _
      (λ e r l. passes_then (length rest) _ (λ es z k. passes_after (length rest) mark.CloseBrace (λ y. Ok (Replication at c es, y)) z k (λ y j. j)) (parts_of sub e r) (parts_pass end room sub fw (length rest) e r l))
      (sub.expression vs) (ih.expression m 1 vs rest q h))
  replication_far at c (more e es) m us vs rest (ws, xs, s, p, i) f q h =
      rw (again.expression e us ws s (omega arith) (ends mark.Comma ws xs p refl))
      (passes_then (length rest) _ (λ ds z k. passes_after (length rest) mark.CloseBrace (λ y. Ok (Replication at c ds, y)) z k (λ y j. j)) (parts_of sub e ws) (parts_far e es m ws xs vs rest p i (omega arith) q h))

  open_far : (at : ℕ) (c : Tree) (es : Trees) (us xs rest : List Token) → AllSpan end es us xs → trees_height es ≤ room → IsMark mark.CloseBrace xs rest → Passes (length rest) (replication_of at sub c us)
  unfolding replication_of
  open_far at c es us xs rest i f q = let a = parts_again end room sub again es us xs rest i q f in
      rw (a.reads, a.all) (passes_after (length rest) mark.CloseBrace (λ y. Ok (Replication at c es, y)) rest (omega arith) (λ y j. j))

  -- ---- the parts of an expression without a binary operator

  bracketed_far : (m : ℕ) (here us rest : List Token) → IsMark mark.OpenParenthesis here us → Begins end m 1 us rest → m ≤ room → Passes (length rest) (unary_of end room sub here)
  unfolding unary_of primary_of bracketed_of
  bracketed_far m here us rest p q h = rw (p, down_some room sub (token.Mark mark.OpenParenthesis ∷ us) (omega (arith, begins_positive end m 1 us rest q)))
      (passes_then (length rest) _ (λ e r l. passes_after (length rest) mark.CloseParenthesis (λ z. Ok (Bracketed (place end (token.Mark mark.OpenParenthesis ∷ us)) e, z)) r l (λ z i. i)) (sub.expression us) (ih.expression m 1 us rest q h))

  prefixed_far : (op : UnaryOperator) (m k : ℕ) (here us rest : List Token) → IsUnary op here us → Begins end m k us rest → 12 ≤ k → m ≤ room → Passes (length rest) (unary_of end room sub here)
  prefixed_far op m k here us rest (c, p, o) q b h = rw (p, prefixed_again end room sub again op c us o (omega (arith, begins_positive end m k us rest q)))
      (passes_then (length rest) _ (λ e r l. l) (sub.unary us) (ih.unary m k us rest q b h))

  named_far : (name : List ℕ) (here us rest : List Token) → here ≡ token.Name name ∷ us → Passes (length rest) (selects_of end room sub us) → Passes (length rest) (unary_of end room sub here)
  named_far name here us rest p h = rw (p, named_again end room sub again name us) (passes_then (length rest) _ (λ s r l. l) (selects_of end room sub us) h)

  braced_far : (here us rest : List Token) → IsMark mark.OpenBrace here us → 1 ≤ room
      → Passes (length rest) (sub.expression us >>= λ e. inside_of (place end (token.Mark mark.OpenBrace ∷ us)) sub e.0 e.1) → Passes (length rest) (unary_of end room sub here)
  braced_far here us rest p l h = rw (p, braced_again end room sub again us l) h

  counted_far : (here us vs ws rest : List Token) (c : Tree) → IsMark mark.OpenBrace here us → Spans end c us vs → height c ≤ room → IsMark mark.OpenBrace vs ws
      → Passes (length rest) (replication_of (place end (token.Mark mark.OpenBrace ∷ us)) sub c ws) → Passes (length rest) (unary_of end room sub here)
  counted_far here us vs ws rest c p s f r h =
      braced_far here us rest p (omega (arith, height_positive c)) (rw (counted_again end room sub again (place end (token.Mark mark.OpenBrace ∷ us)) c us vs ws s f r) h)

  unary_entire : (e : Tree) (here rest : List Token) → Spans end e here rest → 12 ≤ level e → height e ≤ room + 1 → Passes (length rest) (unary_of end room sub here)
  unfolding Spans level height
  unary_entire (Number at ds) here rest d b h = rw (closed_again end room sub again (Number at ds) here rest tt d h) (omega arith)
  unary_entire (Bracketed at e) here rest d b h = rw (closed_again end room sub again (Bracketed at e) here rest tt d h) (omega arith)
  unary_entire (Concatenation at es) here rest d b h = rw (closed_again end room sub again (Concatenation at es) here rest tt d h) (omega arith)
  unary_entire (Replication at e es) here rest d b h = rw (closed_again end room sub again (Replication at e es) here rest tt d h) (omega arith)
  unary_entire (Named at name s) here rest (us, a, p, q) b h = named_far name here us rest p (selects_entire s us rest q h)
  unary_entire (Unary at op e) here rest (us, a, p, s, b) c h = prefixed_far op (height e) 12 here us rest p (Entire e s (omega arith) b) (omega arith) (omega arith)
  unary_entire (Binary op l r) here rest d b h = absurd (omega (arith, level_below_12 op))
  unary_entire (Conditional c x y) here rest d b h = absurd (omega arith)

  unary_far : (m k : ℕ) (here rest : List Token) → Begins end m k here rest → 12 ≤ k → m ≤ room + 1 → Passes (length rest) (unary_of end room sub here)
  unary_far m k here rest (Missing p e) b h = passes_more (length here) (length rest) _ (let l : length here ≡ length rest = ap length e in omega arith) (unary_forward end room sub fw here)
  unary_far m k here rest (Entire e s f c) b h = unary_entire e here rest s (omega arith) (omega arith)
  unary_far m k here rest (CutFirst j i l c q) b h = unary_far j i here rest q (omega arith) (omega arith)
  unary_far m k here rest (CutBracketed j us l p q) b h = bracketed_far j here us rest p q (omega arith)
  unary_far m k here rest (CutUnary j us op l p q) b h = prefixed_far op j 12 here us rest p q (omega arith) (omega arith)
  unary_far m k here rest (CutBinary j us vs op x l s f b2 p c q) b h = absurd (omega (arith, level_below_12 op))
  unary_far m k here rest (CutConditional j us vs x l s f b2 p d q) b h = absurd (omega arith)
  unary_far m k here rest (CutChoice j us vs ws xs x a l s f b2 p t g r d q) b h = absurd (omega arith)
  unary_far m k here rest (CutSelect j us vs ws name l p w c q) b h = named_far name here us rest p (selects_far j us vs ws rest w c q (omega arith))
  unary_far m k here rest (CutConcatenation j us vs es l p i f q) b h =
      braced_far here us rest p (omega (arith, begins_positive end j 1 vs rest q)) (concatenation_far (place end (token.Mark mark.OpenBrace ∷ us)) es j us vs rest i (omega arith) q (omega arith))
  unary_far m k here rest (CutReplication j us vs ws xs c es l p s f r i g q) b h =
      counted_far here us vs ws rest c p s (omega arith) r (replication_far (place end (token.Mark mark.OpenBrace ∷ us)) c es j ws xs rest i (omega arith) q (omega arith))
  unary_far m k here rest (OpenReplication j us vs ws xs c es l p s f r i g q) b h =
      counted_far here us vs ws rest c p s (omega arith) r (open_far (place end (token.Mark mark.OpenBrace ∷ us)) c es ws xs rest i (omega arith) q)

  -- ---- operators

  climb_first : (min : ℕ) (here rest : List Token) → Passes (length rest) (unary_of end room sub here) → Passes (length rest) (climb_of end room sub min here)
  unfolding climb_of
  climb_first min here rest h = passes_then (length rest) _ (λ e r k. steps_pass end room sub fw (length rest) min (length r) e r k) (unary_of end room sub here) h

  binary_far : (min : ℕ) (op : BinaryOperator) (l : Tree) (m k : ℕ) (here us vs rest : List Token) → Spans end l here us → height l ≤ room → level_of op ≤ level l → IsBinary op us vs → min ≤ level_of op
      → Begins end m k vs rest → level_of op + 1 ≤ k → m ≤ room → Passes (length rest) (climb_of end room sub min here)
  binary_far min op l m k here us vs rest s f b (c, p, o) le q bk h =
      go (climb_again end room sub again min l here us s (omega (arith, level_from_2 op)) (omega arith) (omega arith) (omega (arith, fronts.0)) (omega (arith, fronts.1, level_below_12 op)))
    where
      fronts : (front us ≡ level_of op) × (follow us ≡ level_of op)
      fronts = (ap front p ∙ ap level_or_zero o, ap follow p ∙ follow_infix c op o)

      go : Reached end room sub again min l here us → Passes (length rest) (climb_of end room sub min here)
      go x = rw x.reads (from x.left x.enough)
        where
          from : (n : ℕ) → length us ≤ n → Passes (length rest) (steps_of room sub min n l us)
          from zero e = absurd (let g : length us ≡ suc (length vs) = ap length p in omega arith)
          from (suc n) e = rw (operand_next end room sub again min n op l us vs (c, p, o) le f)
              (passes_then (length rest) _ (λ y r i. steps_pass end room sub fw (length rest) min n y r i) _
              (passes_then (length rest) (with_operand op l) (λ y r i. i) _ (ih.climb (level_of op + 1) m k vs rest q (omega (arith, level_from_2 op)) bk h)))

  climb_entire : (min : ℕ) (e : Tree) (here rest : List Token) → Spans end e here rest → 2 ≤ level e → min ≤ level e → height e ≤ room + 1 → Passes (length rest) (climb_of end room sub min here)
  unfolding Spans level height
  climb_entire min (Binary op l r) here rest (us, vs, s, p, t, bl, br) b m h =
      binary_far min op l (height r) (level r) here us vs rest s (omega arith) bl p m (Entire r t (omega arith) (omega arith)) (omega arith) (omega arith)
  climb_entire min (Conditional c x y) here rest d b m h = absurd (omega arith)
  climb_entire min (Number at ds) here rest d b m h = climb_first min here rest (unary_entire (Number at ds) here rest d (omega arith) h)
  climb_entire min (Named at name s) here rest d b m h = climb_first min here rest (unary_entire (Named at name s) here rest d (omega arith) h)
  climb_entire min (Bracketed at e) here rest d b m h = climb_first min here rest (unary_entire (Bracketed at e) here rest d (omega arith) h)
  climb_entire min (Unary at op e) here rest d b m h = climb_first min here rest (unary_entire (Unary at op e) here rest d (omega arith) h)
  climb_entire min (Concatenation at es) here rest d b m h = climb_first min here rest (unary_entire (Concatenation at es) here rest d (omega arith) h)
  climb_entire min (Replication at e es) here rest d b m h = climb_first min here rest (unary_entire (Replication at e es) here rest d (omega arith) h)

  climb_far : (min m k : ℕ) (here rest : List Token) → Begins end m k here rest → 2 ≤ k → min ≤ k → m ≤ room + 1 → Passes (length rest) (climb_of end room sub min here)
  climb_far min m k here rest (Missing p e) b c h = passes_more (length here) (length rest) _ (let l : length here ≡ length rest = ap length e in omega arith) (climb_forward end room sub fw min here)
  climb_far min m k here rest (Entire e s f d) b c h = climb_entire min e here rest s (omega arith) (omega arith) (omega arith)
  climb_far min m k here rest (CutFirst j i l d q) b c h = climb_far min j i here rest q (omega arith) (omega arith) (omega arith)
  climb_far min m k here rest (CutBinary j us vs op x l s f b2 p d q) b c h =
      binary_far min op x j (level_of op + 1) here us vs rest s (omega arith) b2 p (omega arith) q (omega arith) (omega arith)
  climb_far min m k here rest (CutConditional j us vs x l s f b2 p d q) b c h = absurd (omega arith)
  climb_far min m k here rest (CutChoice j us vs ws xs x a l s f b2 p t g r d q) b c h = absurd (omega arith)
  climb_far min m k here rest (CutBracketed j us l p q) b c h = climb_first min here rest (unary_far m 12 here rest (CutBracketed j us l p q) (omega arith) h)
  climb_far min m k here rest (CutUnary j us op l p q) b c h = climb_first min here rest (unary_far m 12 here rest (CutUnary j us op l p q) (omega arith) h)
  climb_far min m k here rest (CutSelect j us vs ws name l p w d q) b c h = climb_first min here rest (unary_far m 12 here rest (CutSelect j us vs ws name l p w d q) (omega arith) h)
  climb_far min m k here rest (CutConcatenation j us vs es l p i f q) b c h = climb_first min here rest (unary_far m 12 here rest (CutConcatenation j us vs es l p i f q) (omega arith) h)
  climb_far min m k here rest (CutReplication j us vs ws xs x es l p s f r i g q) b c h =
      climb_first min here rest (unary_far m 12 here rest (CutReplication j us vs ws xs x es l p s f r i g q) (omega arith) h)
  climb_far min m k here rest (OpenReplication j us vs ws xs x es l p s f r i g q) b c h =
      climb_first min here rest (unary_far m 12 here rest (OpenReplication j us vs ws xs x es l p s f r i g q) (omega arith) h)

  whole_first : (here rest : List Token) → Passes (length rest) (climb_of end room sub 2 here) → Passes (length rest) (whole_of end room sub here)
  unfolding whole_of
  whole_first here rest h = passes_then (length rest) _ (λ c r k. choose_pass end room sub fw (length rest) c r k) (climb_of end room sub 2 here) h

  second_far : (c : Tree) (m : ℕ) (here us vs rest : List Token) → Spans end c here us → height c ≤ room → 2 ≤ level c → IsMark mark.Question us vs → Begins end m 1 vs rest → m ≤ room
      → Passes (length rest) (whole_of end room sub here)
  second_far c m here us vs rest s f b p q h = rw (branches_next end room sub again c here us vs s p b f)
      (passes_then (length rest) (second sub c) (λ a r k. passes_after (length rest) mark.Colon _ r k
      (λ z i. passes_then (length rest) (third c a) (λ y w j. j) (sub.expression z) (expression_pass end room sub fw (length rest) z i))) _ (ih.expression m 1 vs rest q h))

  third_far : (c a : Tree) (m k : ℕ) (here us vs ws xs rest : List Token) → Spans end c here us → height c ≤ room → 2 ≤ level c → IsMark mark.Question us vs
      → Spans end a vs ws → height a ≤ room → IsMark mark.Colon ws xs → Begins end m k xs rest → m ≤ room → Passes (length rest) (whole_of end room sub here)
  third_far c a m k here us vs ws xs rest s f b p t g r q h =
      rw (branches_next end room sub again c here us vs s p b f, again.expression a vs ws t g (ends mark.Colon ws xs r refl), after_mark mark.Colon ws xs r)
      (passes_then (length rest) (third c a) (λ y w j. j) (sub.expression xs) (ih.expression m k xs rest q h))

  whole_entire : (e : Tree) (here rest : List Token) → Spans end e here rest → height e ≤ room + 1 → Passes (length rest) (whole_of end room sub here)
  unfolding Spans level height
  whole_entire (Conditional c x y) here rest (us, vs, ws, xs, s, p, t, q, u, b) h =
      third_far c x (height y) 0 here us vs ws xs rest s (omega arith) b p t (omega arith) q (Entire y u (omega arith) (omega arith)) (omega arith)
  whole_entire (Binary op l r) here rest d h = whole_first here rest (climb_entire 2 (Binary op l r) here rest d (level_from_2 op) (level_from_2 op) h)
  whole_entire (Number at ds) here rest d h = whole_first here rest (climb_entire 2 (Number at ds) here rest d (omega arith) (omega arith) h)
  whole_entire (Named at name s) here rest d h = whole_first here rest (climb_entire 2 (Named at name s) here rest d (omega arith) (omega arith) h)
  whole_entire (Bracketed at e) here rest d h = whole_first here rest (climb_entire 2 (Bracketed at e) here rest d (omega arith) (omega arith) h)
  whole_entire (Unary at op e) here rest d h = whole_first here rest (climb_entire 2 (Unary at op e) here rest d (omega arith) (omega arith) h)
  whole_entire (Concatenation at es) here rest d h = whole_first here rest (climb_entire 2 (Concatenation at es) here rest d (omega arith) (omega arith) h)
  whole_entire (Replication at e es) here rest d h = whole_first here rest (climb_entire 2 (Replication at e es) here rest d (omega arith) (omega arith) h)

  whole_far : (m k : ℕ) (here rest : List Token) → Begins end m k here rest → m ≤ room + 1 → Passes (length rest) (whole_of end room sub here)
  whole_far m k here rest (Missing p e) h = passes_more (length here) (length rest) _ (let l : length here ≡ length rest = ap length e in omega arith) (whole_forward end room sub fw here)
  whole_far m k here rest (Entire e s f d) h = whole_entire e here rest s (omega arith)
  whole_far m k here rest (CutFirst j i l d q) h = whole_far j i here rest q (omega arith)
  whole_far m k here rest (CutConditional j us vs x l s f b p d q) h = second_far x j here us vs rest s (omega arith) b p q (omega arith)
  whole_far m k here rest (CutChoice j us vs ws xs x a l s f b p t g r d q) h = third_far x a j 1 here us vs ws xs rest s (omega arith) b p t (omega arith) r q (omega arith)
  whole_far m k here rest (CutBinary j us vs op x l s f b p d q) h =
      whole_first here rest (climb_far 2 m 2 here rest (CutBinary j us vs op x l s f b p (level_from_2 op) q) (omega arith) (omega arith) h)
  whole_far m k here rest (CutBracketed j us l p q) h = whole_first here rest (climb_far 2 m 2 here rest (CutBracketed j us l p q) (omega arith) (omega arith) h)
  whole_far m k here rest (CutUnary j us op l p q) h = whole_first here rest (climb_far 2 m 2 here rest (CutUnary j us op l p q) (omega arith) (omega arith) h)
  whole_far m k here rest (CutSelect j us vs ws name l p w d q) h = whole_first here rest (climb_far 2 m 2 here rest (CutSelect j us vs ws name l p w d q) (omega arith) (omega arith) h)
  whole_far m k here rest (CutConcatenation j us vs es l p i f q) h = whole_first here rest (climb_far 2 m 2 here rest (CutConcatenation j us vs es l p i f q) (omega arith) (omega arith) h)
  whole_far m k here rest (CutReplication j us vs ws xs x es l p s f r i g q) h =
      whole_first here rest (climb_far 2 m 2 here rest (CutReplication j us vs ws xs x es l p s f r i g q) (omega arith) (omega arith) h)
  whole_far m k here rest (OpenReplication j us vs ws xs x es l p s f r i g q) h =
      whole_first here rest (climb_far 2 m 2 here rest (OpenReplication j us vs ws xs x es l p s f r i g q) (omega arith) (omega arith) h)

  -- ---- targets

  target_items_far : (ts : TargetTrees) (n m : ℕ) (ws xs vs rest : List Token) → IsMark mark.Comma ws xs → TargetItemsSpan end ts xs vs → targets_height ts ≤ room → TargetBegins end m vs rest → m ≤ room → length ws ≤ n
      → Passes (length rest) (other_targets_of sub n ws)
  unfolding TargetItemsSpan targets_height other_targets_of
  target_items_far no_target zero m ws xs vs rest p i f q h l = absurd (let e : length ws ≡ suc (length xs) = ap length p in omega arith)
  target_items_far no_target (suc n) m ws xs vs rest p i f q h l = rw (behind_other mark.Comma mark.CloseBrace ws xs p refl, after_mark mark.Comma ws xs p, i)
      (passes_then (length rest) _ (λ t r j. passes_then (length rest) (and_first_target t) (λ all z k. k) (other_targets_of sub n r) (other_targets_pass end room sub fw (length rest) n r j)) (sub.target vs) (ih.target m vs rest q h))
  target_items_far (more_targets t ts) zero m ws xs vs rest p i f q h l = absurd (let g : length ws ≡ suc (length xs) = ap length p in omega arith)
  target_items_far (more_targets t ts) (suc n) m ws xs vs rest p (ys, zs, s, c, i) f q h l =
      let g : length ws ≡ suc (length xs) = ap length p in
      rw (behind_other mark.Comma mark.CloseBrace ws xs p refl, after_mark mark.Comma ws xs p, again.target t xs ys s (omega arith) (omega (arith, ends mark.Comma ys zs c refl)))
      (passes_then (length rest) (and_first_target t) (λ all z k. k) (other_targets_of sub n ys) (target_items_far ts n m ys zs vs rest c i (omega arith) q h (omega (arith, target_shrinks t end xs ys s))))

  joined_far : (at : ℕ) (ts : TargetTrees) (m : ℕ) (us vs rest : List Token) → TargetItemsSpan end ts us vs → targets_height ts ≤ room → TargetBegins end m vs rest → m ≤ room
      → Passes (length rest) (sub.target us >>= λ t. target_parts_of sub t.0 t.1 >>= with_targets at)
  unfolding TargetItemsSpan targets_height target_parts_of
  joined_far at no_target m us vs rest i f q h = rw i (passes_then (length rest) _
      (λ t r l. passes_then (length rest) (with_targets at) (λ all z k. k) (target_parts_of sub t r) (target_parts_pass end room sub fw (length rest) t r l)) (sub.target vs) (ih.target m vs rest q h))
  joined_far at (more_targets t ts) m us vs rest (ws, xs, s, c, i) f q h =
      rw (again.target t us ws s (omega arith) (omega (arith, ends mark.Comma ws xs c refl)))
      (passes_then (length rest) (with_targets at) (λ all z k. k) _ (passes_then (length rest) (and_first_target t) (λ all z k. k) (other_targets_of sub (length ws) ws)
      (target_items_far ts (length ws) m ws xs vs rest c i (omega arith) q h (omega arith))))

  named_target_far : (name : List ℕ) (here us rest : List Token) → here ≡ token.Name name ∷ us → Passes (length rest) (selects_of end room sub us) → Passes (length rest) (any_target_of end room sub here)
  named_target_far name here us rest p h = rw (p, named_target_next end room sub again name us) (passes_then (length rest) _ (λ s r l. l) (selects_of end room sub us) h)

  target_entire : (t : TargetTree) (here rest : List Token) → TargetSpans end t here rest → target_height t ≤ room + 1 → Passes (length rest) (any_target_of end room sub here)
  unfolding TargetSpans target_height
  target_entire (NamedTarget at name s) here rest (us, a, p, q) h = named_target_far name here us rest p (selects_entire s us rest q h)
  target_entire (JoinedTarget at ts) here rest d h = rw (joined_again end room sub again at ts here rest d h) (omega arith)

  target_far : (m : ℕ) (here rest : List Token) → TargetBegins end m here rest → m ≤ room + 1 → Passes (length rest) (any_target_of end room sub here)
  target_far m here rest (MissingTarget p e) h = passes_more (length here) (length rest) _ (let l : length here ≡ length rest = ap length e in omega arith) (any_target_forward end room sub fw here)
  target_far m here rest (EntireTarget t s f) h = target_entire t here rest s (omega arith)
  target_far m here rest (CutTargetSelect j us vs ws name l p w b q) h = named_target_far name here us rest p (selects_far j us vs ws rest w b q (omega arith))
  target_far m here rest (CutJoinedTarget j us vs ts l p i f q) h =
      rw (p, joined_next end room sub again us (omega (arith, target_begins_positive end j vs rest q))) (joined_far (place end (token.Mark mark.OpenBrace ∷ us)) ts j us vs rest i (omega arith) q (omega arith))

pub below_far : (end room : ℕ) → ReachEnds end room (below end room)
unfolding below
below_far end zero = record {
  expression = λ m k here rest q h. absurd (omega (arith, begins_positive end m k here rest q));
  climb = λ min m k here rest q b c h. absurd (omega (arith, begins_positive end m k here rest q));
  unary = λ m k here rest q b h. absurd (omega (arith, begins_positive end m k here rest q));
  target = λ m here rest q h. absurd (omega (arith, target_begins_positive end m here rest q));
}
below_far end (suc n) = record {
  expression = λ m k here rest q h. whole_far end n (below end n) (below_forward end n) (below_again end n) (below_far end n) m k here rest q (omega arith);
  climb = λ min m k here rest q b c h. climb_far end n (below end n) (below_forward end n) (below_again end n) (below_far end n) min m k here rest q b c (omega arith);
  unary = λ m k here rest q b h. unary_far end n (below end n) (below_forward end n) (below_again end n) (below_far end n) m k here rest q b (omega arith);
  target = λ m here rest q h. target_far end n (below end n) (below_forward end n) (below_again end n) (below_far end n) m here rest q (omega arith);
}

pub expression_is_far : (end room m k : ℕ) (here rest : List Token) → Begins end m k here rest → m ≤ room + 1 → Passes (length rest) (whole_of end room (below end room) here)
expression_is_far end room m k here rest q h = whole_far end room (below end room) (below_forward end room) (below_again end room) (below_far end room) m k here rest q h

pub target_is_far : (end room m : ℕ) (here rest : List Token) → TargetBegins end m here rest → m ≤ room + 1 → Passes (length rest) (any_target_of end room (below end room) here)
target_is_far end room m here rest q h = target_far end room (below end room) (below_forward end room) (below_again end room) (below_far end room) m here rest q h
