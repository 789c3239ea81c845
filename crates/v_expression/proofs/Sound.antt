-- Each reader meets its claim, if the readers one level down do.
use Rattle.std.proofs.Common.{◌≡◌, ℕ, zero, suc, ◌+◌, ◌<◌, ◌≤◌, List, [], ◌∷◌, length, Option, Some, None, Ok, Err, refl, ap, ◌∙◌, arith, ◌⊎◌, inl, inr, subst}
use Rattle.v_syntax.specs.declared.token.Token.{Token}
use Rattle.v_syntax.specs.declared.token.Token.TheVariants as token
use Rattle.v_syntax.specs.declared.mark.Mark.TheVariants as mark
use Rattle.v_syntax.specs.declared.expression.UnaryOperator.{UnaryOperator}
use Rattle.v_syntax.specs.declared.expression.BinaryOperator.{BinaryOperator}
use Rattle.v_syntax.specs.ExpressionTrees.{Tree, Named, Binary, none, more, Whole, One, SelectTree, Bit, Part, IndexedPart, TargetTree, NamedTarget, no_target, more_targets, height, selects_height, select_height, trees_height, target_height, targets_height}
use Rattle.v_syntax.specs.ExpressionOperators.{level_of, level}
use Rattle.v_syntax.specs.ExpressionSpans.{IsMark, IsUnary, IsBinary, place, Spans, SelectsSpan, SelectSpans, AllSpan, OthersSpan, TargetSpans, TargetsSpan, OtherTargetsSpan}
use Rattle.v_syntax.specs.ExpressionFronts.{ItemsSpan, TargetItemsSpan, NoWord, Word, NoBound, Left, Base, Begins, Missing, Entire, CutBracketed, CutUnary, CutBinary, CutConditional, CutChoice, CutSelect, CutConcatenation, CutReplication, OpenReplication, TargetBegins, MissingTarget, EntireTarget, CutTargetSelect, CutJoinedTarget}
use Rattle.v_expression.specs.Phrase.Stops.{TooDeep, Answer, ◌>>=◌, after, behind, syntax_at}
use Rattle.v_expression.specs.Reading.{Readers, last_of, part, indexed_part, range_by, range_of, bound_by, bound_of, select_of, of_word, further_by, further_of, selects_by, selects_of, named_of, bracketed_of, and_first, others_by, others_of, parts_of, replication_of, concatenation_of, inside_by, inside_of, braced_of, primary_of, prefix_of, infix_of, prefixed_of, unary_by, unary_of, from_level, operand_of, step_by, steps_of, climb_of, branches_of, choose_by, choose_of, whole_of, and_first_target, other_targets_by, other_targets_of, target_parts_of, joined_of, named_target_of, any_target_of, layer, below}
use Rattle.v_expression.proofs.PhraseLemmas.Marks.{after_case, behind_case}
use Rattle.v_expression.proofs.Basics.{infix_mark, prefix_mark, level_below_12, front, front_below_12, from_level_some, from_level_none, height_positive, down_fits, down_high, spans_shrink}
use Rattle.v_expression.proofs.PhraseLemmas.Suffixes.{at_most_or_more}
use Rattle.v_expression.proofs.Claims.{Meets, refused_up, meets_then, meets_nothing, meets_after, meets_down, meets_down_from, Read, tree, SelectsBegin, EntireSelects, CutSelects, selects, SelectBegins, NoSelect, SomeSelect, select, last, OthersBegin, NoOther, SomeOther, others, PartsBegin, parts, target, OtherTargetsBegin, NoOtherTarget, SomeOtherTarget, other_targets, TargetPartsBegin, target_parts, begins_looser}

-- the readers for heights up to n
pub record AreSound (end n : ℕ) (sub : Readers) : Type 0 where
  pub expression : (ts : List Token) → Meets (tree end n 1 12 ts) (sub.expression ts)
  pub climb : (min : ℕ) (ts : List Token) → 1 ≤ min → min ≤ 12 → Meets (tree end n min min ts) (sub.climb min ts)
  pub unary : (ts : List Token) → Meets (tree end n 12 12 ts) (sub.unary ts)
  pub target : (ts : List Token) → Meets (target end n ts) (sub.target ts)

module _ (end room : ℕ) (sub : Readers) (ih : 1 ≤ room → AreSound end room sub) where
  -- ---- selects

  last_sound : 1 ≤ room → (ts : List Token) → Meets (last end room ts) (last_of sub ts)
  unfolding last_of
  last_sound h ts = meets_then (tree end room 1 12 ts) (last end room ts) _ (λ rest q. q) (λ rest q. q)
      (λ e rest d. meets_after (last end room ts) mark.CloseBracket rest _ (λ us p. (rest, d.spans, p, d.fits)) (Entire e d.spans d.fits d.binds))
      (sub.expression ts) ((ih h).expression ts)

  -- a select behind its first expression
  module _ (here us ts : List Token) (e : Tree) (h : 1 ≤ room) (opens : IsMark mark.OpenBracket here us) (d : Read end room 1 12 us e ts) where
    range_sound : Meets (select end room here) (range_of (place end here) sub e ts)
    unfolding range_of SelectSpans select_height
    range_sound = go (behind_case mark.Colon ts) (after_case mark.PlusColon ts)
      where
        go : ((vs : List Token) × (ts ≡ token.Mark mark.Colon ∷ vs) × (behind mark.Colon ts ≡ Some vs)) ⊎ (behind mark.Colon ts ≡ None)
            → ((vs : List Token) × (ts ≡ token.Mark mark.PlusColon ∷ vs) × (after mark.PlusColon ts ≡ Ok vs)) ⊎ (after mark.PlusColon ts ≡ syntax_at ts)
            → Meets (select end room here) (range_by (place end here) sub e ts (behind mark.Colon ts))
        go (inl (vs, p, q)) other = rw q (meets_then (last end room vs) (select end room here) (part (place end here) e)
            (λ rest b. SomeSelect vs (Left us ts e opens d.spans d.fits p) b)
            (λ rest b. SomeSelect vs (Left us ts e opens d.spans (omega (arith, d.fits)) p) b)
            (λ r rest x. ((us, ts, vs, x.0, refl, opens, d.spans, p, x.1, x.2), omega (arith, d.fits, x.3)))
            (last_of sub vs) (last_sound h vs))
        go (inr q) (inl (vs, p, r)) = rw (q, r) (meets_then (last end room vs) (select end room here) (indexed_part (place end here) e)
            (λ rest b. SomeSelect vs (Base us ts e opens d.spans d.fits p) b)
            (λ rest b. SomeSelect vs (Base us ts e opens d.spans (omega (arith, d.fits)) p) b)
            (λ w rest x. ((us, ts, vs, x.0, refl, opens, d.spans, p, x.1, x.2), omega (arith, d.fits, x.3)))
            (last_of sub vs) (last_sound h vs))
        go (inr q) (inr r) = rw (q, r) (meets_nothing (select end room here) ts (SomeSelect us (NoBound opens) (Entire e d.spans d.fits d.binds)))

    bound_sound : Meets (select end room here) (bound_of (place end here) sub e ts)
    unfolding bound_of SelectSpans select_height
    bound_sound = go (behind_case mark.CloseBracket ts)
      where
        go : ((vs : List Token) × (ts ≡ token.Mark mark.CloseBracket ∷ vs) × (behind mark.CloseBracket ts ≡ Some vs)) ⊎ (behind mark.CloseBracket ts ≡ None)
            → Meets (select end room here) (bound_by (place end here) sub e ts (behind mark.CloseBracket ts))
        go (inl (vs, p, q)) = rw q ((us, ts, refl, opens, d.spans, p), d.fits)
        go (inr q) = rw q range_sound

  select_sound : (here us : List Token) → IsMark mark.OpenBracket here us → Meets (select end room here) (select_of end room sub here us)
  unfolding select_of
  select_sound here us p = meets_down (select end room here) room sub here (token.Mark mark.OpenBracket) us _ p
      (λ h. meets_then (tree end room 1 12 us) (select end room here) _ (λ rest q. SomeSelect us (NoBound p) q) (λ rest q. SomeSelect us (NoBound p) q)
      (λ e rest d. bound_sound here us rest e h p d) (sub.expression us) ((ih h).expression us))
      (NoSelect refl) (SomeSelect us (NoBound p) (Missing (omega arith) refl))

  -- behind an index
  word_sound : (here us vs ts ws : List Token) (e : Tree) → IsMark mark.OpenBracket here us → Spans end e us vs → height e ≤ room → IsMark mark.CloseBracket vs ts
      → IsMark mark.OpenBracket ts ws → Meets (selects end (room + 1) here) (select_of end room sub ts ws >>= of_word (place end here) e)
  unfolding SelectsSpan selects_height SelectSpans select_height
  word_sound here us vs ts ws e p s f q r = meets_then (select end room ts) (selects end (room + 1) here) (of_word (place end here) e) near high
      (λ x rest d. ((us, vs, ts, refl, p, s, q, d.0), omega (arith, d.1)))
      (select_of end room sub ts ws) (select_sound ts ws r)
    where
      near : (rest : List Token) → SelectBegins end room ts rest → SelectsBegin end (room + 1) here rest
      near rest (NoSelect g) = EntireSelects (One (Bit (place end here) e)) (us, vs, refl, p, s, q ∙ ap (λ z. token.Mark mark.CloseBracket ∷ z) g) (omega arith)
      near rest (SomeSelect xs b c) = CutSelects room ts xs (omega arith) (Word us vs e p s f q) b c

      high : (rest : List Token) → SelectBegins end (room + 1) ts rest → SelectsBegin end (room + 1 + 1) here rest
      high rest (NoSelect g) = EntireSelects (One (Bit (place end here) e)) (us, vs, refl, p, s, q ∙ ap (λ z. token.Mark mark.CloseBracket ∷ z) g) (omega arith)
      high rest (SomeSelect xs b c) = CutSelects (room + 1) ts xs (omega arith) (Word us vs e p s (omega arith) q) b c

  further_sound : (here ts : List Token) (s : SelectTree) → SelectSpans end s here ts → select_height s ≤ room → Meets (selects end (room + 1) here) (further_of end room sub s ts)
  unfolding further_of SelectsSpan selects_height SelectSpans select_height
  further_sound here ts (Bit at e) (us, vs, a, p, s, q) f = go (behind_case mark.OpenBracket ts)
    where
      go : ((ws : List Token) × (ts ≡ token.Mark mark.OpenBracket ∷ ws) × (behind mark.OpenBracket ts ≡ Some ws)) ⊎ (behind mark.OpenBracket ts ≡ None)
          → Meets (selects end (room + 1) here) (further_by end room sub (Bit at e) ts (behind mark.OpenBracket ts))
      go (inl (ws, r, g)) = rw (g, a) (word_sound here us vs ts ws e p s f q r)
      go (inr g) = rw g ((us, vs, a, p, s, q), omega arith)
  further_sound here ts (Part at l r) d f = (d, omega arith)
  further_sound here ts (IndexedPart at b w) d f = (d, omega arith)

  selects_sound : (here : List Token) → Meets (selects end (room + 1) here) (selects_of end room sub here)
  unfolding selects_of SelectsSpan selects_height
  selects_sound here = go (behind_case mark.OpenBracket here)
    where
      near : (rest : List Token) → SelectBegins end room here rest → SelectsBegin end (room + 1) here rest
      near rest (NoSelect g) = EntireSelects Whole g (omega arith)
      near rest (SomeSelect xs b c) = CutSelects room here xs (omega arith) (NoWord refl) b c

      high : (rest : List Token) → SelectBegins end (room + 1) here rest → SelectsBegin end (room + 1 + 1) here rest
      high rest (NoSelect g) = EntireSelects Whole g (omega arith)
      high rest (SomeSelect xs b c) = CutSelects (room + 1) here xs (omega arith) (NoWord refl) b c

      go : ((us : List Token) × (here ≡ token.Mark mark.OpenBracket ∷ us) × (behind mark.OpenBracket here ≡ Some us)) ⊎ (behind mark.OpenBracket here ≡ None)
          → Meets (selects end (room + 1) here) (selects_by end room sub here (behind mark.OpenBracket here))
      go (inl (us, p, g)) = rw g (meets_then (select end room here) (selects end (room + 1) here) _ near high (λ s rest d. further_sound here rest s d.0 d.1) (select_of end room sub here us) (select_sound here us p))
      go (inr g) = rw g (refl, omega arith)

  -- ---- lists

  others_sound : 1 ≤ room → (n : ℕ) (ts : List Token) → Meets (others end room ts) (others_of sub n ts)
  unfolding others_of ItemsSpan OthersSpan trees_height
  others_sound h zero ts = meets_nothing (others end room ts) ts (NoOther refl)
  others_sound h (suc n) ts = go (λ us. others_sound h n us) (behind_case mark.CloseBrace ts) (after_case mark.Comma ts)
    where
      go : ((us : List Token) → Meets (others end room us) (others_of sub n us))
          → ((us : List Token) × (ts ≡ token.Mark mark.CloseBrace ∷ us) × (behind mark.CloseBrace ts ≡ Some us)) ⊎ (behind mark.CloseBrace ts ≡ None)
          → ((us : List Token) × (ts ≡ token.Mark mark.Comma ∷ us) × (after mark.Comma ts ≡ Ok us)) ⊎ (after mark.Comma ts ≡ syntax_at ts)
          → Meets (others end room ts) (others_by sub (others_of sub n) ts (behind mark.CloseBrace ts))
      go next (inl (us, p, g)) other = rw g (ts, refl, p, omega arith)
      go next (inr g) (inr r) = rw (g, r) (meets_nothing (others end room ts) ts (NoOther refl))
      go next (inr g) (inl (us, p, r)) = rw (g, r) (meets_then (tree end room 1 12 us) (others end room ts) _
          (λ rest q. SomeOther us us none p refl (omega arith) q)
          (λ rest q. SomeOther us us none p refl (omega arith) q)
          (λ e rest d. meets_then (others end room rest) (others end room ts) (and_first e) (near e rest d) (high e rest d)
          (λ es last x. (x.0, (us, rest, p, d.spans, x.1), x.2, omega (arith, d.fits, x.3)))
          (others_of sub n rest) (next rest))
          (sub.expression us) ((ih h).expression us))
        where
          near : (e : Tree) (ws : List Token) → Read end room 1 12 us e ws → (rest : List Token) → OthersBegin end room ws rest → OthersBegin end room ts rest
          near e ws d rest (NoOther q) = SomeOther us us none p refl (omega arith) (Entire e (subst (λ z. Spans end e us z) q d.spans) d.fits d.binds)
          near e ws d rest (SomeOther xs ys es q i f b) = SomeOther us ys (more e es) p (ws, xs, d.spans, q, i) (omega (arith, d.fits)) b

          high : (e : Tree) (ws : List Token) → Read end room 1 12 us e ws → (rest : List Token) → OthersBegin end (room + 1) ws rest → OthersBegin end (room + 1) ts rest
          high e ws d rest (NoOther q) = SomeOther us us none p refl (omega arith) (Entire e (subst (λ z. Spans end e us z) q d.spans) (omega (arith, d.fits)) d.binds)
          high e ws d rest (SomeOther xs ys es q i f b) = SomeOther us ys (more e es) p (ws, xs, d.spans, q, i) (omega (arith, d.fits)) b

  parts_sound : 1 ≤ room → (us ts : List Token) (e : Tree) → Read end room 1 12 us e ts → Meets (parts end room us) (parts_of sub e ts)
  unfolding parts_of ItemsSpan AllSpan trees_height
  parts_sound h us ts e d = meets_then (others end room ts) (parts end room us) (and_first e) near high
      (λ es last x. (x.0, (ts, d.spans, x.1), x.2, omega (arith, d.fits, x.3)))
      (others_of sub (length ts) ts) (others_sound h (length ts) ts)
    where
      near : (rest : List Token) → OthersBegin end room ts rest → PartsBegin end room us rest
      near rest (NoOther q) = (us, none, refl, omega arith, Entire e (subst (λ z. Spans end e us z) q d.spans) d.fits d.binds)
      near rest (SomeOther xs ys es q i f b) = (ys, more e es, (ts, xs, d.spans, q, i), omega (arith, d.fits), b)

      high : (rest : List Token) → OthersBegin end (room + 1) ts rest → PartsBegin end (room + 1) us rest
      high rest (NoOther q) = (us, none, refl, omega arith, Entire e (subst (λ z. Spans end e us z) q d.spans) (omega (arith, d.fits)) d.binds)
      high rest (SomeOther xs ys es q i f b) = (ys, more e es, (ts, xs, d.spans, q, i), omega (arith, d.fits), b)

  -- ---- primaries

  named_sound : (name : List ℕ) (us : List Token) → Meets (tree end (room + 1) 12 12 (token.Name name ∷ us)) (named_of end room sub (place end (token.Name name ∷ us)) name us)
  unfolding named_of Spans level height
  named_sound name us = meets_then (selects end (room + 1) us) (tree end (room + 1) 12 12 here) _ (λ rest q. begun (room + 1) rest q) (λ rest q. begun (room + 1 + 1) rest q)
      (λ s rest d. record { spans = (us, refl, refl, d.0); binds = omega arith; fits = d.1; stops = front_below_12 rest })
      (selects_of end room sub us) (selects_sound us)
    where
      here : List Token
      here = token.Name name ∷ us

      begun : (n : ℕ) (rest : List Token) → SelectsBegin end n us rest → Begins end n 12 (token.Name name ∷ us) rest
      begun n rest (EntireSelects s p f) = Entire (Named (place end (token.Name name ∷ us)) name s) (us, refl, refl, p) f (omega arith)
      begun n rest (CutSelects m vs ws h w b q) = CutSelect m us vs ws name h refl w b q

  bracketed_sound : (us : List Token) → Meets (tree end (room + 1) 12 12 (token.Mark mark.OpenParenthesis ∷ us)) (bracketed_of end room sub (token.Mark mark.OpenParenthesis ∷ us) us)
  unfolding bracketed_of Spans level height
  bracketed_sound us = meets_down (tree end (room + 1) 12 12 here) room sub here (token.Mark mark.OpenParenthesis) us _ refl
      (λ h. meets_then (tree end room 1 12 us) (tree end (room + 1) 12 12 here) _
      (λ rest q. CutBracketed room us (omega arith) refl q) (λ rest q. CutBracketed (room + 1) us (omega arith) refl q)
      (λ e rest d. meets_after (tree end (room + 1) 12 12 here) mark.CloseParenthesis rest _
      (λ vs p. record { spans = (us, rest, refl, refl, d.spans, p); binds = omega arith; fits = omega (arith, d.fits); stops = front_below_12 vs })
      (CutBracketed room us (omega arith) refl (Entire e d.spans d.fits d.binds)))
      (sub.expression us) ((ih h).expression us))
      (Missing (omega arith) refl) (CutBracketed 1 us (omega arith) refl (Missing (omega arith) refl))
    where
      here : List Token
      here = token.Mark mark.OpenParenthesis ∷ us

  module _ (here us ts : List Token) (e : Tree) (h : 1 ≤ room) (opens : IsMark mark.OpenBrace here us) (d : Read end room 1 12 us e ts) where
    concatenation_sound : Meets (tree end (room + 1) 12 12 here) (concatenation_of (place end here) sub e ts)
    unfolding concatenation_of Spans level height
    concatenation_sound = meets_then (parts end room us) (tree end (room + 1) 12 12 here) _
        (λ rest q. CutConcatenation room us q.0 q.1 (omega arith) opens q.2 q.3 q.4)
        (λ rest q. CutConcatenation (room + 1) us q.0 q.1 (omega arith) opens q.2 q.3 q.4)
        (λ es rest x. record { spans = (us, x.0, refl, opens, x.1, x.2); binds = omega arith; fits = omega (arith, x.3); stops = front_below_12 rest })
        (parts_of sub e ts) (parts_sound h us ts e d)

    replication_sound : (ws : List Token) → IsMark mark.OpenBrace ts ws → Meets (tree end (room + 1) 12 12 here) (replication_of (place end here) sub e ws)
    unfolding replication_of Spans level height ItemsSpan trees_height
    replication_sound ws r = meets_then (tree end room 1 12 ws) (tree end (room + 1) 12 12 here) _
        (λ rest q. CutReplication room us ts ws ws e none (omega arith) opens d.spans d.fits r refl (omega arith) q)
        (λ rest q. CutReplication (room + 1) us ts ws ws e none (omega arith) opens d.spans (omega (arith, d.fits)) r refl (omega arith) q)
        (λ f xs g. meets_then (parts end room ws) (tree end (room + 1) 12 12 here) _
        (λ rest q. CutReplication room us ts ws q.0 e q.1 (omega arith) opens d.spans d.fits r q.2 q.3 q.4)
        (λ rest q. CutReplication (room + 1) us ts ws q.0 e q.1 (omega arith) opens d.spans (omega (arith, d.fits)) r q.2 (omega (arith, q.3)) q.4)
        (λ es ys x. meets_after (tree end (room + 1) 12 12 here) mark.CloseBrace ys _
        (λ rest p. record { spans = (us, ts, ws, x.0, ys, refl, opens, d.spans, r, x.1, x.2, p); binds = omega arith; fits = omega (arith, d.fits, x.3); stops = front_below_12 rest })
        (OpenReplication room us ts ws x.0 e es (omega arith) opens d.spans d.fits r x.1 x.3 x.2))
        (parts_of sub f xs) (parts_sound h ws xs f g))
        (sub.expression ws) ((ih h).expression ws)

    inside_sound : Meets (tree end (room + 1) 12 12 here) (inside_of (place end here) sub e ts)
    unfolding inside_of
    inside_sound = go (behind_case mark.OpenBrace ts)
      where
        go : ((ws : List Token) × (ts ≡ token.Mark mark.OpenBrace ∷ ws) × (behind mark.OpenBrace ts ≡ Some ws)) ⊎ (behind mark.OpenBrace ts ≡ None)
            → Meets (tree end (room + 1) 12 12 here) (inside_by (place end here) sub e ts (behind mark.OpenBrace ts))
        go (inl (ws, p, g)) = rw g (replication_sound ws p)
        go (inr g) = rw g concatenation_sound

  braced_sound : (us : List Token) → Meets (tree end (room + 1) 12 12 (token.Mark mark.OpenBrace ∷ us)) (braced_of end room sub (token.Mark mark.OpenBrace ∷ us) us)
  unfolding braced_of ItemsSpan trees_height
  braced_sound us = meets_down (tree end (room + 1) 12 12 here) room sub here (token.Mark mark.OpenBrace) us _ refl
      (λ h. meets_then (tree end room 1 12 us) (tree end (room + 1) 12 12 here) _
      (λ rest q. CutConcatenation room us us none (omega arith) refl refl (omega arith) q) (λ rest q. CutConcatenation (room + 1) us us none (omega arith) refl refl (omega arith) q)
      (λ e rest d. inside_sound here us rest e h refl d) (sub.expression us) ((ih h).expression us))
      (Missing (omega arith) refl) (CutConcatenation 1 us us none (omega arith) refl refl (omega arith) (Missing (omega arith) refl))
    where
      here : List Token
      here = token.Mark mark.OpenBrace ∷ us

  primary_sound : (ts : List Token) → Meets (tree end (room + 1) 12 12 ts) (primary_of end room sub ts)
  unfolding primary_of Spans level height
  primary_sound (token.Number ds ∷ us) = record { spans = (refl, refl); binds = omega arith; fits = omega arith; stops = front_below_12 us }
  primary_sound (token.Name name ∷ us) = named_sound name us
  primary_sound (token.Mark mark.OpenParenthesis ∷ us) = bracketed_sound us
  primary_sound (token.Mark mark.OpenBrace ∷ us) = braced_sound us
  primary_sound [] = meets_nothing (tree end (room + 1) 12 12 []) [] (Missing (omega arith) refl)
  primary_sound (t ∷ us) = meets_nothing (tree end (room + 1) 12 12 (t ∷ us)) (t ∷ us) (Missing (omega arith) refl)

  -- ---- operators

  prefixed_sound : (op : UnaryOperator) (t : Token) (us : List Token) → IsUnary op (t ∷ us) us → Meets (tree end (room + 1) 12 12 (t ∷ us)) (prefixed_of end room sub op (t ∷ us) us)
  unfolding prefixed_of Spans level height
  prefixed_sound op t us p = meets_down (tree end (room + 1) 12 12 (t ∷ us)) room sub (t ∷ us) t us _ refl
      (λ h. meets_then (tree end room 12 12 us) (tree end (room + 1) 12 12 (t ∷ us)) _
      (λ rest q. CutUnary room us op (omega arith) p q) (λ rest q. CutUnary (room + 1) us op (omega arith) p q)
      (λ e rest d. record { spans = (us, refl, p, d.spans, d.binds); binds = omega arith; fits = omega (arith, d.fits); stops = front_below_12 rest })
      (sub.unary us) ((ih h).unary us))
      (Missing (omega arith) refl) (CutUnary 1 us op (omega arith) p (Missing (omega arith) refl))

  unary_sound : (ts : List Token) → Meets (tree end (room + 1) 12 12 ts) (unary_of end room sub ts)
  unfolding unary_of
  unary_sound [] = meets_nothing (tree end (room + 1) 12 12 []) [] (Missing (omega arith) refl)
  unary_sound (t ∷ us) = go (prefix_of t) refl
    where
      go : (o : Option UnaryOperator) → prefix_of t ≡ o → Meets (tree end (room + 1) 12 12 (t ∷ us)) (unary_by end room sub t us o)
      go None e = primary_sound (t ∷ us)
      go (Some op) e = let p = prefix_mark t op e in prefixed_sound op t us (p.0, ap (λ z. z ∷ us) p.1, p.2)

  -- one more operand, and what comes then
  operand_sound : (min : ℕ) (op : BinaryOperator) (l : Tree) (here ts us : List Token) (f : Tree × List Token → Answer Tree) → min ≤ level_of op → level_of op ≤ level l
      → Read end (room + 1) min 12 here l ts → IsBinary op ts us
      → ((e : Tree) (rest : List Token) → level e ≡ level_of op → length rest ≤ length us → Read end (room + 1) min (level_of op + 1) here e rest → Meets (tree end (room + 1) min min here) (f (e, rest)))
      → Meets (tree end (room + 1) min min here) (operand_of room sub op l ts us >>= f)
  unfolding operand_of Spans level height
  operand_sound min op l here ts us f m b d p next = go (at_most_or_more (height l) room)
    where
      deep : Meets (tree end (room + 1) min min here) (Err (TooDeep (length ts)))
      deep = (
        (ts, Entire l d.spans d.fits d.binds, refl),
        length us,
        ap length p.1,
        (us, CutBinary (height l) us' us op l (omega (arith, d.fits)) d.spans (omega arith) b p m (Missing (omega (arith, height_positive l)) refl), refl),
      )
        where
          us' : List Token
          us' = ts

      fits : height l ≤ room → Meets (tree end (room + 1) min min here) ((sub.climb (level_of op + 1) us >>= λ r. Ok (Binary op l r.0, r.1)) >>= f)
      fits h = joined (sub.climb (level_of op + 1) us) ((ih (omega (arith, height_positive l))).climb (level_of op + 1) us (omega arith) (omega (arith, level_below_12 op)))
        where
          joined : (x : Answer Tree) → Meets (tree end room (level_of op + 1) (level_of op + 1) us) x → Meets (tree end (room + 1) min min here) ((x >>= λ r. Ok (Binary op l r.0, r.1)) >>= f)
          joined (Ok (r, rest)) g = next (Binary op l r) rest refl (omega (arith, spans_shrink r end us rest g.spans))
              (record { spans = (ts, us, d.spans, p, g.spans, b, omega (arith, g.binds)); binds = m; fits = omega (arith, g.fits); stops = g.stops })
          joined (Err s) g = refused_up (tree end room (level_of op + 1) (level_of op + 1) us) (tree end (room + 1) min min here)
              (λ rest q. CutBinary room ts us op l (omega arith) d.spans h b p m q)
              (λ rest q. CutBinary (room + 1) ts us op l (omega arith) d.spans (omega arith) b p m q) s g

      go : (height l ≤ room) ⊎ (room < height l) → Meets (tree end (room + 1) min min here) (operand_of room sub op l ts us >>= f)
      go (inl h) = rw (down_fits room sub l ts h) (fits h)
      go (inr h) = rw (down_high room sub l ts h) deep

  steps_sound : (min : ℕ) → 1 ≤ min → (n : ℕ) (l : Tree) (here ts : List Token) → length ts ≤ n → front ts ≤ level l
      → Read end (room + 1) min 12 here l ts → Meets (tree end (room + 1) min min here) (steps_of room sub min n l ts)
  unfolding steps_of
  steps_sound min m zero l here [] len f d = record { spans = d.spans; binds = d.binds; fits = d.fits; stops = m }
  steps_sound min m zero l here (t ∷ us) len f d = absurd (omega arith)
  steps_sound min m (suc n) l here [] len f d = record { spans = d.spans; binds = d.binds; fits = d.fits; stops = m }
  steps_sound min m (suc n) l here (t ∷ us) len f d = go (λ e rest. steps_sound min m n e here rest) (infix_of t) refl
    where
      done : front (t ∷ us) < min → Meets (tree end (room + 1) min min here) (Ok (l, t ∷ us))
      done h = record { spans = d.spans; binds = d.binds; fits = d.fits; stops = h }

      go : ((e : Tree) (rest : List Token) → length rest ≤ n → front rest ≤ level e → Read end (room + 1) min 12 here e rest → Meets (tree end (room + 1) min min here) (steps_of room sub min n e rest))
          → (o : Option BinaryOperator) → infix_of t ≡ o → Meets (tree end (room + 1) min min here) (step_by room sub (steps_of room sub min n) l t us (from_level min o))
      go next None e = done (rw e m)
      go next (Some op) e = let q = infix_mark t op e in elim (at_most_or_more min (level_of op)) [
        | inl h ↦ rw (from_level_some min op h)
            (operand_sound min op l here (t ∷ us) us (λ x. steps_of room sub min n x.0 x.1) h (rw e at f) d (q.0, ap (λ z. z ∷ us) q.1, q.2)
            (λ x rest lv shorter g. next x rest (omega arith) (omega (arith, g.stops))
            (record { spans = g.spans; binds = g.binds; fits = g.fits; stops = front_below_12 rest })))
        | inr h ↦ rw (from_level_none min op h) (done (rw e h))
      ]

  climb_sound : (min : ℕ) (ts : List Token) → 1 ≤ min → min ≤ 12 → Meets (tree end (room + 1) min min ts) (climb_of end room sub min ts)
  unfolding climb_of
  climb_sound min ts m k = meets_then (tree end (room + 1) 12 12 ts) (tree end (room + 1) min min ts) (λ x. steps_of room sub min (length x.1) x.0 x.1)
      (λ rest q. begins_looser end min k q) (λ rest q. begins_looser end min k q)
      (λ e rest d. steps_sound min m (length rest) e ts rest (omega arith) (omega (arith, front_below_12 rest, d.binds))
      (record { spans = d.spans; binds = omega (arith, d.binds); fits = d.fits; stops = d.stops }))
      (unary_of end room sub ts) (unary_sound ts)

  branches_sound : (c : Tree) (here ts us : List Token) → Read end (room + 1) 2 2 here c ts → IsMark mark.Question ts us → Meets (tree end (room + 1) 1 12 here) (branches_of room sub c ts us)
  unfolding branches_of Spans level height
  branches_sound c here ts us d p = meets_down_from (tree end (room + 1) 1 12 here) room sub c ts (token.Mark mark.Question) us _ p
      (λ h. meets_then (tree end room 1 12 us) (tree end (room + 1) 1 12 here) _
      (λ rest q. CutConditional room ts us c (omega arith) d.spans h d.binds p (omega arith) q)
      (λ rest q. CutConditional (room + 1) ts us c (omega arith) d.spans (omega arith) d.binds p (omega arith) q)
      (λ a ws g. meets_after (tree end (room + 1) 1 12 here) mark.Colon ws _
      (λ xs r. meets_then (tree end room 1 12 xs) (tree end (room + 1) 1 12 here) _
      (λ rest q. CutChoice room ts us ws xs c a (omega arith) d.spans h d.binds p g.spans g.fits r (omega arith) q)
      (λ rest q. CutChoice (room + 1) ts us ws xs c a (omega arith) d.spans (omega arith) d.binds p g.spans (omega (arith, g.fits)) r (omega arith) q)
      (λ b rest w. record { spans = (ts, us, ws, xs, d.spans, p, g.spans, r, w.spans, d.binds); binds = omega arith; fits = omega (arith, g.fits, w.fits); stops = front_below_12 rest })
      (sub.expression xs) ((ih (omega (arith, height_positive c))).expression xs))
      (CutConditional room ts us c (omega arith) d.spans h d.binds p (omega arith) (Entire a g.spans g.fits g.binds)))
      (sub.expression us) ((ih (omega (arith, height_positive c))).expression us))
      (Entire c d.spans d.fits (omega (arith, d.binds)))
      (CutConditional (height c) ts us c (omega (arith, d.fits)) d.spans (omega arith) d.binds p (omega arith) (Missing (height_positive c) refl))

  whole_sound : (ts : List Token) → Meets (tree end (room + 1) 1 12 ts) (whole_of end room sub ts)
  unfolding whole_of choose_of
  whole_sound ts = meets_then (tree end (room + 1) 2 2 ts) (tree end (room + 1) 1 12 ts) (λ x. choose_of room sub x.0 x.1)
      (λ rest q. begins_looser end 1 (omega arith) q) (λ rest q. begins_looser end 1 (omega arith) q)
      (λ c rest d. go c rest d (behind_case mark.Question rest)) (climb_of end room sub 2 ts) (climb_sound 2 ts (omega arith) (omega arith))
    where
      go : (c : Tree) (rest : List Token) → Read end (room + 1) 2 2 ts c rest
          → ((us : List Token) × (rest ≡ token.Mark mark.Question ∷ us) × (behind mark.Question rest ≡ Some us)) ⊎ (behind mark.Question rest ≡ None)
          → Meets (tree end (room + 1) 1 12 ts) (choose_by room sub c rest (behind mark.Question rest))
      go c rest d (inl (us, p, g)) = rw g (branches_sound c ts rest us d p)
      go c rest d (inr g) = rw g (record { spans = d.spans; binds = omega (arith, d.binds); fits = d.fits; stops = front_below_12 rest })

  -- ---- targets

  other_targets_sound : 1 ≤ room → (n : ℕ) (ts : List Token) → Meets (other_targets end room ts) (other_targets_of sub n ts)
  unfolding other_targets_of TargetItemsSpan OtherTargetsSpan targets_height
  other_targets_sound h zero ts = meets_nothing (other_targets end room ts) ts (NoOtherTarget refl)
  other_targets_sound h (suc n) ts = go (λ us. other_targets_sound h n us) (behind_case mark.CloseBrace ts) (after_case mark.Comma ts)
    where
      go : ((us : List Token) → Meets (other_targets end room us) (other_targets_of sub n us))
          → ((us : List Token) × (ts ≡ token.Mark mark.CloseBrace ∷ us) × (behind mark.CloseBrace ts ≡ Some us)) ⊎ (behind mark.CloseBrace ts ≡ None)
          → ((us : List Token) × (ts ≡ token.Mark mark.Comma ∷ us) × (after mark.Comma ts ≡ Ok us)) ⊎ (after mark.Comma ts ≡ syntax_at ts)
          → Meets (other_targets end room ts) (other_targets_by sub (other_targets_of sub n) ts (behind mark.CloseBrace ts))
      go next (inl (us, p, g)) other = rw g (ts, refl, p, omega arith)
      go next (inr g) (inr r) = rw (g, r) (meets_nothing (other_targets end room ts) ts (NoOtherTarget refl))
      go next (inr g) (inl (us, p, r)) = rw (g, r) (meets_then (target end room us) (other_targets end room ts) _
          (λ rest q. SomeOtherTarget us us no_target p refl (omega arith) q)
          (λ rest q. SomeOtherTarget us us no_target p refl (omega arith) q)
          (λ t rest d. meets_then (other_targets end room rest) (other_targets end room ts) (and_first_target t) (near t rest d) (high t rest d)
          (λ all last x. (x.0, (us, rest, p, d.0, x.1), x.2, omega (arith, d.1, x.3)))
          (other_targets_of sub n rest) (next rest))
          (sub.target us) ((ih h).target us))
        where
          near : (t : TargetTree) (ws : List Token) → TargetSpans end t us ws × (target_height t ≤ room) → (rest : List Token) → OtherTargetsBegin end room ws rest → OtherTargetsBegin end room ts rest
          near t ws d rest (NoOtherTarget q) = SomeOtherTarget us us no_target p refl (omega arith) (EntireTarget t (subst (λ z. TargetSpans end t us z) q d.0) d.1)
          near t ws d rest (SomeOtherTarget xs ys all q i f b) = SomeOtherTarget us ys (more_targets t all) p (ws, xs, d.0, q, i) (omega (arith, d.1)) b

          high : (t : TargetTree) (ws : List Token) → TargetSpans end t us ws × (target_height t ≤ room) → (rest : List Token) → OtherTargetsBegin end (room + 1) ws rest → OtherTargetsBegin end (room + 1) ts rest
          high t ws d rest (NoOtherTarget q) = SomeOtherTarget us us no_target p refl (omega arith) (EntireTarget t (subst (λ z. TargetSpans end t us z) q d.0) (omega (arith, d.1)))
          high t ws d rest (SomeOtherTarget xs ys all q i f b) = SomeOtherTarget us ys (more_targets t all) p (ws, xs, d.0, q, i) (omega (arith, d.1)) b

  target_parts_sound : 1 ≤ room → (us ts : List Token) (t : TargetTree) → TargetSpans end t us ts → target_height t ≤ room → Meets (target_parts end room us) (target_parts_of sub t ts)
  unfolding target_parts_of TargetItemsSpan TargetsSpan targets_height
  target_parts_sound h us ts t d f = meets_then (other_targets end room ts) (target_parts end room us) (and_first_target t) near high
      (λ all last x. (x.0, (ts, d, x.1), x.2, omega (arith, x.3)))
      (other_targets_of sub (length ts) ts) (other_targets_sound h (length ts) ts)
    where
      near : (rest : List Token) → OtherTargetsBegin end room ts rest → TargetPartsBegin end room us rest
      near rest (NoOtherTarget q) = (us, no_target, refl, omega arith, EntireTarget t (subst (λ z. TargetSpans end t us z) q d) f)
      near rest (SomeOtherTarget xs ys all q i g b) = (ys, more_targets t all, (ts, xs, d, q, i), omega arith, b)

      high : (rest : List Token) → OtherTargetsBegin end (room + 1) ts rest → TargetPartsBegin end (room + 1) us rest
      high rest (NoOtherTarget q) = (us, no_target, refl, omega arith, EntireTarget t (subst (λ z. TargetSpans end t us z) q d) (omega arith))
      high rest (SomeOtherTarget xs ys all q i g b) = (ys, more_targets t all, (ts, xs, d, q, i), omega arith, b)

  joined_sound : (us : List Token) → Meets (target end (room + 1) (token.Mark mark.OpenBrace ∷ us)) (joined_of end room sub (token.Mark mark.OpenBrace ∷ us) us)
  unfolding joined_of TargetItemsSpan targets_height TargetSpans target_height
  joined_sound us = meets_down (target end (room + 1) here) room sub here (token.Mark mark.OpenBrace) us _ refl
      (λ h. meets_then (target end room us) (target end (room + 1) here) _
      (λ rest q. CutJoinedTarget room us us no_target (omega arith) refl refl (omega arith) q) (λ rest q. CutJoinedTarget (room + 1) us us no_target (omega arith) refl refl (omega arith) q)
      (λ t rest d. meets_then (target_parts end room us) (target end (room + 1) here) _
      (λ last q. CutJoinedTarget room us q.0 q.1 (omega arith) refl q.2 q.3 q.4)
      (λ last q. CutJoinedTarget (room + 1) us q.0 q.1 (omega arith) refl q.2 q.3 q.4)
      (λ all last x. ((us, x.0, refl, refl, x.1, x.2), omega (arith, x.3)))
      (target_parts_of sub t rest) (target_parts_sound h us rest t d.0 d.1))
      (sub.target us) ((ih h).target us))
      (MissingTarget (omega arith) refl) (CutJoinedTarget 1 us us no_target (omega arith) refl refl (omega arith) (MissingTarget (omega arith) refl))
    where
      here : List Token
      here = token.Mark mark.OpenBrace ∷ us

  named_target_sound : (name : List ℕ) (us : List Token) → Meets (target end (room + 1) (token.Name name ∷ us)) (named_target_of end room sub (place end (token.Name name ∷ us)) name us)
  unfolding named_target_of TargetSpans target_height
  named_target_sound name us = meets_then (selects end (room + 1) us) (target end (room + 1) here) _ (λ rest q. begun (room + 1) rest q) (λ rest q. begun (room + 1 + 1) rest q)
      (λ s rest d. ((us, refl, refl, d.0), d.1)) (selects_of end room sub us) (selects_sound us)
    where
      here : List Token
      here = token.Name name ∷ us

      begun : (n : ℕ) (rest : List Token) → SelectsBegin end n us rest → TargetBegins end n (token.Name name ∷ us) rest
      begun n rest (EntireSelects s p f) = EntireTarget (NamedTarget (place end (token.Name name ∷ us)) name s) (us, refl, refl, p) f
      begun n rest (CutSelects m vs ws h w b q) = CutTargetSelect m us vs ws name h refl w b q

  any_target_sound : (ts : List Token) → Meets (target end (room + 1) ts) (any_target_of end room sub ts)
  unfolding any_target_of
  any_target_sound (token.Name name ∷ us) = named_target_sound name us
  any_target_sound (token.Mark mark.OpenBrace ∷ us) = joined_sound us
  any_target_sound [] = meets_nothing (target end (room + 1) []) [] (MissingTarget (omega arith) refl)
  any_target_sound (t ∷ us) = meets_nothing (target end (room + 1) (t ∷ us)) (t ∷ us) (MissingTarget (omega arith) refl)

pub below_sound : (end room : ℕ) → 1 ≤ room → AreSound end room (below end room)
unfolding below
below_sound end zero h = absurd (omega arith)
below_sound end (suc k) h = subst (λ n. AreSound end n (layer end k (below end k))) (let q : k + 1 ≡ suc k = omega arith in q)
    (record {
      expression = whole_sound end k (below end k) (below_sound end k);
      climb = climb_sound end k (below end k) (below_sound end k);
      unary = unary_sound end k (below end k) (below_sound end k);
      target = any_target_sound end k (below end k) (below_sound end k);
    })

pub expression_is_sound : (end room : ℕ) (ts : List Token) → Meets (tree end (room + 1) 1 12 ts) (whole_of end room (below end room) ts)
expression_is_sound end room ts = whole_sound end room (below end room) (below_sound end room) ts

pub target_is_sound : (end room : ℕ) (ts : List Token) → Meets (target end (room + 1) ts) (any_target_of end room (below end room) ts)
target_is_sound end room ts = any_target_sound end room (below end room) (below_sound end room) ts
