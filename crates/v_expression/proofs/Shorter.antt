-- A front of what a partial tree spells is spelled by a partial tree, which is no higher and no looser.
use Rattle.std.proofs.Common.{◌≡◌, ℕ, suc, ◌+◌, ◌≤◌, max, List, [], ◌∷◌, ◌++◌, length, append_assoc, refl, sym, ap, ◌∙◌, arith, ◌⊎◌, inl, inr, subst}
use Rattle.v_syntax.specs.declared.token.Token.{Token}
use Rattle.v_syntax.specs.declared.token.Token.TheVariants as token
use Rattle.v_syntax.specs.declared.mark.Mark.TheVariants as mark
use Rattle.v_syntax.specs.ExpressionTrees.{Tree, Number, Named, Bracketed, Unary, Binary, Conditional, Concatenation, Replication, Trees, none, more, SelectsTree, Whole, One, OfWord, SelectTree, Bit, Part, IndexedPart, TargetTree, NamedTarget, JoinedTarget, TargetTrees, no_target, more_targets, height, selects_height, select_height, trees_height, target_height, targets_height}
use Rattle.v_syntax.specs.ExpressionOperators.{level_of, level}
use Rattle.v_syntax.specs.ExpressionSpans.{IsMark, place, Spans, SelectsSpan, SelectSpans, AllSpan, OthersSpan, TargetSpans, TargetsSpan, OtherTargetsSpan}
use Rattle.v_syntax.specs.ExpressionFronts.{ItemsSpan, TargetItemsSpan, WordSpans, NoWord, Word, BoundSpans, NoBound, Left, Base, Begins, Missing, Entire, CutFirst, CutBracketed, CutUnary, CutBinary, CutConditional, CutChoice, CutSelect, CutConcatenation, CutReplication, OpenReplication, TargetBegins, MissingTarget, EntireTarget, CutTargetSelect, CutJoinedTarget}
use Rattle.std.proofs.lemmas.List.{length-append}
use Rattle.v_expression.proofs.PhraseLemmas.Suffixes.{at_most_or_more}
use Rattle.v_expression.proofs.Basics.{height_positive, target_height_positive, level_from_2, level_below_12}
use Rattle.v_expression.proofs.PhraseLemmas.Suffixes.{IsSuffix, suffix_cons, suffix_self, suffix_trans, suffix_within, suffix_same, first_cut}
use Rattle.v_expression.proofs.Claims.{SelectsBegin, EntireSelects, CutSelects, SelectBegins, NoSelect, SomeSelect, OthersBegin, NoOther, SomeOther, PartsBegin, OtherTargetsBegin, NoOtherTarget, SomeOtherTarget, TargetPartsBegin, bound_more, begins_more, begins_looser, target_begins_more}

abbrev pub either : {A B C : Type 0} → A ⊎ B → (A → C) → (B → C) → C
either (inl a) f g = f a
either (inr b) f g = g b

-- before a mark, or behind it
pub behind_cut : (t : Token) (here us vs mid : List Token) → IsSuffix us here → us ≡ t ∷ vs → IsSuffix mid here → (length us ≤ length mid) ⊎ IsSuffix mid vs
behind_cut t here us vs mid s p q = either (at_most_or_more (length us) (length mid)) (λ h. inl h)
    (λ h. either (first_cut t us vs mid p (suffix_within here us mid s q (omega arith))) (λ e. absurd (let l : length us ≡ length mid = ap length e in omega arith)) (λ r. inr r))

-- ---- what a tree spells ends in what is left

mutual
  unfolding Spans SelectsSpan SelectSpans AllSpan OthersSpan

  pub spans_suffix : (e : Tree) (end : ℕ) (here rest : List Token) → Spans end e here rest → IsSuffix rest here
  spans_suffix (Number at ds) end here rest (a, p) = suffix_cons _ here rest rest p (suffix_self rest)
  spans_suffix (Named at name s) end here rest (us, a, p, q) = suffix_cons _ here us rest p (selects_suffix s end us rest q)
  spans_suffix (Bracketed at e) end here rest (us, vs, a, p, s, q) = suffix_cons _ here us rest p (suffix_trans rest vs us (suffix_cons _ vs rest rest q (suffix_self rest)) (spans_suffix e end us vs s))
  spans_suffix (Unary at op e) end here rest (us, a, (m, p, o), s, b) = suffix_cons _ here us rest p (spans_suffix e end us rest s)
  spans_suffix (Binary op l r) end here rest (us, vs, s, (m, p, o), t, b, c) =
      suffix_trans rest us here (suffix_cons _ us vs rest p (spans_suffix r end vs rest t)) (spans_suffix l end here us s)
  spans_suffix (Conditional c a b) end here rest (us, vs, ws, xs, s, p, t, q, u, k) =
      suffix_trans rest us here (suffix_cons _ us vs rest p (suffix_trans rest ws vs (suffix_cons _ ws xs rest q (spans_suffix b end xs rest u)) (spans_suffix a end vs ws t))) (spans_suffix c end here us s)
  spans_suffix (Concatenation at es) end here rest (us, vs, a, p, s, q) =
      suffix_cons _ here us rest p (suffix_trans rest vs us (suffix_cons _ vs rest rest q (suffix_self rest)) (all_suffix es end us vs s))
  spans_suffix (Replication at e es) end here rest (us, vs, ws, xs, ys, a, p, s, q, t, u, v) =
      suffix_cons _ here us rest p (suffix_trans rest vs us (suffix_cons _ vs ws rest q
      (suffix_trans rest xs ws (suffix_cons _ xs ys rest u (suffix_cons _ ys rest rest v (suffix_self rest))) (all_suffix es end ws xs t))) (spans_suffix e end us vs s))

  selects_suffix : (s : SelectsTree) (end : ℕ) (here rest : List Token) → SelectsSpan end s here rest → IsSuffix rest here
  selects_suffix Whole end here rest p = ([], p)
  selects_suffix (One s) end here rest p = select_suffix s end here rest p
  selects_suffix (OfWord at e s) end here rest (us, vs, ws, a, p, t, q, u) =
      suffix_cons _ here us rest p (suffix_trans rest vs us (suffix_cons _ vs ws rest q (select_suffix s end ws rest u)) (spans_suffix e end us vs t))

  select_suffix : (s : SelectTree) (end : ℕ) (here rest : List Token) → SelectSpans end s here rest → IsSuffix rest here
  select_suffix (Bit at e) end here rest (us, vs, a, p, s, q) = suffix_cons _ here us rest p (suffix_trans rest vs us (suffix_cons _ vs rest rest q (suffix_self rest)) (spans_suffix e end us vs s))
  select_suffix (Part at l r) end here rest (us, vs, ws, xs, a, p, s, q, t, u) =
      suffix_cons _ here us rest p (suffix_trans rest vs us (suffix_cons _ vs ws rest q (suffix_trans rest xs ws (suffix_cons _ xs rest rest u (suffix_self rest)) (spans_suffix r end ws xs t))) (spans_suffix l end us vs s))
  select_suffix (IndexedPart at l r) end here rest (us, vs, ws, xs, a, p, s, q, t, u) =
      suffix_cons _ here us rest p (suffix_trans rest vs us (suffix_cons _ vs ws rest q (suffix_trans rest xs ws (suffix_cons _ xs rest rest u (suffix_self rest)) (spans_suffix r end ws xs t))) (spans_suffix l end us vs s))

  pub all_suffix : (es : Trees) (end : ℕ) (here rest : List Token) → AllSpan end es here rest → IsSuffix rest here
  all_suffix none end here rest p = absurd p
  all_suffix (more e es) end here rest (us, s, p) = suffix_trans rest us here (others_suffix es end us rest p) (spans_suffix e end here us s)

  others_suffix : (es : Trees) (end : ℕ) (here rest : List Token) → OthersSpan end es here rest → IsSuffix rest here
  others_suffix none end here rest p = ([], p)
  others_suffix (more e es) end here rest (us, vs, p, s, q) = suffix_cons _ here us rest p (suffix_trans rest vs us (others_suffix es end vs rest q) (spans_suffix e end us vs s))

mutual
  unfolding TargetSpans TargetsSpan OtherTargetsSpan

  pub target_suffix : (t : TargetTree) (end : ℕ) (here rest : List Token) → TargetSpans end t here rest → IsSuffix rest here
  target_suffix (NamedTarget at name s) end here rest (us, a, p, q) = suffix_cons _ here us rest p (selects_suffix s end us rest q)
  target_suffix (JoinedTarget at ts) end here rest (us, vs, a, p, s, q) = suffix_cons _ here us rest p (suffix_trans rest vs us (suffix_cons _ vs rest rest q (suffix_self rest)) (targets_suffix ts end us vs s))

  pub targets_suffix : (ts : TargetTrees) (end : ℕ) (here rest : List Token) → TargetsSpan end ts here rest → IsSuffix rest here
  targets_suffix no_target end here rest p = absurd p
  targets_suffix (more_targets t ts) end here rest (us, s, p) = suffix_trans rest us here (other_targets_suffix ts end us rest p) (target_suffix t end here us s)

  other_targets_suffix : (ts : TargetTrees) (end : ℕ) (here rest : List Token) → OtherTargetsSpan end ts here rest → IsSuffix rest here
  other_targets_suffix no_target end here rest p = ([], p)
  other_targets_suffix (more_targets t ts) end here rest (us, vs, p, s, q) = suffix_cons _ here us rest p (suffix_trans rest vs us (other_targets_suffix ts end vs rest q) (target_suffix t end us vs s))

-- ---- fronts of whole trees

pub level_positive : (e : Tree) → 1 ≤ level e
unfolding level
level_positive (Number at ds) = omega arith
level_positive (Named at name s) = omega arith
level_positive (Bracketed at e) = omega arith
level_positive (Unary at op e) = omega arith
level_positive (Binary op l r) = omega (arith, level_from_2 op)
level_positive (Conditional c a b) = omega arith
level_positive (Concatenation at es) = omega arith
level_positive (Replication at e es) = omega arith

no_items : (end : ℕ) (ts : List Token) → ItemsSpan end none ts ts
unfolding ItemsSpan
no_items end ts = refl

no_height : (n : ℕ) → trees_height none ≤ n
unfolding trees_height
no_height n = omega arith

entire : (e : Tree) (end : ℕ) (here rest mid : List Token) → Spans end e here rest → IsSuffix mid rest → length rest ≤ length mid → Begins end (height e) (level e) here mid
entire e end here rest mid s q h = Entire e (subst (λ z. Spans end e here z) (suffix_same rest mid q h) s) (omega arith) (omega arith)

named_cut : (end n k : ℕ) (at : ℕ) (name : List ℕ) (here us mid : List Token) → k ≤ 12 → at ≡ place end here → here ≡ token.Name name ∷ us → SelectsBegin end n us mid → Begins end n k here mid
unfolding Spans height level
named_cut end n k at name here us mid b a p (EntireSelects s q f) = Entire (Named at name s) (us, a, p, q) f b
named_cut end n k at name here us mid b a p (CutSelects m vs ws l w c q) = CutSelect m us vs ws name l p w c q

-- a whole select, or a front of it
whole_select : (end : ℕ) (s : SelectTree) (here rest mid : List Token) → SelectSpans end s here rest → SelectBegins end (select_height s) here mid ⊎ (rest ≡ mid) → SelectsBegin end (1 + select_height s) here mid
unfolding SelectsSpan selects_height
whole_select end s here rest mid d (inl (NoSelect e)) = EntireSelects Whole e (omega arith)
whole_select end s here rest mid d (inl (SomeSelect us b q)) = CutSelects (select_height s) here us (omega arith) (NoWord refl) b q
whole_select end s here rest mid d (inr e) = EntireSelects (One s) (subst (λ z. SelectSpans end s here z) e d) (omega arith)

further_select : (end at : ℕ) (e : Tree) (s : SelectTree) (here us vs ws rest mid : List Token) → at ≡ place end here → IsMark mark.OpenBracket here us → Spans end e us vs → IsMark mark.CloseBracket vs ws
    → SelectSpans end s ws rest → SelectBegins end (select_height s) ws mid ⊎ (rest ≡ mid) → SelectsBegin end (max (1 + height e) (1 + select_height s)) here mid
unfolding SelectsSpan selects_height SelectSpans select_height
further_select end at e s here us vs ws rest mid a p t q u (inl (NoSelect g)) = EntireSelects (One (Bit at e)) (us, vs, a, p, t, q ∙ ap (λ z. token.Mark mark.CloseBracket ∷ z) g) (omega arith)
further_select end at e s here us vs ws rest mid a p t q u (inl (SomeSelect xs b c)) = CutSelects (max (height e) (select_height s)) ws xs (omega arith) (Word us vs e p t (omega arith) q)
    (bound_more end (select_height s) (max (height e) (select_height s)) ws xs (omega arith) b) (begins_more end (max (height e) (select_height s)) (omega arith) c)
further_select end at e s here us vs ws rest mid a p t q u (inr g) = EntireSelects (OfWord at e s) (us, vs, ws, a, p, t, q, subst (λ z. SelectSpans end s ws z) g u) (omega arith)

and_first_cut : (end : ℕ) (e : Tree) (es : Trees) (here us mid : List Token) → Spans end e here us → OthersBegin end (trees_height es) us mid → PartsBegin end (max (height e) (trees_height es)) here mid
unfolding ItemsSpan trees_height
and_first_cut end e es here us mid s (NoOther q) = (here, none, refl, omega arith, Entire e (subst (λ z. Spans end e here z) q s) (omega arith) (level_positive e))
and_first_cut end e es here us mid s (SomeOther xs ys ds q i f b) = (ys, more e ds, (us, xs, s, q, i), omega arith, begins_more end (max (height e) (trees_height es)) (omega arith) b)

and_other_cut : (end : ℕ) (e : Tree) (es : Trees) (here us vs mid : List Token) → IsMark mark.Comma here us → Spans end e us vs → OthersBegin end (trees_height es) vs mid
    → OthersBegin end (max (height e) (trees_height es)) here mid
unfolding ItemsSpan trees_height
and_other_cut end e es here us vs mid p s (NoOther q) = SomeOther us us none p refl (omega arith) (Entire e (subst (λ z. Spans end e us z) q s) (omega arith) (level_positive e))
and_other_cut end e es here us vs mid p s (SomeOther xs ys ds q i f b) = SomeOther us ys (more e ds) p (vs, xs, s, q, i) (omega arith) (begins_more end (max (height e) (trees_height es)) (omega arith) b)

mutual
  unfolding Spans SelectsSpan SelectSpans AllSpan OthersSpan ItemsSpan height selects_height select_height trees_height level

  pub tree_cut : (e : Tree) (end : ℕ) (here rest mid : List Token) → Spans end e here rest → IsSuffix mid here → length rest ≤ length mid → Begins end (height e) (level e) here mid
  tree_cut (Number at ds) end here rest mid (a, p) q h = either (first_cut _ here rest mid p q) (λ e. Missing (omega arith) e) (λ r. entire (Number at ds) end here rest mid (a, p) r h)
  tree_cut (Named at name s) end here rest mid (us, a, p, d) q h = either (first_cut _ here us mid p q) (λ e. Missing (height_positive (Named at name s)) e)
      (λ r. named_cut end (selects_height s) 12 at name here us mid (omega arith) a p (selects_cut s end us rest mid d r h))
  tree_cut (Bracketed at e) end here rest mid (us, vs, a, p, s, c) q h = either (first_cut _ here us mid p q) (λ g. Missing (omega arith) g)
      (λ r. either (behind_cut _ us vs rest mid (spans_suffix e end us vs s) c r)
      (λ l. CutBracketed (height e) us (omega arith) p (begins_looser end 1 (level_positive e) (tree_cut e end us vs mid s r l)))
      (λ x. entire (Bracketed at e) end here rest mid (us, vs, a, p, s, c) x h))
  tree_cut (Unary at op e) end here rest mid (us, a, (m, p, o), s, b) q h = either (first_cut _ here us mid p q) (λ g. Missing (omega arith) g)
      (λ r. CutUnary (height e) us op (omega arith) (m, p, o) (begins_looser end 12 b (tree_cut e end us rest mid s r h)))
  tree_cut (Binary op l r) end here rest mid (us, vs, s, (m, p, o), t, b, c) q h = either (behind_cut _ here us vs mid (spans_suffix l end here us s) p q)
      (λ k. begins_more end (1 + max (height l) (height r)) (omega arith) (begins_looser end (level_of op) b (tree_cut l end here us mid s q k)))
      (λ x. CutBinary (max (height l) (height r)) us vs op l (omega arith) s (omega arith) b (m, p, o) (omega arith)
      (begins_more end (max (height l) (height r)) (omega arith) (begins_looser end (level_of op + 1) (omega arith) (tree_cut r end vs rest mid t x h))))
  tree_cut (Conditional c x y) end here rest mid (us, vs, ws, xs, s, p, t, g, u, b) q h = either (behind_cut _ here us vs mid (spans_suffix c end here us s) p q)
      (λ k. begins_more end (1 + max (height c) (max (height x) (height y))) (omega arith) (begins_looser end 1 (omega arith) (tree_cut c end here us mid s q k)))
      (λ z. either (behind_cut _ vs ws xs mid (spans_suffix x end vs ws t) g z)
      (λ k. CutConditional (max (height c) (max (height x) (height y))) us vs c (omega arith) s (omega arith) b p (omega arith)
      (begins_more end (max (height c) (max (height x) (height y))) (omega arith) (begins_looser end 1 (level_positive x) (tree_cut x end vs ws mid t z k))))
      (λ z2. CutChoice (max (height c) (max (height x) (height y))) us vs ws xs c x (omega arith) s (omega arith) b p t (omega arith) g (omega arith)
      (begins_more end (max (height c) (max (height x) (height y))) (omega arith) (begins_looser end 1 (level_positive y) (tree_cut y end xs rest mid u z2 h)))))
  tree_cut (Concatenation at es) end here rest mid (us, vs, a, p, s, c) q h = either (first_cut _ here us mid p q) (λ g. Missing (omega arith) g)
      (λ r. either (behind_cut _ us vs rest mid (all_suffix es end us vs s) c r)
      (λ l. let b = all_cut es end us vs mid s r l in CutConcatenation (trees_height es) us b.0 b.1 (omega arith) p b.2 b.3 b.4)
      (λ x. entire (Concatenation at es) end here rest mid (us, vs, a, p, s, c) x h))
  tree_cut (Replication at e es) end here rest mid (us, vs, ws, xs, ys, a, p, s, c, t, u, v) q h = either (first_cut _ here us mid p q) (λ g. Missing (omega arith) g)
      (λ r. either (behind_cut _ us vs ws mid (spans_suffix e end us vs s) c r)
      (λ l. CutConcatenation (max (height e) (trees_height es)) us us none (omega arith) p refl (omega arith)
      (begins_more end (max (height e) (trees_height es)) (omega arith) (begins_looser end 1 (level_positive e) (tree_cut e end us vs mid s r l))))
      (λ r2. either (behind_cut _ ws xs ys mid (all_suffix es end ws xs t) u r2)
      (λ l. let b = all_cut es end ws xs mid t r2 l in CutReplication (max (height e) (trees_height es)) us vs ws b.0 e b.1 (omega arith) p s (omega arith) c b.2 (omega (arith, b.3))
      (begins_more end (max (height e) (trees_height es)) (omega arith) b.4))
      (λ r3. either (first_cut _ ys rest mid v r3)
      (λ g. OpenReplication (max (height e) (trees_height es)) us vs ws xs e es (omega arith) p s (omega arith) c t (omega arith) (u ∙ ap (λ z. token.Mark mark.CloseBrace ∷ z) g))
      (λ x. entire (Replication at e es) end here rest mid (us, vs, ws, xs, ys, a, p, s, c, t, u, v) x h))))

  pub selects_cut : (s : SelectsTree) (end : ℕ) (here rest mid : List Token) → SelectsSpan end s here rest → IsSuffix mid here → length rest ≤ length mid → SelectsBegin end (selects_height s) here mid
  selects_cut Whole end here rest mid p q h = EntireSelects Whole (suffix_same here mid q (let l : length here ≡ length rest = ap length p in omega arith)) (omega arith)
  selects_cut (One s) end here rest mid d q h = whole_select end s here rest mid d (select_cut s end here rest mid d q h)
  selects_cut (OfWord at e s) end here rest mid (us, vs, ws, a, p, t, c, u) q h = either (first_cut _ here us mid p q) (λ g. EntireSelects Whole g (omega arith))
      (λ r. either (behind_cut _ us vs ws mid (spans_suffix e end us vs t) c r)
      (λ l. CutSelects (max (height e) (select_height s)) here us (omega arith) (NoWord refl) (NoBound p) (begins_more end (max (height e) (select_height s)) (omega arith) (begins_looser end 1 (level_positive e) (tree_cut e end us vs mid t r l))))
      (λ x. further_select end at e s here us vs ws rest mid a p t c u (select_cut s end ws rest mid u x h)))

  pub select_cut : (s : SelectTree) (end : ℕ) (here rest mid : List Token) → SelectSpans end s here rest → IsSuffix mid here → length rest ≤ length mid → SelectBegins end (select_height s) here mid ⊎ (rest ≡ mid)
  select_cut (Bit at e) end here rest mid (us, vs, a, p, s, c) q h = either (first_cut _ here us mid p q) (λ g. inl (NoSelect g))
      (λ r. either (behind_cut _ us vs rest mid (spans_suffix e end us vs s) c r)
      (λ l. inl (SomeSelect us (NoBound p) (begins_looser end 1 (level_positive e) (tree_cut e end us vs mid s r l))))
      (λ x. inr (suffix_same rest mid x h)))
  select_cut (Part at l r) end here rest mid (us, vs, ws, xs, a, p, s, c, t, u) q h = either (first_cut _ here us mid p q) (λ g. inl (NoSelect g))
      (λ y. either (behind_cut _ us vs ws mid (spans_suffix l end us vs s) c y)
      (λ k. inl (SomeSelect us (NoBound p) (begins_more end (max (height l) (height r)) (omega arith) (begins_looser end 1 (level_positive l) (tree_cut l end us vs mid s y k)))))
      (λ z. either (behind_cut _ ws xs rest mid (spans_suffix r end ws xs t) u z)
      (λ k. inl (SomeSelect ws (Left us vs l p s (omega arith) c) (begins_more end (max (height l) (height r)) (omega arith) (begins_looser end 1 (level_positive r) (tree_cut r end ws xs mid t z k)))))
      (λ x. inr (suffix_same rest mid x h))))
  select_cut (IndexedPart at l r) end here rest mid (us, vs, ws, xs, a, p, s, c, t, u) q h = either (first_cut _ here us mid p q) (λ g. inl (NoSelect g))
      (λ y. either (behind_cut _ us vs ws mid (spans_suffix l end us vs s) c y)
      (λ k. inl (SomeSelect us (NoBound p) (begins_more end (max (height l) (height r)) (omega arith) (begins_looser end 1 (level_positive l) (tree_cut l end us vs mid s y k)))))
      (λ z. either (behind_cut _ ws xs rest mid (spans_suffix r end ws xs t) u z)
      (λ k. inl (SomeSelect ws (Base us vs l p s (omega arith) c) (begins_more end (max (height l) (height r)) (omega arith) (begins_looser end 1 (level_positive r) (tree_cut r end ws xs mid t z k)))))
      (λ x. inr (suffix_same rest mid x h))))

  pub all_cut : (es : Trees) (end : ℕ) (here rest mid : List Token) → AllSpan end es here rest → IsSuffix mid here → length rest ≤ length mid → PartsBegin end (trees_height es) here mid
  all_cut none end here rest mid p q h = absurd p
  all_cut (more e es) end here rest mid (us, s, o) q h = either (at_most_or_more (length us) (length mid))
      (λ l. (here, none, refl, omega arith, begins_more end (max (height e) (trees_height es)) (omega arith) (begins_looser end 1 (level_positive e) (tree_cut e end here us mid s q l))))
      (λ l. and_first_cut end e es here us mid s (others_cut es end us rest mid o (suffix_within here us mid (spans_suffix e end here us s) q (omega arith)) h))

  others_cut : (es : Trees) (end : ℕ) (here rest mid : List Token) → OthersSpan end es here rest → IsSuffix mid here → length rest ≤ length mid → OthersBegin end (trees_height es) here mid
  others_cut none end here rest mid p q h = NoOther (suffix_same here mid q (let l : length here ≡ length rest = ap length p in omega arith))
  others_cut (more e es) end here rest mid (us, vs, p, s, o) q h = either (first_cut _ here us mid p q) (λ g. NoOther g)
      (λ r. either (at_most_or_more (length vs) (length mid))
      (λ l. SomeOther us us none p refl (omega arith) (begins_more end (max (height e) (trees_height es)) (omega arith) (begins_looser end 1 (level_positive e) (tree_cut e end us vs mid s r l))))
      (λ l. and_other_cut end e es here us vs mid p s (others_cut es end vs rest mid o (suffix_within us vs mid (spans_suffix e end us vs s) r (omega arith)) h)))

-- ---- fronts of partial trees

bound_cut : (end n : ℕ) (here us mid : List Token) → BoundSpans end n here us → IsSuffix mid here → (IsSuffix mid us → Begins end n 1 us mid) → SelectBegins end n here mid
bound_cut end n here us mid (NoBound p) q next = either (first_cut _ here us mid p q) (λ g. NoSelect g) (λ r. SomeSelect us (NoBound p) (next r))
bound_cut end n here us mid (Left vs ws e p s f c) q next = either (first_cut _ here vs mid p q) (λ g. NoSelect g)
    (λ r. either (behind_cut _ vs ws us mid (spans_suffix e end vs ws s) c r)
    (λ l. SomeSelect vs (NoBound p) (begins_more end n f (begins_looser end 1 (level_positive e) (tree_cut e end vs ws mid s r l))))
    (λ x. SomeSelect us (Left vs ws e p s f c) (next x)))
bound_cut end n here us mid (Base vs ws e p s f c) q next = either (first_cut _ here vs mid p q) (λ g. NoSelect g)
    (λ r. either (behind_cut _ vs ws us mid (spans_suffix e end vs ws s) c r)
    (λ l. SomeSelect vs (NoBound p) (begins_more end n f (begins_looser end 1 (level_positive e) (tree_cut e end vs ws mid s r l))))
    (λ x. SomeSelect us (Base vs ws e p s f c) (next x)))

no_word_cut : (end n : ℕ) (here us mid : List Token) → here ≡ us → SelectBegins end n us mid → SelectsBegin end (n + 1) here mid
unfolding SelectsSpan selects_height
no_word_cut end n here us mid e (NoSelect g) = EntireSelects Whole (e ∙ g) (omega arith)
no_word_cut end n here us mid e (SomeSelect vs b q) = CutSelects n us vs (omega arith) (NoWord e) b q

after_word_cut : (end n : ℕ) (here us vs ws mid : List Token) (e : Tree) → IsMark mark.OpenBracket here us → Spans end e us vs → height e ≤ n → IsMark mark.CloseBracket vs ws → SelectBegins end n ws mid
    → SelectsBegin end (n + 1) here mid
unfolding SelectsSpan selects_height SelectSpans select_height
after_word_cut end n here us vs ws mid e p s f c (NoSelect g) = EntireSelects (One (Bit (place end here) e)) (us, vs, refl, p, s, c ∙ ap (λ z. token.Mark mark.CloseBracket ∷ z) g) (omega arith)
after_word_cut end n here us vs ws mid e p s f c (SomeSelect xs b q) = CutSelects n ws xs (omega arith) (Word us vs e p s f c) b q

word_cut : (end n : ℕ) (here us vs mid : List Token) → WordSpans end n here us → BoundSpans end n us vs → IsSuffix mid here → (IsSuffix mid vs → Begins end n 1 vs mid) → SelectsBegin end (n + 1) here mid
unfolding SelectsSpan selects_height
word_cut end n here us vs mid (NoWord e) b q next = no_word_cut end n here us mid e (bound_cut end n us vs mid b (subst (λ z. IsSuffix mid z) e q) next)
word_cut end n here us vs mid (Word ws xs e p s f c) b q next = either (first_cut _ here ws mid p q) (λ g. EntireSelects Whole g (omega arith))
    (λ r. either (behind_cut _ ws xs us mid (spans_suffix e end ws xs s) c r)
    (λ l. CutSelects n here ws (omega arith) (NoWord refl) (NoBound p) (begins_more end n f (begins_looser end 1 (level_positive e) (tree_cut e end ws xs mid s r l))))
    (λ x. after_word_cut end n here ws xs us mid e p s f c (bound_cut end n us vs mid b x next)))

items_cut : (es : Trees) (end n : ℕ) (here us mid : List Token) → ItemsSpan end es here us → trees_height es ≤ n → IsSuffix mid here → (IsSuffix mid us → Begins end n 1 us mid) → PartsBegin end n here mid
unfolding ItemsSpan trees_height
items_cut none end n here us mid i f q next = (here, none, refl, omega arith, subst (λ z. Begins end n 1 z mid) (sym i) (next (subst (λ z. IsSuffix mid z) i q)))
items_cut (more e es) end n here us mid (vs, ws, s, c, i) f q next = either (behind_cut _ here vs ws mid (spans_suffix e end here vs s) c q)
    (λ l. (here, none, refl, omega arith, begins_more end n (omega arith) (begins_looser end 1 (level_positive e) (tree_cut e end here vs mid s q l))))
    (λ x. let b = items_cut es end n ws us mid i (omega arith) x next in (b.0, more e b.1, (vs, ws, s, c, b.2), omega (arith, b.3), b.4))

selects_more : (end n m : ℕ) (here mid : List Token) → n ≤ m → SelectsBegin end n here mid → SelectsBegin end m here mid
selects_more end n m here mid h (EntireSelects s p f) = EntireSelects s p (omega arith)
selects_more end n m here mid h (CutSelects j us vs l w b q) = CutSelects j us vs (omega arith) w b q

pub begins_cut : (end n k : ℕ) (here rest : List Token) → Begins end n k here rest → (i : ℕ) (mid : List Token) → i ≤ k → i ≤ 12 → IsSuffix mid here → length rest ≤ length mid → Begins end n i here mid
begins_cut end n k here rest (Missing p e) i mid b c q h = Missing p (suffix_same here mid q (let l : length here ≡ length rest = ap length e in omega arith))
begins_cut end n k here rest (Entire e s f d) i mid b c q h = begins_more end n f (begins_looser end i (omega arith) (tree_cut e end here rest mid s q h))
begins_cut end n k here rest (CutFirst m j l d x) i mid b c q h = begins_more end n (omega arith) (begins_cut end m j here rest x i mid (omega arith) c q h)
begins_cut end n k here rest (CutBracketed m us l p x) i mid b c q h = either (first_cut _ here us mid p q) (λ g. Missing (omega arith) g)
    (λ r. CutBracketed m us l p (begins_cut end m 1 us rest x 1 mid (omega arith) (omega arith) r h))
begins_cut end n k here rest (CutUnary m us op l p x) i mid b c q h = either (first_cut _ here us mid p.1 q) (λ g. Missing (omega arith) g)
    (λ r. CutUnary m us op l p (begins_cut end m 12 us rest x 12 mid (omega arith) (omega arith) r h))
begins_cut end n k here rest (CutBinary m us vs op y l s f a p d x) i mid b c q h = either (behind_cut _ here us vs mid (spans_suffix y end here us s) p.1 q)
    (λ z. begins_more end n (omega arith) (begins_looser end i (omega arith) (tree_cut y end here us mid s q z)))
    (λ z. CutBinary m us vs op y l s f a p (omega arith) (begins_cut end m (level_of op + 1) vs rest x (level_of op + 1) mid (omega arith) (omega (arith, level_below_12 op)) z h))
begins_cut end n k here rest (CutConditional m us vs y l s f a p d x) i mid b c q h = either (behind_cut _ here us vs mid (spans_suffix y end here us s) p q)
    (λ z. begins_more end n (omega arith) (begins_looser end i (omega arith) (tree_cut y end here us mid s q z)))
    (λ z. CutConditional m us vs y l s f a p (omega arith) (begins_cut end m 1 vs rest x 1 mid (omega arith) (omega arith) z h))
begins_cut end n k here rest (CutChoice m us vs ws xs y w l s f a p t g r d x) i mid b c q h = either (behind_cut _ here us vs mid (spans_suffix y end here us s) p q)
    (λ z. begins_more end n (omega arith) (begins_looser end i (omega arith) (tree_cut y end here us mid s q z)))
    (λ z. either (behind_cut _ vs ws xs mid (spans_suffix w end vs ws t) r z)
    (λ z2. CutConditional m us vs y l s f a p (omega arith) (begins_more end m g (begins_looser end 1 (level_positive w) (tree_cut w end vs ws mid t z z2))))
    (λ z2. CutChoice m us vs ws xs y w l s f a p t g r (omega arith) (begins_cut end m 1 xs rest x 1 mid (omega arith) (omega arith) z2 h)))
begins_cut end n k here rest (CutSelect m us vs ws name l p w d x) i mid b c q h = either (first_cut _ here us mid p q) (λ g. Missing (omega arith) g)
    (λ r. named_cut end n i (place end here) name here us mid c refl p (selects_more end (m + 1) n us mid (omega arith)
    (word_cut end m us vs ws mid w d r (λ z. begins_cut end m 1 ws rest x 1 mid (omega arith) (omega arith) z h))))
begins_cut end n k here rest (CutConcatenation m us vs es l p t f x) i mid b c q h = either (first_cut _ here us mid p q) (λ g. Missing (omega arith) g)
    (λ r. let y = items_cut es end m us vs mid t f r (λ z. begins_cut end m 1 vs rest x 1 mid (omega arith) (omega arith) z h) in CutConcatenation m us y.0 y.1 l p y.2 y.3 y.4)
begins_cut end n k here rest (CutReplication m us vs ws xs e es l p s f r t g x) i mid b c q h = either (first_cut _ here us mid p q) (λ y. Missing (omega arith) y)
    (λ z. either (behind_cut _ us vs ws mid (spans_suffix e end us vs s) r z)
    (λ z2. CutConcatenation m us us none l p (no_items end us) (no_height m) (begins_more end m f (begins_looser end 1 (level_positive e) (tree_cut e end us vs mid s z z2))))
    (λ z2. let y = items_cut es end m ws xs mid t g z2 (λ w. begins_cut end m 1 xs rest x 1 mid (omega arith) (omega arith) w h) in CutReplication m us vs ws y.0 e y.1 l p s f r y.2 y.3 y.4))
begins_cut end n k here rest (OpenReplication m us vs ws xs e es l p s f r t g x) i mid b c q h = either (first_cut _ here us mid p q) (λ y. Missing (omega arith) y)
    (λ z. either (behind_cut _ us vs ws mid (spans_suffix e end us vs s) r z)
    (λ z2. CutConcatenation m us us none l p (no_items end us) (no_height m) (begins_more end m f (begins_looser end 1 (level_positive e) (tree_cut e end us vs mid s z z2))))
    (λ z2. either (behind_cut _ ws xs rest mid (all_suffix es end ws xs t) x z2)
    (λ z3. let y = all_cut es end ws xs mid t z2 z3 in CutReplication m us vs ws y.0 e y.1 l p s f r y.2 (omega (arith, y.3)) (begins_more end m g y.4))
    (λ z3. OpenReplication m us vs ws xs e es l p s f r t g (x ∙ ap (λ w. token.Mark mark.CloseBrace ∷ w) (suffix_same rest mid z3 h)))))

-- ---- targets

whole_target : (t : TargetTree) (end : ℕ) (here rest mid : List Token) → TargetSpans end t here rest → IsSuffix mid rest → length rest ≤ length mid → TargetBegins end (target_height t) here mid
whole_target t end here rest mid s q h = EntireTarget t (subst (λ z. TargetSpans end t here z) (suffix_same rest mid q h) s) (omega arith)

named_target_cut : (end n : ℕ) (at : ℕ) (name : List ℕ) (here us mid : List Token) → at ≡ place end here → here ≡ token.Name name ∷ us → SelectsBegin end n us mid → TargetBegins end n here mid
unfolding TargetSpans target_height
named_target_cut end n at name here us mid a p (EntireSelects s q f) = EntireTarget (NamedTarget at name s) (us, a, p, q) f
named_target_cut end n at name here us mid a p (CutSelects m vs ws l w c q) = CutTargetSelect m us vs ws name l p w c q

and_first_target_cut : (end : ℕ) (t : TargetTree) (ts : TargetTrees) (here us mid : List Token) → TargetSpans end t here us → OtherTargetsBegin end (targets_height ts) us mid
    → TargetPartsBegin end (max (target_height t) (targets_height ts)) here mid
unfolding TargetItemsSpan targets_height
and_first_target_cut end t ts here us mid s (NoOtherTarget q) = (here, no_target, refl, omega arith, EntireTarget t (subst (λ z. TargetSpans end t here z) q s) (omega arith))
and_first_target_cut end t ts here us mid s (SomeOtherTarget xs ys ds q i f b) =
    (ys, more_targets t ds, (us, xs, s, q, i), omega arith, target_begins_more end (max (target_height t) (targets_height ts)) (omega arith) b)

and_other_target_cut : (end : ℕ) (t : TargetTree) (ts : TargetTrees) (here us vs mid : List Token) → IsMark mark.Comma here us → TargetSpans end t us vs → OtherTargetsBegin end (targets_height ts) vs mid
    → OtherTargetsBegin end (max (target_height t) (targets_height ts)) here mid
unfolding TargetItemsSpan targets_height
and_other_target_cut end t ts here us vs mid p s (NoOtherTarget q) = SomeOtherTarget us us no_target p refl (omega arith) (EntireTarget t (subst (λ z. TargetSpans end t us z) q s) (omega arith))
and_other_target_cut end t ts here us vs mid p s (SomeOtherTarget xs ys ds q i f b) =
    SomeOtherTarget us ys (more_targets t ds) p (vs, xs, s, q, i) (omega arith) (target_begins_more end (max (target_height t) (targets_height ts)) (omega arith) b)

mutual
  unfolding TargetSpans TargetsSpan OtherTargetsSpan TargetItemsSpan target_height targets_height

  pub target_cut : (t : TargetTree) (end : ℕ) (here rest mid : List Token) → TargetSpans end t here rest → IsSuffix mid here → length rest ≤ length mid → TargetBegins end (target_height t) here mid
  target_cut (NamedTarget at name s) end here rest mid (us, a, p, d) q h = either (first_cut _ here us mid p q) (λ e. MissingTarget (target_height_positive (NamedTarget at name s)) e)
      (λ r. named_target_cut end (selects_height s) at name here us mid a p (selects_cut s end us rest mid d r h))
  target_cut (JoinedTarget at ts) end here rest mid (us, vs, a, p, s, c) q h = either (first_cut _ here us mid p q) (λ g. MissingTarget (omega arith) g)
      (λ r. either (behind_cut _ us vs rest mid (targets_suffix ts end us vs s) c r)
      (λ l. let b = targets_cut ts end us vs mid s r l in CutJoinedTarget (targets_height ts) us b.0 b.1 (omega arith) p b.2 b.3 b.4)
      (λ x. whole_target (JoinedTarget at ts) end here rest mid (us, vs, a, p, s, c) x h))

  targets_cut : (ts : TargetTrees) (end : ℕ) (here rest mid : List Token) → TargetsSpan end ts here rest → IsSuffix mid here → length rest ≤ length mid → TargetPartsBegin end (targets_height ts) here mid
  targets_cut no_target end here rest mid p q h = absurd p
  targets_cut (more_targets t ts) end here rest mid (us, s, o) q h = either (at_most_or_more (length us) (length mid))
      (λ l. (here, no_target, refl, omega arith, target_begins_more end (max (target_height t) (targets_height ts)) (omega arith) (target_cut t end here us mid s q l)))
      (λ l. and_first_target_cut end t ts here us mid s (other_targets_cut ts end us rest mid o (suffix_within here us mid (target_suffix t end here us s) q (omega arith)) h))

  other_targets_cut : (ts : TargetTrees) (end : ℕ) (here rest mid : List Token) → OtherTargetsSpan end ts here rest → IsSuffix mid here → length rest ≤ length mid → OtherTargetsBegin end (targets_height ts) here mid
  other_targets_cut no_target end here rest mid p q h = NoOtherTarget (suffix_same here mid q (let l : length here ≡ length rest = ap length p in omega arith))
  other_targets_cut (more_targets t ts) end here rest mid (us, vs, p, s, o) q h = either (first_cut _ here us mid p q) (λ g. NoOtherTarget g)
      (λ r. either (at_most_or_more (length vs) (length mid))
      (λ l. SomeOtherTarget us us no_target p refl (omega arith) (target_begins_more end (max (target_height t) (targets_height ts)) (omega arith) (target_cut t end us vs mid s r l)))
      (λ l. and_other_target_cut end t ts here us vs mid p s (other_targets_cut ts end vs rest mid o (suffix_within us vs mid (target_suffix t end us vs s) r (omega arith)) h)))

target_items_cut : (ts : TargetTrees) (end n : ℕ) (here us mid : List Token) → TargetItemsSpan end ts here us → targets_height ts ≤ n → IsSuffix mid here → (IsSuffix mid us → TargetBegins end n us mid) → TargetPartsBegin end n here mid
unfolding TargetItemsSpan targets_height
target_items_cut no_target end n here us mid i f q next = (here, no_target, refl, omega arith, subst (λ z. TargetBegins end n z mid) (sym i) (next (subst (λ z. IsSuffix mid z) i q)))
target_items_cut (more_targets t ts) end n here us mid (vs, ws, s, c, i) f q next = either (behind_cut _ here vs ws mid (target_suffix t end here vs s) c q)
    (λ l. (here, no_target, refl, omega arith, target_begins_more end n (omega arith) (target_cut t end here vs mid s q l)))
    (λ x. let b = target_items_cut ts end n ws us mid i (omega arith) x next in (b.0, more_targets t b.1, (vs, ws, s, c, b.2), omega (arith, b.3), b.4))

pub target_begins_cut : (end n : ℕ) (here rest : List Token) → TargetBegins end n here rest → (mid : List Token) → IsSuffix mid here → length rest ≤ length mid → TargetBegins end n here mid
target_begins_cut end n here rest (MissingTarget p e) mid q h = MissingTarget p (suffix_same here mid q (let l : length here ≡ length rest = ap length e in omega arith))
target_begins_cut end n here rest (EntireTarget t s f) mid q h = target_begins_more end n f (target_cut t end here rest mid s q h)
target_begins_cut end n here rest (CutTargetSelect m us vs ws name l p w d x) mid q h = either (first_cut _ here us mid p q) (λ g. MissingTarget (omega arith) g)
    (λ r. named_target_cut end n (place end here) name here us mid refl p (selects_more end (m + 1) n us mid (omega arith)
    (word_cut end m us vs ws mid w d r (λ z. begins_cut end m 1 ws rest x 1 mid (omega arith) (omega arith) z h))))
target_begins_cut end n here rest (CutJoinedTarget m us vs ts l p t f x) mid q h = either (first_cut _ here us mid p q) (λ g. MissingTarget (omega arith) g)
    (λ r. let y = target_items_cut ts end m us vs mid t f r (λ z. target_begins_cut end m vs rest x mid z h) in CutJoinedTarget m us y.0 y.1 l p y.2 y.3 y.4)

-- ---- what a partial tree spells ends in what is left

items_suffix : (es : Trees) (end : ℕ) (here rest : List Token) → ItemsSpan end es here rest → IsSuffix rest here
unfolding ItemsSpan
items_suffix none end here rest i = ([], i)
items_suffix (more e es) end here rest (us, vs, s, c, i) = suffix_trans rest us here (suffix_cons _ us vs rest c (items_suffix es end vs rest i)) (spans_suffix e end here us s)

bound_suffix : (end n : ℕ) (here rest : List Token) → BoundSpans end n here rest → IsSuffix rest here
bound_suffix end n here rest (NoBound p) = suffix_cons _ here rest rest p (suffix_self rest)
bound_suffix end n here rest (Left us vs e p s f c) = suffix_cons _ here us rest p (suffix_trans rest vs us (suffix_cons _ vs rest rest c (suffix_self rest)) (spans_suffix e end us vs s))
bound_suffix end n here rest (Base us vs e p s f c) = suffix_cons _ here us rest p (suffix_trans rest vs us (suffix_cons _ vs rest rest c (suffix_self rest)) (spans_suffix e end us vs s))

word_suffix : (end n : ℕ) (here rest : List Token) → WordSpans end n here rest → IsSuffix rest here
word_suffix end n here rest (NoWord e) = ([], e)
word_suffix end n here rest (Word us vs e p s f c) = suffix_cons _ here us rest p (suffix_trans rest vs us (suffix_cons _ vs rest rest c (suffix_self rest)) (spans_suffix e end us vs s))

pub begins_suffix : (end n k : ℕ) (here rest : List Token) → Begins end n k here rest → IsSuffix rest here
begins_suffix end n k here rest (Missing p e) = ([], e)
begins_suffix end n k here rest (Entire e s f d) = spans_suffix e end here rest s
begins_suffix end n k here rest (CutFirst m j l d x) = begins_suffix end m j here rest x
begins_suffix end n k here rest (CutBracketed m us l p x) = suffix_cons _ here us rest p (begins_suffix end m 1 us rest x)
begins_suffix end n k here rest (CutUnary m us op l p x) = suffix_cons _ here us rest p.1 (begins_suffix end m 12 us rest x)
begins_suffix end n k here rest (CutBinary m us vs op y l s f a p d x) =
    suffix_trans rest us here (suffix_cons _ us vs rest p.1 (begins_suffix end m (level_of op + 1) vs rest x)) (spans_suffix y end here us s)
begins_suffix end n k here rest (CutConditional m us vs y l s f a p d x) = suffix_trans rest us here (suffix_cons _ us vs rest p (begins_suffix end m 1 vs rest x)) (spans_suffix y end here us s)
begins_suffix end n k here rest (CutChoice m us vs ws xs y w l s f a p t g r d x) =
    suffix_trans rest us here (suffix_cons _ us vs rest p (suffix_trans rest ws vs (suffix_cons _ ws xs rest r (begins_suffix end m 1 xs rest x)) (spans_suffix w end vs ws t))) (spans_suffix y end here us s)
begins_suffix end n k here rest (CutSelect m us vs ws name l p w d x) =
    suffix_cons _ here us rest p (suffix_trans rest vs us (suffix_trans rest ws vs (begins_suffix end m 1 ws rest x) (bound_suffix end m vs ws d)) (word_suffix end m us vs w))
begins_suffix end n k here rest (CutConcatenation m us vs es l p t f x) = suffix_cons _ here us rest p (suffix_trans rest vs us (begins_suffix end m 1 vs rest x) (items_suffix es end us vs t))
begins_suffix end n k here rest (CutReplication m us vs ws xs e es l p s f r t g x) =
    suffix_cons _ here us rest p (suffix_trans rest vs us (suffix_cons _ vs ws rest r (suffix_trans rest xs ws (begins_suffix end m 1 xs rest x) (items_suffix es end ws xs t))) (spans_suffix e end us vs s))
begins_suffix end n k here rest (OpenReplication m us vs ws xs e es l p s f r t g x) =
    suffix_cons _ here us rest p (suffix_trans rest vs us (suffix_cons _ vs ws rest r (suffix_trans rest xs ws (suffix_cons _ xs rest rest x (suffix_self rest)) (all_suffix es end ws xs t))) (spans_suffix e end us vs s))

target_items_suffix : (ts : TargetTrees) (end : ℕ) (here rest : List Token) → TargetItemsSpan end ts here rest → IsSuffix rest here
unfolding TargetItemsSpan
target_items_suffix no_target end here rest i = ([], i)
target_items_suffix (more_targets t ts) end here rest (us, vs, s, c, i) =
    suffix_trans rest us here (suffix_cons _ us vs rest c (target_items_suffix ts end vs rest i)) (target_suffix t end here us s)

pub target_begins_suffix : (end n : ℕ) (here rest : List Token) → TargetBegins end n here rest → IsSuffix rest here
target_begins_suffix end n here rest (MissingTarget p e) = ([], e)
target_begins_suffix end n here rest (EntireTarget t s f) = target_suffix t end here rest s
target_begins_suffix end n here rest (CutTargetSelect m us vs ws name l p w d x) =
    suffix_cons _ here us rest p (suffix_trans rest vs us (suffix_trans rest ws vs (begins_suffix end m 1 ws rest x) (bound_suffix end m vs ws d)) (word_suffix end m us vs w))
target_begins_suffix end n here rest (CutJoinedTarget m us vs ts l p t f x) =
    suffix_cons _ here us rest p (suffix_trans rest vs us (target_begins_suffix end m vs rest x) (target_items_suffix ts end us vs t))
