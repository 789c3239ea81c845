-- The grammar of expressions and targets (IEEE 1364-2005, annex A.8): which tokens a tree spells. Texts are lists of tokens; `here` and
-- `rest` are what is left of a text of `end` tokens before and behind the tree.
use Rattle.std.specs.Prelude.{◌≡◌, ℕ, ◌-◌, ◌≤◌, ◌<◌, List, ◌∷◌, length, Some}
use Rattle.v_syntax.specs.declared.token.Token.{Token}
use Rattle.v_syntax.specs.declared.token.Token.TheVariants as token
use Rattle.v_syntax.specs.declared.mark.Mark.{Mark}
use Rattle.v_syntax.specs.declared.mark.Mark.TheVariants as mark
use Rattle.v_syntax.specs.declared.expression.UnaryOperator.{UnaryOperator}
use Rattle.v_syntax.specs.declared.expression.BinaryOperator.{BinaryOperator}
use Rattle.v_syntax.specs.ExpressionTrees.{Tree, Number, Named, Bracketed, Unary, Binary, Conditional, Concatenation, Replication, Trees, none, more, SelectsTree, Whole, One, OfWord, SelectTree, Bit, Part, IndexedPart, TargetTree, NamedTarget, JoinedTarget, TargetTrees, no_target, more_targets}
use Rattle.v_syntax.specs.ExpressionOperators.{unary_operator, binary_operator, level_of, level}

-- the number of the token with which `here` begins
abbrev pub place : ℕ → List Token → ℕ
place end here = end - length here

-- a mark, and what is behind it
abbrev pub IsMark : Mark → List Token → List Token → Type 0
IsMark m here rest = here ≡ token.Mark m ∷ rest

-- the operator before an operand
abbrev pub IsUnary : UnaryOperator → List Token → List Token → Type 0
IsUnary op here rest = (m : Mark) × IsMark m here rest × (unary_operator m ≡ Some op)

-- the operator between operands
abbrev pub IsBinary : BinaryOperator → List Token → List Token → Type 0
IsBinary op here rest = (m : Mark) × IsMark m here rest × (binary_operator m ≡ Some op)

-- Each operand binds as tightly as its place asks: binary operators group to the left, a conditional to the right (clause 5.1.2).
unfoldable mutual
  pub Spans : ℕ → Tree → List Token → List Token → Type 0
  Spans end (Number at ds) here rest = (at ≡ place end here) × (here ≡ token.Number ds ∷ rest)
  Spans end (Named at name s) here rest = (us : List Token) × (at ≡ place end here) × (here ≡ token.Name name ∷ us) × SelectsSpan end s us rest
  Spans end (Bracketed at e) here rest =
      (us : List Token) × (vs : List Token) × (at ≡ place end here)
      × IsMark mark.OpenParenthesis here us × Spans end e us vs × IsMark mark.CloseParenthesis vs rest
  Spans end (Unary at op e) here rest = (us : List Token) × (at ≡ place end here) × IsUnary op here us × Spans end e us rest × (12 ≤ level e)
  Spans end (Binary op l r) here rest =
      (us : List Token) × (vs : List Token) × Spans end l here us × IsBinary op us vs × Spans end r vs rest
      × (level_of op ≤ level l) × (level_of op < level r)
  Spans end (Conditional c a b) here rest =
      (us : List Token) × (vs : List Token) × (ws : List Token) × (xs : List Token)
      × Spans end c here us × IsMark mark.Question us vs × Spans end a vs ws × IsMark mark.Colon ws xs × Spans end b xs rest
      × (2 ≤ level c)
  Spans end (Concatenation at es) here rest =
      (us : List Token) × (vs : List Token) × (at ≡ place end here)
      × IsMark mark.OpenBrace here us × AllSpan end es us vs × IsMark mark.CloseBrace vs rest
  Spans end (Replication at e es) here rest =
      (us : List Token) × (vs : List Token) × (ws : List Token) × (xs : List Token) × (ys : List Token) × (at ≡ place end here)
      × IsMark mark.OpenBrace here us × Spans end e us vs × IsMark mark.OpenBrace vs ws × AllSpan end es ws xs
      × IsMark mark.CloseBrace xs ys × IsMark mark.CloseBrace ys rest

  pub SelectsSpan : ℕ → SelectsTree → List Token → List Token → Type 0
  SelectsSpan end Whole here rest = here ≡ rest
  SelectsSpan end (One s) here rest = SelectSpans end s here rest
  SelectsSpan end (OfWord at e s) here rest =
      (us : List Token) × (vs : List Token) × (ws : List Token) × (at ≡ place end here)
      × IsMark mark.OpenBracket here us × Spans end e us vs × IsMark mark.CloseBracket vs ws × SelectSpans end s ws rest

  pub SelectSpans : ℕ → SelectTree → List Token → List Token → Type 0
  SelectSpans end (Bit at e) here rest =
      (us : List Token) × (vs : List Token) × (at ≡ place end here)
      × IsMark mark.OpenBracket here us × Spans end e us vs × IsMark mark.CloseBracket vs rest
  SelectSpans end (Part at l r) here rest =
      (us : List Token) × (vs : List Token) × (ws : List Token) × (xs : List Token) × (at ≡ place end here)
      × IsMark mark.OpenBracket here us × Spans end l us vs × IsMark mark.Colon vs ws × Spans end r ws xs × IsMark mark.CloseBracket xs rest
  SelectSpans end (IndexedPart at b w) here rest =
      (us : List Token) × (vs : List Token) × (ws : List Token) × (xs : List Token) × (at ≡ place end here)
      × IsMark mark.OpenBracket here us × Spans end b us vs × IsMark mark.PlusColon vs ws × Spans end w ws xs × IsMark mark.CloseBracket xs rest

  -- one or more, with commas between
  pub AllSpan : ℕ → Trees → List Token → List Token → Type 0
  AllSpan end none here rest = ⊥
  AllSpan end (more e es) here rest = (us : List Token) × Spans end e here us × OthersSpan end es us rest

  -- each behind a comma
  pub OthersSpan : ℕ → Trees → List Token → List Token → Type 0
  OthersSpan end none here rest = here ≡ rest
  OthersSpan end (more e es) here rest =
      (us : List Token) × (vs : List Token) × IsMark mark.Comma here us × Spans end e us vs × OthersSpan end es vs rest

unfoldable mutual
  pub TargetSpans : ℕ → TargetTree → List Token → List Token → Type 0
  TargetSpans end (NamedTarget at name s) here rest =
      (us : List Token) × (at ≡ place end here) × (here ≡ token.Name name ∷ us) × SelectsSpan end s us rest
  TargetSpans end (JoinedTarget at ts) here rest =
      (us : List Token) × (vs : List Token) × (at ≡ place end here)
      × IsMark mark.OpenBrace here us × TargetsSpan end ts us vs × IsMark mark.CloseBrace vs rest

  -- one or more, with commas between
  pub TargetsSpan : ℕ → TargetTrees → List Token → List Token → Type 0
  TargetsSpan end no_target here rest = ⊥
  TargetsSpan end (more_targets t ts) here rest = (us : List Token) × TargetSpans end t here us × OtherTargetsSpan end ts us rest

  -- each behind a comma
  pub OtherTargetsSpan : ℕ → TargetTrees → List Token → List Token → Type 0
  OtherTargetsSpan end no_target here rest = here ≡ rest
  OtherTargetsSpan end (more_targets t ts) here rest =
      (us : List Token) × (vs : List Token) × IsMark mark.Comma here us × TargetSpans end t us vs × OtherTargetsSpan end ts vs rest
