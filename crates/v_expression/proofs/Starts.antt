-- What an expression or a target begins with.
use Rattle.std.proofs.Common.{◌≡◌, ℕ, ◌≤◌, true, false, List, [], ◌∷◌, Some, None, refl, ap, ◌∙◌, arith, ◌⊎◌, inl, inr}
use Rattle.v_syntax.specs.declared.token.Token.{Token}
use Rattle.v_syntax.specs.declared.token.Token.TheVariants as token
use Rattle.v_syntax.specs.declared.mark.Mark.{Mark}
use Rattle.v_syntax.specs.declared.mark.Mark.TheVariants as mark
use Rattle.v_syntax.specs.declared.expression.UnaryOperator.{UnaryOperator}
use Rattle.v_syntax.specs.ExpressionTrees.{Tree, Number, Named, Bracketed, Unary, Binary, Conditional, Concatenation, Replication, none, Whole, TargetTree, NamedTarget, JoinedTarget, no_target, height, selects_height, trees_height, target_height, targets_height}
use Rattle.v_syntax.specs.ExpressionOperators.{unary_operator, level}
use Rattle.v_syntax.specs.ExpressionSpans.{IsUnary, place, Spans, SelectsSpan, TargetSpans}
use Rattle.v_syntax.specs.ExpressionFronts.{ItemsSpan, TargetItemsSpan, Begins, Missing, Entire, CutFirst, CutBracketed, CutUnary, CutBinary, CutConditional, CutChoice, CutSelect, CutConcatenation, CutReplication, OpenReplication, TargetBegins, MissingTarget, EntireTarget, CutTargetSelect, CutJoinedTarget}
use Rattle.v_expression.specs.Phrase.Stops.{syntax_at}
use Rattle.v_expression.specs.Reading.{below, primary_of, unary_of, climb_of, whole_of, any_target_of}
use Rattle.v_expression.specs.Starts.{mark_begins_expression, begins_expression, starts_expression, begins_target, starts_target}

unary_begins : (m : Mark) (op : UnaryOperator) → unary_operator m ≡ Some op → mark_begins_expression m ≡ true
unary_begins mark.Plus op h = refl
unary_begins mark.Minus op h = refl
unary_begins mark.Exclamation op h = refl
unary_begins mark.Tilde op h = refl
unary_begins mark.Ampersand op h = refl
unary_begins mark.Nand op h = refl
unary_begins mark.Bar op h = refl
unary_begins mark.Nor op h = refl
unary_begins mark.Caret op h = refl
unary_begins mark.TildeCaret op h = refl
unary_begins mark.CaretTilde op h = refl
unary_begins mark.OpenParenthesis op h = refl
unary_begins mark.OpenBrace op h = refl
unary_begins _ op h = absurd (let e : None ≡ Some op = h in cc)

unary_starts : (op : UnaryOperator) (here rest : List Token) → IsUnary op here rest → starts_expression here ≡ true
unary_starts op here rest (m, p, o) = ap starts_expression p ∙ unary_begins m op o

pub spans_start : (e : Tree) (end : ℕ) (here rest : List Token) → Spans end e here rest → starts_expression here ≡ true
unfolding Spans
spans_start (Number at ds) end here rest (a, p) = ap starts_expression p
spans_start (Named at name s) end here rest (us, a, p, q) = ap starts_expression p
spans_start (Bracketed at e) end here rest (us, vs, a, p, s, q) = ap starts_expression p
spans_start (Unary at op e) end here rest (us, a, p, s, b) = unary_starts op here us p
spans_start (Binary op l r) end here rest (us, vs, s, p, t, b, c) = spans_start l end here us s
spans_start (Conditional c x y) end here rest (us, vs, ws, xs, s, p, t, q, u, b) = spans_start c end here us s
spans_start (Concatenation at es) end here rest (us, vs, a, p, s, q) = ap starts_expression p
spans_start (Replication at e es) end here rest (us, vs, ws, xs, ys, a, p, s, q, t, u, v) = ap starts_expression p

pub begins_start : (end n k : ℕ) (here rest : List Token) → Begins end n k here rest → (here ≡ rest) ⊎ (starts_expression here ≡ true)
begins_start end n k here rest (Missing p e) = inl e
begins_start end n k here rest (Entire e s f d) = inr (spans_start e end here rest s)
begins_start end n k here rest (CutFirst m j l d x) = begins_start end m j here rest x
begins_start end n k here rest (CutBracketed m us l p x) = inr (ap starts_expression p)
begins_start end n k here rest (CutUnary m us op l p x) = inr (unary_starts op here us p)
begins_start end n k here rest (CutBinary m us vs op y l s f a p d x) = inr (spans_start y end here us s)
begins_start end n k here rest (CutConditional m us vs y l s f a p d x) = inr (spans_start y end here us s)
begins_start end n k here rest (CutChoice m us vs ws xs y w l s f a p t g r d x) = inr (spans_start y end here us s)
begins_start end n k here rest (CutSelect m us vs ws name l p w d x) = inr (ap starts_expression p)
begins_start end n k here rest (CutConcatenation m us vs es l p t f x) = inr (ap starts_expression p)
begins_start end n k here rest (CutReplication m us vs ws xs e es l p s f r t g x) = inr (ap starts_expression p)
begins_start end n k here rest (OpenReplication m us vs ws xs e es l p s f r t g x) = inr (ap starts_expression p)

pub target_start : (t : TargetTree) (end : ℕ) (here rest : List Token) → TargetSpans end t here rest → starts_target here ≡ true
unfolding TargetSpans
target_start (NamedTarget at name s) end here rest (us, a, p, q) = ap starts_target p
target_start (JoinedTarget at ts) end here rest (us, vs, a, p, s, q) = ap starts_target p

pub target_begins_start : (end n : ℕ) (here rest : List Token) → TargetBegins end n here rest → (here ≡ rest) ⊎ (starts_target here ≡ true)
target_begins_start end n here rest (MissingTarget p e) = inl e
target_begins_start end n here rest (EntireTarget t s f) = inr (target_start t end here rest s)
target_begins_start end n here rest (CutTargetSelect m us vs ws name l p w d x) = inr (ap starts_target p)
target_begins_start end n here rest (CutJoinedTarget m us vs ts l p t f x) = inr (ap starts_target p)

-- a token with which an expression begins is a partial expression
prefix_opens : (end n : ℕ) (m : Mark) (op : UnaryOperator) (us : List Token) → unary_operator m ≡ Some op → 2 ≤ n → Begins end n 1 (token.Mark m ∷ us) us
prefix_opens end n m op us o h = CutUnary 1 us op h (m, refl, o) (Missing (omega arith) refl)

pub expression_opens : (end n : ℕ) (t : Token) (us : List Token) → begins_expression t ≡ true → 2 ≤ n → Begins end n 1 (t ∷ us) us
unfolding Spans SelectsSpan height selects_height level ItemsSpan trees_height
expression_opens end n (token.Name name) us b h = Entire (Named (place end (token.Name name ∷ us)) name Whole) (us, refl, refl, refl) (omega arith) (omega arith)
expression_opens end n (token.Number ds) us b h = Entire (Number (place end (token.Number ds ∷ us)) ds) (refl, refl) (omega arith) (omega arith)
expression_opens end n (token.Mark mark.Plus) us b h = prefix_opens end n _ _ us refl h
expression_opens end n (token.Mark mark.Minus) us b h = prefix_opens end n _ _ us refl h
expression_opens end n (token.Mark mark.Exclamation) us b h = prefix_opens end n _ _ us refl h
expression_opens end n (token.Mark mark.Tilde) us b h = prefix_opens end n _ _ us refl h
expression_opens end n (token.Mark mark.Ampersand) us b h = prefix_opens end n _ _ us refl h
expression_opens end n (token.Mark mark.Nand) us b h = prefix_opens end n _ _ us refl h
expression_opens end n (token.Mark mark.Bar) us b h = prefix_opens end n _ _ us refl h
expression_opens end n (token.Mark mark.Nor) us b h = prefix_opens end n _ _ us refl h
expression_opens end n (token.Mark mark.Caret) us b h = prefix_opens end n _ _ us refl h
expression_opens end n (token.Mark mark.TildeCaret) us b h = prefix_opens end n _ _ us refl h
expression_opens end n (token.Mark mark.CaretTilde) us b h = prefix_opens end n _ _ us refl h
expression_opens end n (token.Mark mark.OpenParenthesis) us b h = CutBracketed 1 us h refl (Missing (omega arith) refl)
expression_opens end n (token.Mark mark.OpenBrace) us b h = CutConcatenation 1 us us none h refl refl (omega arith) (Missing (omega arith) refl)
expression_opens end n t us b h = absurd (let e : false ≡ true = b in cc)

pub target_opens : (end n : ℕ) (t : Token) (us : List Token) → begins_target t ≡ true → 2 ≤ n → TargetBegins end n (t ∷ us) us
unfolding TargetSpans SelectsSpan target_height selects_height TargetItemsSpan targets_height
target_opens end n (token.Name name) us b h = EntireTarget (NamedTarget (place end (token.Name name ∷ us)) name Whole) (us, refl, refl, refl) (omega arith)
target_opens end n (token.Mark mark.OpenBrace) us b h = CutJoinedTarget 1 us us no_target h refl refl (omega arith) (MissingTarget (omega arith) refl)
target_opens end n t us b h = absurd (let e : false ≡ true = b in cc)

-- and no other token is
pub no_expression : (end room : ℕ) (ts : List Token) → starts_expression ts ≡ false → whole_of end room (below end room) ts ≡ syntax_at ts
unfolding whole_of climb_of unary_of primary_of
no_expression end room [] b = refl
no_expression end room (token.Name name ∷ us) b = absurd (let e : true ≡ false = b in cc)
no_expression end room (token.Number ds ∷ us) b = absurd (let e : true ≡ false = b in cc)
no_expression end room (token.Mark mark.Plus ∷ us) b = absurd (let e : true ≡ false = b in cc)
no_expression end room (token.Mark mark.Minus ∷ us) b = absurd (let e : true ≡ false = b in cc)
no_expression end room (token.Mark mark.Exclamation ∷ us) b = absurd (let e : true ≡ false = b in cc)
no_expression end room (token.Mark mark.Tilde ∷ us) b = absurd (let e : true ≡ false = b in cc)
no_expression end room (token.Mark mark.Ampersand ∷ us) b = absurd (let e : true ≡ false = b in cc)
no_expression end room (token.Mark mark.Nand ∷ us) b = absurd (let e : true ≡ false = b in cc)
no_expression end room (token.Mark mark.Bar ∷ us) b = absurd (let e : true ≡ false = b in cc)
no_expression end room (token.Mark mark.Nor ∷ us) b = absurd (let e : true ≡ false = b in cc)
no_expression end room (token.Mark mark.Caret ∷ us) b = absurd (let e : true ≡ false = b in cc)
no_expression end room (token.Mark mark.TildeCaret ∷ us) b = absurd (let e : true ≡ false = b in cc)
no_expression end room (token.Mark mark.CaretTilde ∷ us) b = absurd (let e : true ≡ false = b in cc)
no_expression end room (token.Mark mark.OpenParenthesis ∷ us) b = absurd (let e : true ≡ false = b in cc)
no_expression end room (token.Mark mark.OpenBrace ∷ us) b = absurd (let e : true ≡ false = b in cc)
no_expression end room (t ∷ us) b = refl

pub no_target_here : (end room : ℕ) (ts : List Token) → starts_target ts ≡ false → any_target_of end room (below end room) ts ≡ syntax_at ts
unfolding any_target_of
no_target_here end room [] b = refl
no_target_here end room (token.Name name ∷ us) b = absurd (let e : true ≡ false = b in cc)
no_target_here end room (token.Mark mark.OpenBrace ∷ us) b = absurd (let e : true ≡ false = b in cc)
no_target_here end room (t ∷ us) b = refl
