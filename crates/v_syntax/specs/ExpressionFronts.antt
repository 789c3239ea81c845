-- Partial trees of expressions and targets. A partial tree is a tree from whose right edge parts may be missing: a node
-- keeps its first parts, the last part that it keeps may itself be partial, and all parts behind that one are missing. It
-- spells the tokens of the parts that it has. A missing expression or target that its rule needs counts as height 1.
--
-- A node of which no more is kept than a cut first part spells what that part spells: `CutFirst`.
use Rattle.std.specs.Prelude.{◌≡◌, ℕ, ◌+◌, ◌≤◌, ◌<◌, List, ◌∷◌}
use Rattle.v_syntax.specs.declared.token.Token.{Token}
use Rattle.v_syntax.specs.declared.token.Token.TheVariants as token
use Rattle.v_syntax.specs.declared.mark.Mark.TheVariants as mark
use Rattle.v_syntax.specs.declared.expression.UnaryOperator.{UnaryOperator}
use Rattle.v_syntax.specs.declared.expression.BinaryOperator.{BinaryOperator}
use Rattle.v_syntax.specs.ExpressionTrees.{Tree, Trees, none, more, TargetTree, TargetTrees, no_target, more_targets, height, trees_height, target_height, targets_height}
use Rattle.v_syntax.specs.ExpressionOperators.{level_of, level}
use Rattle.v_syntax.specs.ExpressionSpans.{IsMark, IsUnary, IsBinary, Spans, AllSpan, TargetSpans}

-- whole expressions, each before a comma
unfoldable pub ItemsSpan : ℕ → Trees → List Token → List Token → Type 0
ItemsSpan end none here rest = here ≡ rest
ItemsSpan end (more e es) here rest =
    (us : List Token) × (vs : List Token) × Spans end e here us × IsMark mark.Comma us vs × ItemsSpan end es vs rest

unfoldable pub TargetItemsSpan : ℕ → TargetTrees → List Token → List Token → Type 0
TargetItemsSpan end no_target here rest = here ≡ rest
TargetItemsSpan end (more_targets t ts) here rest =
    (us : List Token) × (vs : List Token) × TargetSpans end t here us × IsMark mark.Comma us vs × TargetItemsSpan end ts vs rest

-- behind a name, what stands before the select that is cut: nothing, or the index of a memory's word; n bounds heights
pub data WordSpans (end n : ℕ) (here rest : List Token) : Type 0 where
  NoWord : here ≡ rest → WordSpans end n here rest
  Word : (us vs : List Token) (e : Tree)
      → IsMark mark.OpenBracket here us → Spans end e us vs → height e ≤ n → IsMark mark.CloseBracket vs rest → WordSpans end n here rest

-- in a select, what stands before the part that is cut; n bounds heights
pub data BoundSpans (end n : ℕ) (here rest : List Token) : Type 0 where
  NoBound : IsMark mark.OpenBracket here rest → BoundSpans end n here rest
  Left : (us vs : List Token) (e : Tree)
      → IsMark mark.OpenBracket here us → Spans end e us vs → height e ≤ n → IsMark mark.Colon vs rest → BoundSpans end n here rest
  Base : (us vs : List Token) (e : Tree)
      → IsMark mark.OpenBracket here us → Spans end e us vs → height e ≤ n → IsMark mark.PlusColon vs rest → BoundSpans end n here rest

-- A partial tree of height at most n, which binds as tightly as the level k asks, spells the tokens from here to rest.
pub data Begins (end : ℕ) : ℕ → ℕ → List Token → List Token → Type 0 where
  Missing : {n k : ℕ} {here rest : List Token} → 1 ≤ n → here ≡ rest → Begins end n k here rest
  Entire : {n k : ℕ} {here rest : List Token} (e : Tree) → Spans end e here rest → height e ≤ n → k ≤ level e → Begins end n k here rest
  CutFirst : {n k : ℕ} {here rest : List Token} (m j : ℕ) → m < n → k ≤ j → Begins end m j here rest → Begins end n k here rest
  CutBracketed : {n k : ℕ} {here rest : List Token} (m : ℕ) (us : List Token)
      → m < n → IsMark mark.OpenParenthesis here us → Begins end m 1 us rest → Begins end n k here rest
  CutUnary : {n k : ℕ} {here rest : List Token} (m : ℕ) (us : List Token) (op : UnaryOperator)
      → m < n → IsUnary op here us → Begins end m 12 us rest → Begins end n k here rest
  CutBinary : {n k : ℕ} {here rest : List Token} (m : ℕ) (us vs : List Token) (op : BinaryOperator) (l : Tree)
      → m < n → Spans end l here us → height l ≤ m → level_of op ≤ level l → IsBinary op us vs
      → k ≤ level_of op → Begins end m (level_of op + 1) vs rest → Begins end n k here rest
  -- without its second and third part, or without its third alone
  CutConditional : {n k : ℕ} {here rest : List Token} (m : ℕ) (us vs : List Token) (c : Tree)
      → m < n → Spans end c here us → height c ≤ m → 2 ≤ level c → IsMark mark.Question us vs
      → k ≤ 1 → Begins end m 1 vs rest → Begins end n k here rest
  CutChoice : {n k : ℕ} {here rest : List Token} (m : ℕ) (us vs ws xs : List Token) (c a : Tree)
      → m < n → Spans end c here us → height c ≤ m → 2 ≤ level c → IsMark mark.Question us vs
      → Spans end a vs ws → height a ≤ m → IsMark mark.Colon ws xs
      → k ≤ 1 → Begins end m 1 xs rest → Begins end n k here rest
  CutSelect : {n k : ℕ} {here rest : List Token} (m : ℕ) (us vs ws : List Token) (name : List ℕ)
      → m < n → here ≡ token.Name name ∷ us → WordSpans end m us vs → BoundSpans end m vs ws → Begins end m 1 ws rest → Begins end n k here rest
  -- also a replication of which no more is kept than a cut count
  CutConcatenation : {n k : ℕ} {here rest : List Token} (m : ℕ) (us vs : List Token) (es : Trees)
      → m < n → IsMark mark.OpenBrace here us → ItemsSpan end es us vs → trees_height es ≤ m → Begins end m 1 vs rest → Begins end n k here rest
  CutReplication : {n k : ℕ} {here rest : List Token} (m : ℕ) (us vs ws xs : List Token) (c : Tree) (es : Trees)
      → m < n → IsMark mark.OpenBrace here us → Spans end c us vs → height c ≤ m → IsMark mark.OpenBrace vs ws
      → ItemsSpan end es ws xs → trees_height es ≤ m → Begins end m 1 xs rest → Begins end n k here rest
  -- without its last brace alone
  OpenReplication : {n k : ℕ} {here rest : List Token} (m : ℕ) (us vs ws xs : List Token) (c : Tree) (es : Trees)
      → m < n → IsMark mark.OpenBrace here us → Spans end c us vs → height c ≤ m → IsMark mark.OpenBrace vs ws
      → AllSpan end es ws xs → trees_height es ≤ m → IsMark mark.CloseBrace xs rest → Begins end n k here rest

-- the same of a target
pub data TargetBegins (end : ℕ) : ℕ → List Token → List Token → Type 0 where
  MissingTarget : {n : ℕ} {here rest : List Token} → 1 ≤ n → here ≡ rest → TargetBegins end n here rest
  EntireTarget : {n : ℕ} {here rest : List Token} (t : TargetTree) → TargetSpans end t here rest → target_height t ≤ n → TargetBegins end n here rest
  CutTargetSelect : {n : ℕ} {here rest : List Token} (m : ℕ) (us vs ws : List Token) (name : List ℕ)
      → m < n → here ≡ token.Name name ∷ us → WordSpans end m us vs → BoundSpans end m vs ws → Begins end m 1 ws rest → TargetBegins end n here rest
  CutJoinedTarget : {n : ℕ} {here rest : List Token} (m : ℕ) (us vs : List Token) (ts : TargetTrees)
      → m < n → IsMark mark.OpenBrace here us → TargetItemsSpan end ts us vs → targets_height ts ≤ m → TargetBegins end m vs rest → TargetBegins end n here rest
