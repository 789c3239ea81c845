-- What an answer claims: what is read is in the grammar; where nothing is, a partial tree spells the tokens before the
-- refused one, and, where the fault is the height, a higher one goes through it.
use Rattle.std.proofs.Common.{◌≡◌, ℕ, ◌+◌, zero, suc, ◌<◌, ◌≤◌, List, ◌∷◌, length, Ok, Err, refl, ap, arith, ◌⊎◌, inl, inr}
use Rattle.v_syntax.specs.declared.token.Token.{Token}
use Rattle.v_syntax.specs.declared.token.Token.TheVariants as token
use Rattle.v_syntax.specs.declared.mark.Mark.{Mark}
use Rattle.v_syntax.specs.declared.mark.Mark.TheVariants as mark
use Rattle.v_syntax.specs.ExpressionTrees.{Tree, Trees, SelectsTree, SelectTree, TargetTree, TargetTrees, height, selects_height, select_height, trees_height, target_height, targets_height}
use Rattle.v_syntax.specs.ExpressionOperators.{level}
use Rattle.v_syntax.specs.ExpressionSpans.{IsMark, Spans, SelectsSpan, SelectSpans, AllSpan, OthersSpan, TargetSpans, TargetsSpan, OtherTargetsSpan}
use Rattle.v_syntax.specs.ExpressionFronts.{ItemsSpan, TargetItemsSpan, WordSpans, NoWord, Word, BoundSpans, NoBound, Left, Base, Begins, Missing, Entire, CutFirst, CutBracketed, CutUnary, CutBinary, CutConditional, CutChoice, CutSelect, CutConcatenation, CutReplication, OpenReplication, TargetBegins, MissingTarget, EntireTarget, CutTargetSelect, CutJoinedTarget}
use Rattle.v_expression.specs.Phrase.Stops.{Stop, Syntax, TooDeep, Answer, ◌>>=◌, after, syntax_at}
use Rattle.v_expression.specs.Reading.{Readers, down, down_from}
use Rattle.v_expression.proofs.Basics.{front, down_fits, down_high}
use Rattle.v_expression.proofs.PhraseLemmas.Marks.{after_case}
use Rattle.v_expression.proofs.PhraseLemmas.Suffixes.{at_most_or_more}

-- what is said of what is read and the tokens behind it, and of the tokens behind a partial tree of a height
pub record Claim (A : Type 0) : Type 1 where
  pub read : A → List Token → Type 0
  pub cut : ℕ → List Token → Type 0
  pub most : ℕ

-- a partial tree behind which j tokens are left
abbrev pub Near : (ℕ → List Token → Type 0) → ℕ → ℕ → Type 0
Near cut n j = (rest : List Token) × cut n rest × (length rest ≡ j)

abbrev pub Refused : {A : Type 0} → Claim A → Stop → Type 0
Refused c (Syntax j) = Near c.cut c.most j
Refused c (TooDeep j) = Near c.cut c.most j × (i : ℕ) × (j ≡ suc i) × Near c.cut (c.most + 1) i

abbrev pub Meets : {A : Type 0} → Claim A → Answer A → Type 0
Meets c (Ok x) = c.read x.0 x.1
Meets c (Err s) = Refused c s

pub refused_up : {A B : Type 0} (c : Claim A) (d : Claim B) → ((rest : List Token) → c.cut c.most rest → d.cut d.most rest) → ((rest : List Token) → c.cut (c.most + 1) rest → d.cut (d.most + 1) rest)
    → (s : Stop) → Refused c s → Refused d s
refused_up c d near high (Syntax j) (rest, q, e) = (rest, near rest q, e)
refused_up c d near high (TooDeep j) ((rest, q, e), i, k, (last, p, f)) = ((rest, near rest q, e), i, k, (last, high last p, f))

pub meets_then : {A B : Type 0} (c : Claim A) (d : Claim B) (f : A × List Token → Answer B) → ((rest : List Token) → c.cut c.most rest → d.cut d.most rest)
    → ((rest : List Token) → c.cut (c.most + 1) rest → d.cut (d.most + 1) rest)
    → ((x : A) (rest : List Token) → c.read x rest → Meets d (f (x, rest))) → (m : Answer A) → Meets c m → Meets d (m >>= f)
meets_then c d f near high ok (Ok (x, rest)) h = ok x rest h
meets_then c d f near high ok (Err s) h = refused_up c d near high s h

-- nothing stands here
pub meets_nothing : {A : Type 0} (c : Claim A) (ts : List Token) → c.cut c.most ts → Meets c (syntax_at ts)
meets_nothing c ts q = (ts, q, refl)

-- a mark has to stand here
pub meets_after : {A : Type 0} (c : Claim A) (m : Mark) (ts : List Token) (f : List Token → Answer A) → ((us : List Token) → IsMark m ts us → Meets c (f us)) → c.cut c.most ts
    → Meets c (after m ts >>= f)
meets_after c m ts f ok q = go (after_case m ts)
  where
    go : ((us : List Token) × (ts ≡ token.Mark m ∷ us) × (after m ts ≡ Ok us)) ⊎ (after m ts ≡ syntax_at ts) → Meets c (after m ts >>= f)
    go (inl (us, e, h)) = rw h (ok us e)
    go (inr h) = rw h (meets_nothing c ts q)

-- a node that begins with a token of its own
pub meets_down : {A : Type 0} (c : Claim A) (room : ℕ) (sub : Readers) (here : List Token) (t : Token) (us : List Token) (f : Readers → Answer A)
    → here ≡ t ∷ us → (1 ≤ room → Meets c (f sub)) → c.cut c.most here → c.cut (c.most + 1) us → Meets c (down room sub here >>= f)
unfolding down
meets_down c zero sub here t us f e ok q p = ((here, q, refl), length us, ap length e, (us, p, refl))
meets_down c (suc room) sub here t us f e ok q p = ok (omega arith)

-- a node whose first part has been read
pub meets_down_from : {A : Type 0} (c : Claim A) (room : ℕ) (sub : Readers) (first : Tree) (here : List Token) (t : Token) (us : List Token) (f : Readers → Answer A)
    → here ≡ t ∷ us → (height first ≤ room → Meets c (f sub)) → c.cut c.most here → c.cut (c.most + 1) us → Meets c (down_from room sub first here >>= f)
meets_down_from c room sub first here t us f e ok q p = go (at_most_or_more (height first) room)
  where
    go : (height first ≤ room) ⊎ (room < height first) → Meets c (down_from room sub first here >>= f)
    go (inl h) = rw (down_fits room sub first here h) (ok h)
    go (inr h) = rw (down_high room sub first here h) ((here, q, refl), length us, ap length e, (us, p, refl))

-- ---- what each reader claims

pub record Read (end n k limit : ℕ) (here : List Token) (e : Tree) (rest : List Token) : Type 0 where
  pub spans : Spans end e here rest
  pub binds : k ≤ level e
  pub fits : height e ≤ n
  -- no operator of the limit's level or above follows
  pub stops : front rest < limit

abbrev pub tree : ℕ → ℕ → ℕ → ℕ → List Token → Claim Tree
tree end n k limit here = record { read = λ e rest. Read end n k limit here e rest; cut = λ m rest. Begins end m k here rest; most = n }

-- of a name's selects
pub data SelectsBegin (end n : ℕ) (here rest : List Token) : Type 0 where
  EntireSelects : (s : SelectsTree) → SelectsSpan end s here rest → selects_height s ≤ n → SelectsBegin end n here rest
  CutSelects : (m : ℕ) (us vs : List Token) → m < n → WordSpans end m here us → BoundSpans end m us vs → Begins end m 1 vs rest → SelectsBegin end n here rest

abbrev pub selects : ℕ → ℕ → List Token → Claim SelectsTree
selects end n here = record { read = λ s rest. SelectsSpan end s here rest × (selects_height s ≤ n); cut = λ m rest. SelectsBegin end m here rest; most = n }

-- of one select, whose parts have at most this height
pub data SelectBegins (end n : ℕ) (here rest : List Token) : Type 0 where
  NoSelect : here ≡ rest → SelectBegins end n here rest
  SomeSelect : (us : List Token) → BoundSpans end n here us → Begins end n 1 us rest → SelectBegins end n here rest

abbrev pub select : ℕ → ℕ → List Token → Claim SelectTree
select end n here = record { read = λ s rest. SelectSpans end s here rest × (select_height s ≤ n); cut = λ m rest. SelectBegins end m here rest; most = n }

-- an expression and a closing bracket
abbrev pub last : ℕ → ℕ → List Token → Claim Tree
last end n here = record { read = λ e rest. (us : List Token) × Spans end e here us × IsMark mark.CloseBracket us rest × (height e ≤ n); cut = λ m rest. Begins end m 1 here rest; most = n }

-- of the parts behind a first one
pub data OthersBegin (end n : ℕ) (here rest : List Token) : Type 0 where
  NoOther : here ≡ rest → OthersBegin end n here rest
  SomeOther : (us vs : List Token) (es : Trees) → IsMark mark.Comma here us → ItemsSpan end es us vs → trees_height es ≤ n → Begins end n 1 vs rest → OthersBegin end n here rest

abbrev pub others : ℕ → ℕ → List Token → Claim Trees
others end n here = record {
  read = λ es rest. (us : List Token) × OthersSpan end es here us × IsMark mark.CloseBrace us rest × (trees_height es ≤ n);
  cut = λ m rest. OthersBegin end m here rest;
  most = n;
}

abbrev pub PartsBegin : ℕ → ℕ → List Token → List Token → Type 0
PartsBegin end n here rest = (us : List Token) × (es : Trees) × ItemsSpan end es here us × (trees_height es ≤ n) × Begins end n 1 us rest

abbrev pub parts : ℕ → ℕ → List Token → Claim Trees
parts end n here = record {
  read = λ es rest. (us : List Token) × AllSpan end es here us × IsMark mark.CloseBrace us rest × (trees_height es ≤ n);
  cut = λ m rest. PartsBegin end m here rest;
  most = n;
}

abbrev pub target : ℕ → ℕ → List Token → Claim TargetTree
target end n here = record { read = λ t rest. TargetSpans end t here rest × (target_height t ≤ n); cut = λ m rest. TargetBegins end m here rest; most = n }

pub data OtherTargetsBegin (end n : ℕ) (here rest : List Token) : Type 0 where
  NoOtherTarget : here ≡ rest → OtherTargetsBegin end n here rest
  SomeOtherTarget : (us vs : List Token) (ts : TargetTrees) → IsMark mark.Comma here us → TargetItemsSpan end ts us vs → targets_height ts ≤ n → TargetBegins end n vs rest
      → OtherTargetsBegin end n here rest

abbrev pub other_targets : ℕ → ℕ → List Token → Claim TargetTrees
other_targets end n here = record {
  read = λ ts rest. (us : List Token) × OtherTargetsSpan end ts here us × IsMark mark.CloseBrace us rest × (targets_height ts ≤ n);
  cut = λ m rest. OtherTargetsBegin end m here rest;
  most = n;
}

abbrev pub TargetPartsBegin : ℕ → ℕ → List Token → List Token → Type 0
TargetPartsBegin end n here rest = (us : List Token) × (ts : TargetTrees) × TargetItemsSpan end ts here us × (targets_height ts ≤ n) × TargetBegins end n us rest

abbrev pub target_parts : ℕ → ℕ → List Token → Claim TargetTrees
target_parts end n here = record {
  read = λ ts rest. (us : List Token) × TargetsSpan end ts here us × IsMark mark.CloseBrace us rest × (targets_height ts ≤ n);
  cut = λ m rest. TargetPartsBegin end m here rest;
  most = n;
}

-- ---- more room for a partial tree

pub word_more : (end n m : ℕ) (here rest : List Token) → n ≤ m → WordSpans end n here rest → WordSpans end m here rest
word_more end n m here rest h (NoWord e) = NoWord e
word_more end n m here rest h (Word us vs e p s f q) = Word us vs e p s (omega arith) q

pub bound_more : (end n m : ℕ) (here rest : List Token) → n ≤ m → BoundSpans end n here rest → BoundSpans end m here rest
bound_more end n m here rest h (NoBound p) = NoBound p
bound_more end n m here rest h (Left us vs e p s f q) = Left us vs e p s (omega arith) q
bound_more end n m here rest h (Base us vs e p s f q) = Base us vs e p s (omega arith) q

pub begins_more : (end : ℕ) {n k : ℕ} {here rest : List Token} (m : ℕ) → n ≤ m → Begins end n k here rest → Begins end m k here rest
begins_more end m h (Missing p e) = Missing (omega arith) e
begins_more end m h (Entire e s f b) = Entire e s (omega arith) b
begins_more end m h (CutFirst j i l k q) = CutFirst j i (omega arith) k q
begins_more end m h (CutBracketed j us l p q) = CutBracketed j us (omega arith) p q
begins_more end m h (CutUnary j us op l p q) = CutUnary j us op (omega arith) p q
begins_more end m h (CutBinary j us vs op l lt s f b p k q) = CutBinary j us vs op l (omega arith) s f b p k q
begins_more end m h (CutConditional j us vs c lt s f b p k q) = CutConditional j us vs c (omega arith) s f b p k q
begins_more end m h (CutChoice j us vs ws xs c a lt s f b p t g r k q) = CutChoice j us vs ws xs c a (omega arith) s f b p t g r k q
begins_more end m h (CutSelect j us vs ws name lt p w b q) = CutSelect j us vs ws name (omega arith) p w b q
begins_more end m h (CutConcatenation j us vs es lt p i f q) = CutConcatenation j us vs es (omega arith) p i f q
begins_more end m h (CutReplication j us vs ws xs c es lt p s f r i g q) = CutReplication j us vs ws xs c es (omega arith) p s f r i g q
begins_more end m h (OpenReplication j us vs ws xs c es lt p s f r i g q) = OpenReplication j us vs ws xs c es (omega arith) p s f r i g q

-- a looser level
pub begins_looser : (end : ℕ) {n k : ℕ} {here rest : List Token} (j : ℕ) → j ≤ k → Begins end n k here rest → Begins end n j here rest
begins_looser end j h (Missing p e) = Missing p e
begins_looser end j h (Entire e s f b) = Entire e s f (omega arith)
begins_looser end j h (CutFirst m i l k q) = CutFirst m i l (omega arith) q
begins_looser end j h (CutBracketed m us l p q) = CutBracketed m us l p q
begins_looser end j h (CutUnary m us op l p q) = CutUnary m us op l p q
begins_looser end j h (CutBinary m us vs op l lt s f b p k q) = CutBinary m us vs op l lt s f b p (omega arith) q
begins_looser end j h (CutConditional m us vs c lt s f b p k q) = CutConditional m us vs c lt s f b p (omega arith) q
begins_looser end j h (CutChoice m us vs ws xs c a lt s f b p t g r k q) = CutChoice m us vs ws xs c a lt s f b p t g r (omega arith) q
begins_looser end j h (CutSelect m us vs ws name lt p w b q) = CutSelect m us vs ws name lt p w b q
begins_looser end j h (CutConcatenation m us vs es lt p i f q) = CutConcatenation m us vs es lt p i f q
begins_looser end j h (CutReplication m us vs ws xs c es lt p s f r i g q) = CutReplication m us vs ws xs c es lt p s f r i g q
begins_looser end j h (OpenReplication m us vs ws xs c es lt p s f r i g q) = OpenReplication m us vs ws xs c es lt p s f r i g q

pub target_begins_more : (end : ℕ) {n : ℕ} {here rest : List Token} (m : ℕ) → n ≤ m → TargetBegins end n here rest → TargetBegins end m here rest
target_begins_more end m h (MissingTarget p e) = MissingTarget (omega arith) e
target_begins_more end m h (EntireTarget t s f) = EntireTarget t s (omega arith)
target_begins_more end m h (CutTargetSelect j us vs ws name lt p w b q) = CutTargetSelect j us vs ws name (omega arith) p w b q
target_begins_more end m h (CutJoinedTarget j us vs ts lt p i f q) = CutJoinedTarget j us vs ts (omega arith) p i f q
