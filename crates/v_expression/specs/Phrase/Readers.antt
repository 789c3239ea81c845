-- A means of proof: readers of phrases, put together as the phrases are. A reader gives what stands at the front of some tokens with the
-- tokens behind it, or where reading stops. Of an alternative the first token decides.
use Rattle.std.specs.Prelude.{ℕ, zero, suc, Bool, true, false, List, [], ◌∷◌, ◌++◌, length, Option, Some, None, Result, Ok, if◌then◌else◌}
use Rattle.v_syntax.specs.declared.token.Token.{Token}
use Rattle.v_syntax.specs.declared.token.Token.TheVariants as token
use Rattle.v_syntax.specs.declared.mark.Mark.{Mark}
use Rattle.v_syntax.specs.declared.mark.Mark.TheVariants as mark
use Rattle.v_syntax.specs.declared.word.Keyword.{Keyword}
use Rattle.v_syntax.specs.declared.word.Keyword.TheVariants as word
use Rattle.v_syntax.specs.SameWords.{same_word}
use Rattle.v_syntax.specs.ExpressionSpans.{place}
use Rattle.v_syntax.specs.declared.statement.Identifier.{Identifier}
use Rattle.v_syntax.specs.TokenMeanings.{name_of}
use Rattle.v_syntax.specs.Statements.{named_at}
use Rattle.v_expression.specs.Phrase.Stops.{Stop, Answer, ◌>>=◌, syntax_at, deep_at, is_mark, after}

abbrev pub Reader : Type 0 → Type 0
Reader A = List Token → Answer A

-- ---- tokens

abbrev pub is_word : Keyword → Token → Bool
is_word k (token.Keyword w) = same_word w k
is_word k (token.Name n) = false
is_word k (token.Mark m) = false
is_word k (token.Reserved w) = false
is_word k (token.SystemTask t) = false
is_word k (token.Number ds) = false
is_word k (token.Text t) = false

-- whether a token of that kind stands first
abbrev pub starts_with : (Token → Bool) → List Token → Bool
starts_with is [] = false
starts_with is (t ∷ ts) = is t

abbrev pub is_some : {A : Type 0} → Option A → Bool
is_some (Some x) = true
is_some None = false

abbrev pub nothing : {A : Type 0} → A → Reader A
nothing x ts = Ok (x, ts)

-- a token without a value
abbrev pub exactly : (Token → Bool) → Reader (Unit {0})
exactly is [] = syntax_at []
exactly is (t ∷ ts) = if is t then Ok (tt, ts) else syntax_at (t ∷ ts)

abbrev pub meant : {A : Type 0} → Token → List Token → Option A → Answer A
meant t ts (Some x) = Ok (x, ts)
meant t ts None = syntax_at (t ∷ ts)

-- a token with a meaning
abbrev pub token_of : {A : Type 0} → (Token → Option A) → Reader A
token_of meaning [] = syntax_at []
token_of meaning (t ∷ ts) = meant t ts (meaning t)

-- the number of the token that comes next, in a text of so many tokens
abbrev pub place_in : ℕ → Reader ℕ
place_in end ts = Ok (place end ts, ts)

-- ---- one after the other

abbrev pub both : {A B C : Type 0} → (A → B → C) → Reader A → Reader B → Reader C
both make p q ts = p ts >>= λ x. q x.1 >>= λ y. Ok (make x.0 y.0, y.1)

infixl 20 ◌⊛◌
abbrev pub ◌⊛◌ : {A B : Type 0} → Reader (A → B) → Reader A → Reader B
p ⊛ q = both (λ f x. f x) p q

infixl 20 ◌◃◌
abbrev pub ◌◃◌ : {A B : Type 0} → Reader A → Reader B → Reader A
p ◃ q = both (λ x y. x) p q

infixl 20 ◌▹◌
abbrev pub ◌▹◌ : {A B : Type 0} → Reader A → Reader B → Reader B
p ▹ q = both (λ x y. y) p q

-- ---- by the first token

-- [p]
abbrev pub maybe : {A : Type 0} → (List Token → Bool) → Reader A → Reader (Option A)
maybe starts p ts = if starts ts then (p ts >>= λ x. Ok (Some x.0, x.1)) else Ok (None, ts)

-- {p}, at most n of them
unfoldable pub many_by : {A : Type 0} → (List Token → Bool) → Reader A → ℕ → Reader (List A)
many_by starts p zero ts = Ok ([], ts)
many_by starts p (suc n) ts = if starts ts then (p ts >>= λ x. many_by starts p n x.1 >>= λ xs. Ok (x.0 ∷ xs.0, xs.1)) else Ok ([], ts)

-- what is read behind a list, with the list
abbrev pub with_front : {A : Type 0} → List A → Answer (List A) → Answer (List A)
with_front xs read = read >>= λ x. Ok (xs ++ x.0, x.1)

-- {p}; each takes a token
abbrev pub many : {A : Type 0} → (List Token → Bool) → Reader A → Reader (List A)
many starts p ts = many_by starts p (length ts) ts

abbrev pub some : {A : Type 0} → (List Token → Bool) → Reader A → Reader (List A)
some starts p = both ◌∷◌ p (many starts p)

-- one or more, with a separator between
abbrev pub separated : {S A : Type 0} → (List Token → Bool) → Reader S → Reader A → Reader (List A)
separated starts s p = both ◌∷◌ p (many starts (s ▹ p))

-- one of several
abbrev pub one_by : {I A : Type 0} → (I → Reader A) → List Token → Option I → Answer A
one_by p ts (Some i) = p i ts
one_by p ts None = syntax_at ts

abbrev pub one_of : {I A : Type 0} → (List Token → Option I) → (I → Reader A) → Reader A
one_of which p ts = one_by p ts (which ts)

-- the first where it starts here, else the second
abbrev pub either : {A : Type 0} → (List Token → Bool) → Reader A → Reader A → Reader A
either starts p q ts = if starts ts then p ts else q ts

-- a statement, and the one behind an `else` that follows it
abbrev pub branches : {A : Type 0} → Reader A → Reader (A × Option A)
branches p ts = p ts >>= λ x. if starts_with (is_word word.Else) x.1 then ((exactly (is_word word.Else) ▹ p) x.1 >>= λ y. Ok ((x.0, Some y.0), y.1)) else Ok ((x.0, None), x.1)

-- ---- levels

-- what stands one level down
abbrev pub down : {A : Type 0} → ℕ → (ℕ → Reader A) → Reader A
down zero p ts = deep_at ts
down (suc room) p ts = p room ts

-- ---- marks and words

abbrev pub starts_mark : Mark → List Token → Bool
starts_mark m = starts_with (is_mark m)

abbrev pub starts_word : Keyword → List Token → Bool
starts_word k = starts_with (is_word k)

abbrev pub sign : Mark → Reader (Unit {0})
sign m ts = after m ts >>= λ us. Ok (tt, us)

abbrev pub word_of : Keyword → Reader (Unit {0})
word_of k = exactly (is_word k)

-- a name with the number of its token, in a text of so many tokens
unfoldable pub identifier_of : ℕ → Reader Identifier
identifier_of end = nothing named_at ⊛ place_in end ⊛ token_of name_of

-- one or more, with commas between
unfoldable pub listed : {A : Type 0} → Reader A → Reader (List A)
listed p = separated (starts_mark mark.Comma) (sign mark.Comma) p

-- ---- the whole text

abbrev pub at_the_end : {A : Type 0} → A × List Token → Result A Stop
at_the_end (x, []) = Ok x
at_the_end (x, t ∷ ts) = syntax_at (t ∷ ts)

-- a phrase that nothing stands behind
abbrev pub to_the_end : {A : Type 0} → Reader A → List Token → Result A Stop
to_the_end p ts = p ts >>= at_the_end
