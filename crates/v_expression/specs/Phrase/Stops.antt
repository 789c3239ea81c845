-- A means of proof: where reading stops, for the proofs of Verilog's parser.
use Rattle.std.specs.Prelude.{◌≡◌, ℕ, Bool, false, List, [], ◌∷◌, length, Option, Some, None, Result, Ok, Err, if◌then◌else◌}
use Rattle.v_syntax.specs.declared.token.Token.{Token}
use Rattle.v_syntax.specs.declared.token.Token.TheVariants as token
use Rattle.v_syntax.specs.declared.mark.Mark.{Mark}
use Rattle.v_syntax.specs.SameMarks.{same_mark}
use Rattle.v_expression.specs.declared.phrase.read_error.ReadError.{ReadError}
use Rattle.v_expression.specs.declared.phrase.read_error.ReadError.TheVariants as errors

-- Reading goes no further at a token: no tree goes through it, or only one that is too high. The number is that of the
-- tokens that are left there.
pub data Stop : Type 0 where
  Syntax : ℕ → Stop
  TooDeep : ℕ → Stop

-- what was read and the tokens behind it, or where reading stopped
abbrev pub Answer : Type 0 → Type 0
Answer A = Result (A × List Token) Stop

infixl 10 ◌>>=◌
abbrev pub ◌>>=◌ : {A B : Type 0} → Result A Stop → (A → Result B Stop) → Result B Stop
(Ok x) >>= f = f x
(Err e) >>= f = Err e

-- What a function returned, seen by `view`, is what reading gives, unless memory ran out.
abbrev pub Fails : {B : Type 0} → ReadError → Result B Stop → Type 0
Fails errors.OutOfMemory read = Unit {0}
Fails (errors.Syntax n) read = read ≡ Err (Syntax n)
Fails (errors.TooDeep n) read = read ≡ Err (TooDeep n)

abbrev pub Gives : {A B : Type 0} → (A → B) → Result A ReadError → Result B Stop → Type 0
Gives view (Ok x) read = read ≡ Ok (view x)
Gives view (Err e) read = Fails e read

abbrev pub syntax_at : {A : Type 0} → List Token → Result A Stop
syntax_at ts = Err (Syntax (length ts))

abbrev pub deep_at : {A : Type 0} → List Token → Result A Stop
deep_at ts = Err (TooDeep (length ts))

abbrev pub is_mark : Mark → Token → Bool
is_mark m (token.Mark k) = same_mark k m
is_mark m (token.Name n) = false
is_mark m (token.Keyword w) = false
is_mark m (token.Reserved w) = false
is_mark m (token.SystemTask t) = false
is_mark m (token.Number ds) = false
is_mark m (token.Text t) = false

-- the tokens behind a mark that has to stand here
unfoldable pub after : Mark → List Token → Result (List Token) Stop
after m [] = syntax_at []
after m (t ∷ ts) = if is_mark m t then Ok ts else syntax_at (t ∷ ts)

-- the tokens behind a mark, if it stands here
unfoldable pub behind : Mark → List Token → Option (List Token)
behind m [] = None
behind m (t ∷ ts) = if is_mark m t then Some ts else None
