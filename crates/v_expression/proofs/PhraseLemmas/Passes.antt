-- Reading goes forward.
use Rattle.std.proofs.Common.{ℕ, ◌≤◌, List, length, Ok, Err, arith}
use Rattle.v_syntax.specs.declared.token.Token.{Token}
use Rattle.v_expression.specs.Phrase.Stops.{Syntax, TooDeep, Answer, ◌>>=◌}

-- Reading went on until at most n tokens are left.
abbrev pub Passes : {A : Type 0} → ℕ → Answer A → Type 0
Passes n (Ok x) = length x.1 ≤ n
Passes n (Err (Syntax k)) = k ≤ n
Passes n (Err (TooDeep k)) = k ≤ n

pub passes_more : {A : Type 0} → (n k : ℕ) (m : Answer A) → n ≤ k → Passes n m → Passes k m
passes_more n k (Ok x) h p = omega arith
passes_more n k (Err (Syntax j)) h p = omega arith
passes_more n k (Err (TooDeep j)) h p = omega arith

pub passes_then : {A B : Type 0} → (n : ℕ) (f : A × List Token → Answer B) → ((x : A) (rest : List Token) → length rest ≤ n → Passes n (f (x, rest))) → (m : Answer A) → Passes n m → Passes n (m >>= f)
passes_then n f next (Ok (x, rest)) p = next x rest p
passes_then n f next (Err (Syntax k)) p = p
passes_then n f next (Err (TooDeep k)) p = p
