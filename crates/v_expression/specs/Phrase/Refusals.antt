-- A means of proof: why a text is not read, for the proofs of Verilog's parser. `begins n rest` says that a partial tree of height at most
-- n spells the text up to the tokens in rest.
use Rattle.std.specs.Prelude.{◌≡◌, ℕ, ◌≤◌, ◌<◌, List, length, Result, Ok, Err}
use Rattle.v_syntax.specs.declared.token.Token.{Token}
use Rattle.v_expression.specs.declared.phrase.read_error.ReadError.{ReadError}
use Rattle.v_expression.specs.declared.phrase.read_error.ReadError.TheVariants as errors

-- a partial tree within the limit spells all but the last n tokens
abbrev pub Reaches : (ℕ → List Token → Type 0) → ℕ → ℕ → Type 0
Reaches begins limit n = (rest : List Token) × begins limit rest × (length rest ≡ n)

-- n tokens are left at the first one that no partial tree within the limit spells; it is a fault of the height where a
-- higher one spells it
abbrev pub IsRefusal : (ℕ → List Token → Type 0) → ℕ → ReadError → Type 0
IsRefusal begins limit errors.OutOfMemory = Unit {0}
IsRefusal begins limit (errors.Syntax n) = Reaches begins limit n × ((m : ℕ) (rest : List Token) → begins m rest → n ≤ length rest)
IsRefusal begins limit (errors.TooDeep n) =
    Reaches begins limit n × ((rest : List Token) → begins limit rest → n ≤ length rest) × (m : ℕ) × (rest : List Token) × begins m rest × (length rest < n)

-- what is read, unless memory ran out
abbrev pub IsRead : {X : Type 0} → (X → Type 0) → Result X ReadError → Type 0
IsRead is (Ok x) = is x
IsRead is (Err e) = e ≡ errors.OutOfMemory
