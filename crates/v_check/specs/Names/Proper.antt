-- A means of proof: scopes in which each vector has 1 to 128 digits, each memory at most 65,536 words, and each constant as many digits as
-- its range, for the proofs of elaboration.
use Rattle.std.specs.Prelude.{◌≡◌, ℕ, ◌≤◌, List, length, Option, None, Some}
use Rattle.gpi.specs.Terms.{IsWidth}
use Rattle.v_flat.specs.declared.scope.meaning.Bounds.{Bounds}
use Rattle.v_flat.specs.declared.scope.meaning.Meaning.{Meaning}
use Rattle.v_flat.specs.declared.scope.meaning.Meaning.TheVariants.{Constant, Object, Later}
use Rattle.v_flat.specs.Scope.Limits.{most_words}
use Rattle.v_flat.specs.Scope.Scope.{Scope, find, width_of}

-- a memory has at most so many words
abbrev pub HasFewWords : Option Bounds → Type 0
HasFewWords None = Unit {0}
HasFewWords (Some w) = width_of w ≤ most_words

abbrev pub IsProper : Option Meaning → Type 0
IsProper None = Unit {0}
IsProper (Some Later) = Unit {0}
IsProper (Some (Constant ds b)) = length ds ≡ width_of b
IsProper (Some (Object o)) = IsWidth (width_of o.bounds) × HasFewWords o.words

abbrev pub AreProper : Scope → Type 0
AreProper s = (n : List ℕ) → IsProper (find n s)
