-- A means of proof: declarations that fit into a design (IEEE 1364-2005, clauses 4.3.1 and 4.9), for the proofs of elaboration: 1 to 128
-- digits, at most 65,536 words, and room for all signals.
use Rattle.std.specs.Prelude.{ℕ, ◌+◌, ◌≤◌, List}
use Rattle.std.specs.List.{All}
use Rattle.gpi.specs.Terms.{IsWidth}
use Rattle.v_flat.specs.Scope.Limits.{most_parts}
use Rattle.v_flat.specs.Scope.Scope.{width_of}
use Rattle.v_flat.specs.Declarations.{Declared, signals_in}
use Rattle.v_check.specs.Names.Proper.{HasFewWords}

-- a vector, or the words of a memory
abbrev pub IsProperDeclared : Declared → Type 0
IsProperDeclared d = IsWidth (width_of d.bounds) × HasFewWords d.words

-- behind as many signals as `first` says, those of all declarations are no more than a design may have
pub record Fit (first : ℕ) (ds : List Declared) : Type 0 where
  pub proper : All IsProperDeclared ds
  pub room : first + signals_in ds ≤ most_parts
