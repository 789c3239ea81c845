-- A means of proof: what it means that the values which an instance gives were found (IEEE 1364-2005, clause 12.2.2), for the proofs of
-- elaboration.
use Rattle.std.specs.Prelude.{◌≡◌, ℕ, List, Option, option_map}
use Rattle.std.specs.Borrow.{Bor}
use Rattle.four_value.specs.declared.Digit.{Digit}
use Rattle.v_syntax.specs.declared.item.Connections.{Connections}
use Rattle.v_syntax.specs.SourceTrees.{view_connections}
use Rattle.v_flat.specs.declared.scope.found.Found.{Found}
use Rattle.v_flat.specs.Scope.Found.{each}
use Rattle.v_flat.specs.Scope.Scope.{Scope}
use Rattle.v_flat.specs.Declarations.{Given}
use Rattle.v_flat.specs.Design.{given_of}
use Rattle.v_header.specs.Parameter.Given.{find_given}

-- which value is given to each name
abbrev pub given_values : List Given → List ℕ → Option (List Digit)
given_values gs n = find_given n gs

-- the same rule is broken first, or none; and where values are found, both give the same to each name
abbrev pub FindsTheSame : Found (List Given) → Found (List Given) → Type 0
FindsTheSame x f = each given_values f ≡ each given_values x

-- f is what the definition finds in them; ns are the names of the open parameters
abbrev pub AreGiven : Scope → Option (Bor Connections) → List (List ℕ) → Found (List Given) → Type 0
AreGiven s vs ns f = FindsTheSame (given_of s (option_map (λ (x : Bor Connections). view_connections x.now) vs) ns) f
