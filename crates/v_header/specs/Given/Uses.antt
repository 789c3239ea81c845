-- A means of proof: which names in a list of connections are those of open parameters, and stand there for the first time.
use Rattle.std.specs.Prelude.{◌≡◌, ℕ, List, [], ◌∷◌, Bool, ◌&&◌, not, is_some, bytes_eq}
use Rattle.std.specs.List.{list_any}
use Rattle.name_table.specs.Places.{first_place}
use Rattle.v_syntax.specs.SourceTrees.{ConnectionTree, Connection}
use Rattle.v_flat.specs.declared.scope.rule.ElabRule.TheVariants as rule
use Rattle.v_flat.specs.declared.scope.found.Found.{Found}
use Rattle.v_flat.specs.declared.scope.found.Found.TheVariants.{Sound}
use Rattle.v_flat.specs.Scope.Found.{wants}
use Rattle.v_flat.specs.Scope.Scope.{Scope}
use Rattle.v_flat.specs.Declarations.{Given}
use Rattle.v_flat.specs.Design.{named_value}

-- the table has these names
abbrev pub HasNames : List (List ℕ) → List (List ℕ × ℕ) → Type 0
HasNames ns t = (n : List ℕ) → is_some (first_place t n) ≡ list_any (bytes_eq n) ns

-- of each connection, where ns are the open names, and these were seen before
abbrev pub first_uses : List (List ℕ) → List (List ℕ) → List ConnectionTree → List Bool
first_uses ns seen [] = []
first_uses ns seen (Connection p i v ∷ cs) =
    (list_any (bytes_eq i.name) ns && not (list_any (bytes_eq i.name) seen)) ∷ first_uses ns (i.name ∷ seen) cs

-- what is found in connections, where it is known which names may stand there
abbrev pub given_by : Scope → List Bool → List ConnectionTree → Found (List Given)
given_by s bs [] = Sound []
given_by s [] (c ∷ cs) = Sound []
given_by s (b ∷ bs) (Connection p i v ∷ cs) = wants b rule.BadPort i.at (named_value s i.name v (given_by s bs cs))
