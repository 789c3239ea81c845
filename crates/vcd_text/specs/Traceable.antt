-- A means of proof: which designs a VCD text can be written of.
use Rattle.std.specs.Prelude.{◌≡◌, ◌≢◌, ◌⊎◌, ℕ, ◌+◌, ◌<◌, ◌≤◌, ◌&&◌, not, Bool, true, IsTrue, List, [], ◌∷◌, ◌++◌, map, length, None, Some, slice_get, bytes_eq, codes}
use Rattle.std.specs.Fmt.{decimal}
use Rattle.std.specs.List.{AllByRecursion, list_all, list_any}
use Rattle.four_value.specs.declared.Digit.TheVariants.{X, Z}
use Rattle.gpi.specs.declared.design.Spot.{Spot}
use Rattle.gpi.specs.declared.design.Spot.TheVariants.{Inner, Sig, Words}
use Rattle.gpi.specs.declared.design.Node.{Node}
use Rattle.gpi.specs.declared.design.Signal.{Signal}
use Rattle.gpi.specs.declared.design.Flat.{Flat}
use Rattle.gpi.specs.Limits.{most_elements}
use Rattle.gpi.specs.Soundness.{are_wide, are_nodes, climbs, IsTree}
use Rattle.vcd_text.specs.Names.{is_name}
use Rattle.vcd_text.specs.Spelling.{spelled_step}
use Rattle.vcd_text.specs.Hierarchy.{top_path, most_inner, declarations, declared_signals, traced_signals}

-- ---- names and paths

-- no two of these names are the same
abbrev pub all_differ : List (List ℕ) → Bool
all_differ [] = true
all_differ (name ∷ names) = not (list_any (bytes_eq name) names) && all_differ names

-- what is declared in an instance has names, and no two of them are the same
pub record AreNamed (node : Node) : Type 0 where
  pub names : IsTrue (list_all (λ child. is_name child.0) node.children)
  pub differ : IsTrue (all_differ (map (λ child. child.0) node.children))

-- a node has this path
abbrev pub IsNodeAt : Flat → ℕ → List ℕ → Type 0
IsNodeAt flat number path = (node : Node) × (slice_get flat.nodes number ≡ Some node) × (node.path ≡ path)

-- a signal has this path
abbrev pub IsSignalAt : Flat → ℕ → List ℕ → Type 0
IsSignalAt flat number path = (signal : Signal) × (slice_get flat.signals number ≡ Some signal) × (signal.path ≡ path)

-- what a name stands for has this path: an instance, a signal, or each word of a memory, with its index in brackets behind it
abbrev pub IsAt : Flat → List ℕ → Spot → Type 0
IsAt flat path (Inner node) = IsNodeAt flat node path
IsAt flat path (Sig signal) = IsSignalAt flat signal.0 path
IsAt flat path (Words first low count) =
    (i : ℕ) → i < count → IsSignalAt flat (first.0 + i) (path ++ codes "[" ++ decimal (low + i) ++ codes "]")

-- what the names of an instance stand for has the instance's path, a dot and the name as its path
abbrev pub HasPaths : Flat → Node → Type 0
HasPaths flat node = AllByRecursion (λ child. IsAt flat (node.path ++ codes "." ++ child.0) child.1) node.children

-- ---- opening values

-- all digits that it has at the start are x, as those of a register are, or all are z, as those of a net are
abbrev pub IsOpening : Signal → Type 0
IsOpening signal = (signal.start ≡ X) ⊎ (signal.start ≡ Z)

-- ---- limits

-- how many signals and instances there may be, how wide a signal is, and how many instances stand inside one another
pub record IsWithinLimits (flat : Flat) : Type 0 where
  pub signals : length flat.signals ≤ most_elements
  pub nodes : length flat.nodes ≤ most_elements
  pub wide : IsTrue (are_wide flat.signals)
  pub inner : (node : ℕ) → node < length flat.nodes → IsTrue (climbs most_inner flat.nodes node)

-- A VCD text can be written of the design. Its nodes form one tree, and names stand for nodes and signals that there are. The top's path is its
-- name. All signals but the words of memories are declared, by rising number, and the step is 1, 10 or 100 of a unit.
pub record IsTraceable (flat : Flat) : Type 0 where
  pub tree : IsTree flat.nodes
  pub spots : IsTrue (are_nodes (length flat.nodes) (length flat.signals) flat.nodes)
  pub top : IsTrue (is_name (top_path flat.nodes))
  pub names : AllByRecursion AreNamed flat.nodes
  pub paths : AllByRecursion (HasPaths flat) flat.nodes
  pub opening : AllByRecursion IsOpening flat.signals
  pub order : declared_signals (declarations flat.nodes) ≡ traced_signals flat
  pub step : spelled_step flat.step_fs ≢ None
  pub limits : IsWithinLimits flat
