-- A means of proof: tables of the parents and of the depths of the nodes of a design, by which its tree is found.
use Rattle.std.specs.Prelude.{◌≡◌, ℕ, zero, suc, ◌<◌, ◌≤◌, ◌==◌, ◌||◌, nat_lt, nat_le, Bool, false, List, length, Option, Some, None, slice_get, if◌then◌else◌}
use Rattle.gpi.specs.declared.design.Spot.{Spot}
use Rattle.gpi.specs.declared.design.Node.{Node}
use Rattle.gpi.specs.Soundness.{times_among, times_child, parent_from, at_parent}

-- a table of n nodes in which nothing stands
abbrev pub AreEmpty : ℕ → List (Option ℕ) → Type 0
AreEmpty n table = (length table ≡ n) × ((v : ℕ) → v < n → slice_get table v ≡ Some None)

-- ---- parents

-- how many parents a node has by its place in the table
abbrev pub held : Option (Option ℕ) → ℕ
held (Some (Some p)) = 1
held (Some None) = 0
held None = 0

-- what a node's place holds once node n has claimed its children
abbrev pub claimed : ℕ → ℕ → List (List ℕ × Spot) → Option (Option ℕ) → Option (Option ℕ)
claimed v n cs before = if nat_lt 0 (times_among v cs) then Some (Some n) else before

-- a place tells the only parent of a node among these nodes, which are numbered from n
abbrev pub IsParent : ℕ → ℕ → List Node → Option (Option ℕ) → Type 0
IsParent v n ns place = (place ≡ Some (parent_from v n ns)) × (times_child v ns ≡ held place)

-- the table tells the parents of all nodes among those that are numbered from n
abbrev pub AreParents : ℕ → List Node → List (Option ℕ) → Type 0
AreParents n ns table = (v : ℕ) → v < length table → IsParent v n ns (slice_get table v)

-- ---- depths

-- each parent is a node of the table
abbrev pub AreInside : List (Option ℕ) → Type 0
AreInside table = (v p : ℕ) → slice_get table v ≡ Some (Some p) → p < length table

-- the parent by a place
abbrev pub parent_by : Option (Option ℕ) → Option ℕ
parent_by (Some p) = p
parent_by None = None

-- whether one comes from a node to node 0 in so many steps at most, by the table of parents
abbrev pub comes : ℕ → List (Option ℕ) → ℕ → Bool
comes zero table v = v == 0
comes (suc steps) table v = (v == 0) || at_parent (parent_by (slice_get table v)) (comes steps table)

-- one comes from a node to node 0 in d steps, and in no less
abbrev pub IsDepth : List (Option ℕ) → ℕ → ℕ → Type 0
IsDepth table v d = (steps : ℕ) → comes steps table v ≡ nat_le d steps

-- the depth of a node was found; or that one doesn't come to node 0 in as many steps as there are nodes
abbrev pub IsDepthFound : Option ℕ → List (Option ℕ) → ℕ → Type 0
IsDepthFound (Some d) table v = IsDepth table v d × d ≤ length table
IsDepthFound None table v = comes (length table) table v ≡ false

-- each depth that the second table tells is the node's, by the first, and that of node 0 is there
pub record AreDepths (table depths : List (Option ℕ)) : Type 0 where
  pub count : length depths ≡ length table
  pub root : slice_get depths 0 ≡ Some (Some 0)
  pub each : (v d : ℕ) → slice_get depths v ≡ Some (Some d) → IsDepth table v d × d ≤ length table
