-- When a design is sound: its numbers lie in their lists, its widths fit, and its nodes form one tree.
use Rattle.std.specs.Prelude.{◌≡◌, ℕ, zero, suc, ◌+◌, ◌<◌, ◌≤◌, ◌==◌, ◌&&◌, ◌||◌, nat_lt, nat_le, Bool, true, false, IsTrue, List, [], ◌∷◌, length, min, Option, Some, None, if◌then◌else◌}
use Rattle.gpi.specs.declared.design.Wake.{Wake}
use Rattle.gpi.specs.declared.design.Process.{Process}
use Rattle.gpi.specs.declared.design.Signal.{Signal}
use Rattle.gpi.specs.declared.design.Spot.{Spot}
use Rattle.gpi.specs.declared.design.Spot.TheVariants.{Inner, Sig, Words}
use Rattle.gpi.specs.declared.design.Node.{Node}
use Rattle.gpi.specs.declared.design.Flat.{Flat}
use Rattle.four_value.specs.Limits.{most_digits}
use Rattle.gpi.specs.Limits.{most_elements}
use Rattle.gpi.specs.Terms.{IsWidth}
use Rattle.gpi.specs.Activation.{IsSound}
use Rattle.gpi.specs.Design.{widths}

-- an expression, a target or an object was found to be sound, and of this width; or it was found that it isn't
abbrev pub IsWidthFound : Option ℕ → Type 0 → ℕ → Type 0
IsWidthFound (Some w) Sound n = Sound × (w ≡ n) × IsWidth w
IsWidthFound None Sound n = Sound → ⊥

-- each width is 1 to 128
abbrev pub are_wide : List Signal → Bool
are_wide [] = true
are_wide (s ∷ ss) = (nat_le 1 s.width && nat_le s.width most_digits) && are_wide ss

-- each wake is of one of the n signals
abbrev pub are_wakes : List Wake → ℕ → Bool
are_wakes [] n = true
are_wakes (w ∷ ws) n = nat_lt w.sig.0 n && are_wakes ws n

-- each process is sound; ws are the widths of the signals
abbrev pub AreProcesses : List Process → List ℕ → Type 0
AreProcesses [] ws = Unit {0}
AreProcesses (p ∷ ps) ws = IsSound p.body ws × IsTrue (are_wakes p.wakes (length ws)) × AreProcesses ps ws

-- a child is one of the nodes, or of the signals
abbrev pub is_spot : ℕ → ℕ → Spot → Bool
is_spot nodes signals (Inner k) = nat_lt k nodes
is_spot nodes signals (Sig s) = nat_lt s.0 signals
is_spot nodes signals (Words first low count) = nat_lt first.0 signals && nat_le (first.0 + count) signals

abbrev pub are_spots : ℕ → ℕ → List (List ℕ × Spot) → Bool
are_spots nodes signals [] = true
are_spots nodes signals (c ∷ cs) = is_spot nodes signals c.1 && are_spots nodes signals cs

abbrev pub are_nodes : ℕ → ℕ → List Node → Bool
are_nodes nodes signals [] = true
are_nodes nodes signals (n ∷ ns) = are_spots nodes signals n.children && are_nodes nodes signals ns

-- ---- the tree of nodes: node 0 is no child, every other is the child of one node, once, and from each one comes to node 0
-- by going from a node to the one that has it as a child

-- the child is this node
abbrev pub is_child : ℕ → Spot → Bool
is_child v (Inner k) = k == v
is_child v (Sig s) = false
is_child v (Words first low count) = false

-- how often a node is among the children, where 2 stands for more than once
abbrev pub times_among : ℕ → List (List ℕ × Spot) → ℕ
times_among v [] = 0
times_among v (c ∷ cs) = if is_child v c.1 then min 2 (times_among v cs + 1) else times_among v cs

-- how often a node is a child of these nodes, counted so
abbrev pub times_child : ℕ → List Node → ℕ
times_child v [] = 0
times_child v (n ∷ ns) = min 2 (times_among v n.children + times_child v ns)

-- the first of these nodes that has it as a child; they are numbered from n
abbrev pub parent_from : ℕ → ℕ → List Node → Option ℕ
parent_from v n [] = None
parent_from v n (x ∷ xs) = if nat_lt 0 (times_among v x.children) then Some n else parent_from v (suc n) xs

-- what is so of the parent; not where there is none
abbrev pub at_parent : Option ℕ → (ℕ → Bool) → Bool
at_parent None f = false
at_parent (Some p) f = f p

-- whether one comes from a node to node 0 in so many steps at most
abbrev pub climbs : ℕ → List Node → ℕ → Bool
climbs zero ns v = v == 0
climbs (suc steps) ns v = (v == 0) || at_parent (parent_from v 0 ns) (climbs steps ns)

-- a node has its place in the tree: it is a child once, but for node 0, and one comes from it to node 0
abbrev pub IsPlaced : List Node → ℕ → Type 0
IsPlaced ns v = (times_child v ns ≡ (if v == 0 then 0 else 1)) × IsTrue (climbs (length ns) ns v)

pub record IsTree (ns : List Node) : Type 0 where
  pub root : 0 < length ns
  pub each : (v : ℕ) → v < length ns → IsPlaced ns v

-- no list is too long, each number lies in its list, each width is 1 to 128 and fits its node, the nodes form one tree, and
-- the step is at least 1
pub record IsSoundFlat (flat : Flat) : Type 0 where
  pub signals : length flat.signals ≤ most_elements
  pub nodes : length flat.nodes ≤ most_elements
  pub processes : length flat.processes ≤ most_elements
  pub wide : IsTrue (are_wide flat.signals)
  pub bodies : AreProcesses flat.processes (widths flat.signals)
  pub spots : IsTrue (are_nodes (length flat.nodes) (length flat.signals) flat.nodes)
  pub tree : IsTree flat.nodes
  pub step : 1 ≤ flat.step_fs
