-- A means of proof: what the code has built of a design so far, for the proofs of elaboration.
use Rattle.std.specs.Prelude.{◌≡◌, ◌≤◌, ℕ, IsTrue, List, [], ◌∷◌, ◌++◌, map, length, slice_set}
use Rattle.gpi.specs.declared.design.Flat.{Flat}
use Rattle.gpi.specs.declared.design.Process.{Process}
use Rattle.gpi.specs.declared.design.Signal.{Signal}
use Rattle.gpi.specs.declared.design.Spot.{Spot}
use Rattle.gpi.specs.Activation.{IsSound}
use Rattle.gpi.specs.Design.{procs_of, widths}
use Rattle.gpi.specs.Soundness.{are_wakes}
use Rattle.v_flat.specs.Paths.{Path, node_of, signal_of}
use Rattle.v_flat.specs.Design.{Design}
use Rattle.v_layout.specs.declared.build.parts.Parts.{Parts}

-- it is sound in a design whose signals have these widths, and in each that has more signals behind them
pub record IsSoundIn (p : Process) (ws : List ℕ) : Type 0 where
  pub body : (more : List ℕ) → IsSound p.body (ws ++ more)
  pub wakes : (more : List ℕ) → IsTrue (are_wakes p.wakes (length (ws ++ more)))

abbrev pub AreSoundIn : List Process → List ℕ → Type 0
AreSoundIn [] ws = Unit {0}
AreSoundIn (p ∷ ps) ws = IsSoundIn p ws × AreSoundIn ps ws

-- the signals, instances and processes of d; each process is sound
pub record IsSoFar (d : Design) (p : Parts) : Type 0 where
  pub signals : p.signals ≡ map signal_of d.signals
  pub nodes : p.nodes.items ≡ map node_of d.nodes
  pub processes : procs_of p.processes ≡ d.processes
  pub sound : AreSoundIn p.processes (widths p.signals)

-- y is x with an instance more, at the path with this text
pub record HasNode (x : Parts) (text : List ℕ) (y : Parts) : Type 0 where
  pub signals : y.signals ≡ x.signals
  pub nodes : y.nodes.items ≡ x.nodes.items ++ (record { path = text; children = [] } ∷ [])
  pub processes : y.processes ≡ x.processes

-- y is x with other names in an instance
pub record HasChildren (x y : Parts) : Type 0 where
  pub signals : y.signals ≡ x.signals
  pub nodes : length y.nodes.items ≡ length x.nodes.items

-- y has the signals of x, maybe others behind them, and at least as many instances
pub record Grows (x y : Parts) : Type 0 where
  pub more : List Signal
  pub signals : y.signals ≡ x.signals ++ more
  pub nodes : length x.nodes.items ≤ length y.nodes.items

-- a flat design with these parts
pub record IsFlatOf (p : Parts) (step : ℕ) (f : Flat) : Type 0 where
  pub signals : f.signals ≡ p.signals
  pub nodes : f.nodes ≡ p.nodes.items
  pub processes : f.processes ≡ p.processes
  pub step_is : f.step_fs ≡ step

-- an instance more, in which no name is known yet
abbrev pub opened_nodes : Path → Design → Design
opened_nodes path d = record d { nodes = d.nodes ++ (record { path = path; children = [] } ∷ []) }

-- these names are known in the instance of this number, at this path
abbrev pub named_nodes : ℕ → Path → List (List ℕ × Spot) → Design → Design
named_nodes k path cs d = record d { nodes = slice_set d.nodes k (record { path = path; children = cs }) }
