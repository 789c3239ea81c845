-- A means of proof: what a text comes to, and what two designs have in common that one text stands for, for the proofs of the reading of a
-- design.
use Rattle.std.specs.Prelude.{◌≡◌, ◌⊎◌, ℕ, List, Option}
use Rattle.gpi.specs.declared.design.Flat.{Flat}
use Rattle.gpi.specs.Design.{procs_of}
use Rattle.v_flat.specs.Design.{Design, SourceText}
use Rattle.v_design.specs.declared.fault.DesignRefusal.{DesignRefusal}
use Rattle.v_design.specs.Designs.{Means, IsRefused}

-- The text stands for a design under that top, or is refused.
abbrev pub HasAnswer : Option (List ℕ) → List ℕ → Type 0
HasAnswer top text =
    ((source : SourceText) × (design : Design) × Means top text source design) ⊎ ((refusal : DesignRefusal) × IsRefused top refusal text)

-- Two flat designs have the same signals, nodes and step, and their processes are of the same kind, are woken by the same changes and do
-- the same on every map.
pub record AreAlike (a b : Flat) : Type 0 where
  pub signals : a.signals ≡ b.signals
  pub nodes : a.nodes ≡ b.nodes
  pub processes : procs_of a.processes ≡ procs_of b.processes
  pub step : a.step_fs ≡ b.step_fs
