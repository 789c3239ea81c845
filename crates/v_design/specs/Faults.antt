-- A means of proof: what a fault says of a text, for the proofs of the reading of a design.
use Rattle.std.specs.Prelude.{ℕ, List, Option}
use Rattle.v_design.specs.declared.fault.DesignFault.{DesignFault}
use Rattle.v_design.specs.declared.fault.DesignFault.TheVariants as fault
use Rattle.v_design.specs.Designs.{IsRefused}

-- The text is refused so under that top, or memory ran out.
abbrev pub IsFault : Option (List ℕ) → DesignFault → List ℕ → Type 0
IsFault top (fault.Refused r) text = IsRefused top r text
IsFault top fault.OutOfMemory text = Unit {0}
