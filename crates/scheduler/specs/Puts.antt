-- A means of proof: lines that are put one after the other, until a put fails, for the proofs of the runner's turns.
use Rattle.std.specs.Prelude.{◌≡◌, ℕ, List, Option, None, Some}
use Rattle.port_io.specs.Means.{SinkMeans, PutsTo}
use Rattle.port_io.specs.declared.ports.SinkFault.{SinkFault}

-- the lines were put in order, where no line before had this fault; else nothing more is put
abbrev pub PutsOn : {O : Type 0} → SinkMeans O → Option SinkFault → O → List (List ℕ) → Option SinkFault → O → Type 0
PutsOn sink None out lines fault out' = PutsTo sink out lines fault out'
PutsOn sink (Some before) out lines fault out' = (fault ≡ Some before) × (out' ≡ out)
