-- A means of proof: what a sink that keeps the last piece means, for its proofs.
use Rattle.std.specs.Prelude.{◌≡◌, ℕ, List, None}
use Rattle.port_io.specs.Means.{SinkMeans}

-- the piece is kept, and what was kept before is not
abbrev pub KeepsPiece : List ℕ → List ℕ → List ℕ → Type 0
KeepsPiece before piece after = after ≡ piece

-- no put fails, but for want of memory
abbrev pub NeverBreaks : List ℕ → List ℕ → List ℕ → Type 0
NeverBreaks before piece after = ⊥

-- it tells none of its bytes
abbrev pub last_means : SinkMeans (List ℕ)
last_means = record { takes = KeepsPiece; breaks = NeverBreaks; told = λ kept. None }
