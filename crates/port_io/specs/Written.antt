-- A means of proof: what a put does to a sink over a writer, write after write, for the proofs of stores and sinks.
use Rattle.std.specs.Prelude.{◌≡◌, ◌≢◌, ◌⊎◌, ℕ, ◌<◌, List, [], ◌∷◌, drop}
use Rattle.port_io.specs.Ports.{next_count}

-- a sink: its writer, and how often a put failed
pub record Written (W : Type 0) : Type 0 where
  pub writer : W
  pub faults : ℕ

-- writes one after the other, each of all that is left, take so many bytes each, and none takes nothing; then this is left
abbrev pub TakesEach : {W : Type 0} → (W → List ℕ → ℕ → W → Type 0) → W → List ℕ → List ℕ → List ℕ → W → Type 0
TakesEach takes before bytes [] rest after = (rest ≡ bytes) × (after ≡ before)
TakesEach {W} takes before bytes (count ∷ counts) rest after = (mid : W) × (0 < count) × takes before bytes count mid × TakesEach takes mid (drop count bytes) counts rest after

-- the writes take the whole piece
abbrev pub TakesWhole : {W : Type 0} → (W → List ℕ → ℕ → W → Type 0) → W → List ℕ → W → Type 0
TakesWhole takes before piece after = (counts : List ℕ) × TakesEach takes before piece counts [] after

-- the writes take a part of the piece; then, while bytes are left, one fails or takes nothing
abbrev pub BreaksWhole : {W : Type 0} → (W → List ℕ → ℕ → W → Type 0) → (W → List ℕ → W → Type 0) → W → List ℕ → W → Type 0
BreaksWhole {W} takes fails before piece after =
    (counts : List ℕ) × (rest : List ℕ) × (mid : W) × TakesEach takes before piece counts rest mid × (rest ≢ []) × (fails mid rest after ⊎ takes mid rest 0 after)

module _ {W : Type 0} (takes : W → List ℕ → ℕ → W → Type 0) (fails : W → List ℕ → W → Type 0) where
  -- the piece is written, and no fault is counted
  pub record WriterTakes (before : Written W) (piece : List ℕ) (after : Written W) : Type 0 where
    pub whole : TakesWhole takes before.writer piece after.writer
    pub counted : after.faults ≡ before.faults

  -- the writer breaks within the piece, and the fault is counted
  pub record WriterBreaks (before : Written W) (piece : List ℕ) (after : Written W) : Type 0 where
    pub broken : BreaksWhole takes fails before.writer piece after.writer
    pub counted : after.faults ≡ next_count before.faults
