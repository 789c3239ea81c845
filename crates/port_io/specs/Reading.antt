-- A means of proof: what a reader gives, read after read, and what becomes of a read of a named file, for the proofs of stores over a
-- folder.
use Rattle.std.specs.Prelude.{◌≡◌, ◌≢◌, ◌⊎◌, ℕ, ◌<◌, List, [], ◌∷◌, length, Option}
use Rattle.std.specs.Io.KnownBytes.{Consumes, IsAtEnd}
use Rattle.port_io.specs.Ports.{next_count}
use Rattle.port_io.specs.ToldLaws.{joined}

-- of the bytes that are left, where they are known, these are taken; none with room only at the end
pub record GivesKnown (left left' : Option (List ℕ)) (room : ℕ) (bytes : List ℕ) : Type 0 where
  pub taken : Consumes left left' bytes
  pub at_end : bytes ≡ [] → 0 < room → IsAtEnd left'

-- reads one after the other, each with room for a byte at least, give these pieces, of which none is empty
abbrev pub GivesEach : {R : Type 0} → (R → ℕ → List ℕ → R → Type 0) → R → List (List ℕ) → R → Type 0
GivesEach gives before [] after = after ≡ before
GivesEach {R} gives before (piece ∷ pieces) after = (room : ℕ) × (mid : R) × (piece ≢ []) × gives before room piece mid × GivesEach gives mid pieces after

-- a read with room for a byte at least gives none: the reader is at its end
abbrev pub IsEndRead : {R : Type 0} → (R → ℕ → List ℕ → R → Type 0) → R → R → Type 0
IsEndRead gives before after = (room : ℕ) × (0 < room) × gives before room [] after

-- the first `most` bytes that the reader gives, or all up to its end where there are fewer
pub record GivesFirst {R : Type 0} (gives : R → ℕ → List ℕ → R → Type 0) (before : R) (most : ℕ) (bytes : List ℕ) (after : R) : Type 0 where
  pub pieces : List (List ℕ)
  pub mid : R
  pub each : GivesEach gives before pieces mid
  pub is : bytes ≡ joined pieces
  pub ends : ((length bytes ≡ most) × (after ≡ mid)) ⊎ ((length bytes < most) × IsEndRead gives mid after)

-- a read fails before the reader has given so many bytes
pub record FailsFirst {R : Type 0} (gives : R → ℕ → List ℕ → R → Type 0) (fails : R → R → Type 0) (before : R) (most : ℕ) (after : R) : Type 0 where
  pub pieces : List (List ℕ)
  pub mid : R
  pub each : GivesEach gives before pieces mid
  pub short : length (joined pieces) < most
  pub failed : fails mid after

-- a store over a folder: the folder, and how often a read failed
pub record OverFolder (D : Type 0) : Type 0 where
  pub folder : D
  pub faults : ℕ

module _ {D R : Type 0} (opens : D → List ℕ → R → Type 0) (lacks : D → List ℕ → Type 0)
    (gives : R → ℕ → List ℕ → R → Type 0) (fails : R → R → Type 0) where
  -- the named file opens, and gives these first bytes
  abbrev pub GivesNamed : D → List ℕ → ℕ → List ℕ → Type 0
  GivesNamed folder name most bytes = (file : R) × (after : R) × opens folder name file × GivesFirst gives file most bytes after

  -- the named file doesn't open, or a read of it fails
  abbrev pub FailsNamed : D → List ℕ → ℕ → Type 0
  FailsNamed folder name most = lacks folder name ⊎ ((file : R) × (after : R) × opens folder name file × FailsFirst gives fails file most after)

  -- a read that gives leaves the store as it was
  pub record FolderGives (before : OverFolder D) (name : List ℕ) (most : ℕ) (bytes : List ℕ) (after : OverFolder D) : Type 0 where
    pub given : GivesNamed before.folder name most bytes
    pub stays : after ≡ before

  -- a read that fails is counted
  pub record FolderMisses (before : OverFolder D) (name : List ℕ) (after : OverFolder D) : Type 0 where
    pub failed : (most : ℕ) × FailsNamed before.folder name most
    pub counted : after ≡ record before { faults = next_count before.faults }
