-- What a store and a sink tell, and what a read and a put do to it.
use Rattle.std.specs.Prelude.{◌≡◌, ℕ, ◌+◌, ◌-◌, ◌^◌, ◌≤◌, min, List, [], ◌∷◌, ◌++◌, take, Option, None, Some, IsSomeAnd, Bool, true, false}
use Rattle.std.specs.Io.KnownBytes.{Appends}

-- one more, where the count of 64 bits isn't at its largest value
abbrev pub next_count : ℕ → ℕ
next_count count = min (count + 1) (2 ^ 64 - 1)

-- a count of 64 bits that rose, or that stands at its largest value
abbrev pub IsRaised : ℕ → ℕ → Type 0
IsRaised before now = next_count before ≤ now

-- these are the first bytes of the file, at most so many, where the files are told
abbrev pub GivesFile : Option (List ℕ → Option (List ℕ)) → List ℕ → ℕ → List ℕ → Type 0
GivesFile None name most bytes = Unit {0}
GivesFile (Some files) name most bytes = IsSomeAnd (files name) (λ file. bytes ≡ take most file)

-- known bytes grow by a part of the piece, from its front, which may be none of it or all
abbrev pub AppendsPart : Option (List ℕ) → Option (List ℕ) → List ℕ → Type 0
AppendsPart old new piece = (front : List ℕ) × (rest : List ℕ) × (piece ≡ front ++ rest) × Appends old new front

-- the pieces are put one after the other, and each is taken
abbrev pub TakesAll : {O : Type 0} → (O → List ℕ → O → Type 0) → O → List (List ℕ) → O → Type 0
TakesAll takes before [] after = after ≡ before
TakesAll {O} takes before (piece ∷ pieces) after = (mid : O) × takes before piece mid × TakesAll takes mid pieces after

-- the pieces are put one after the other; each is taken, but the one that follows them breaks
abbrev pub BreaksAt : {O : Type 0} → (O → List ℕ → O → Type 0) → (O → List ℕ → O → Type 0) → O → List (List ℕ) → List ℕ → O → Type 0
BreaksAt {O} takes breaks before pieces broken after = (mid : O) × TakesAll takes before pieces mid × breaks mid broken after

-- Of these pieces each is taken, or, where that is false, each up to one that breaks.
abbrev pub Puts : {O : Type 0} → (O → List ℕ → O → Type 0) → (O → List ℕ → O → Type 0) → O → List (List ℕ) → Bool → O → Type 0
Puts takes breaks before pieces true after = TakesAll takes before pieces after
Puts takes breaks before pieces false after =
    (front : List (List ℕ)) × (broken : List ℕ) × (more : List (List ℕ)) × (pieces ≡ front ++ broken ∷ more) × BreaksAt takes breaks before front broken after
