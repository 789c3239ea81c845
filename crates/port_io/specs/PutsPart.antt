-- Pieces that were put as far as memory went.
use Rattle.std.specs.Prelude.{◌≡◌, ◌⊎◌, ℕ, List, ◌∷◌, ◌++◌, Option}
use Rattle.port_io.specs.Ports.{TakesAll, AppendsPart}

-- nothing more was put, or a part of the next piece
abbrev pub IsPart : {O : Type 0} → (O → Option (List ℕ)) → O → List (List ℕ) → O → Type 0
IsPart told mid rest after =
    (after ≡ mid) ⊎ ((piece : List ℕ) × (more : List (List ℕ)) × (rest ≡ piece ∷ more) × AppendsPart (told mid) (told after) piece)

-- The pieces were put one after the other, as far as memory went: a front of them was taken, and a part of the next one at the most.
pub record PutsPart {O : Type 0} (takes : O → List ℕ → O → Type 0) (told : O → Option (List ℕ)) (before : O) (pieces : List (List ℕ)) (after : O) : Type 0 where
  pub front : List (List ℕ)
  pub rest : List (List ℕ)
  pub split : pieces ≡ front ++ rest
  pub mid : O
  pub taken : TakesAll takes before front mid
  pub part : IsPart told mid rest after
