-- A means of proof: calls that a row asks for, one after the other, for the test program of stores and sinks.
use Rattle.std.specs.Prelude.{ℕ, zero, suc, List, [], ◌∷◌, ◌++◌}

-- what is asked at the first so many places, in order
abbrev pub first_of : {C : Type 0} → (ℕ → List C) → ℕ → List C
first_of at zero = []
first_of at (suc n) = first_of at n ++ at n

-- what is told of calls, where each changes the thing that is called
abbrev pub told : {S C : Type 0} → (S → C → List ℕ) → (S → C → S) → S → List C → List ℕ
told word step start [] = []
told word step start (call ∷ calls) = word start call ++ told word step (step start call) calls
