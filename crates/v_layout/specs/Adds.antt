-- A means of proof: lists to which some of what was to be added was added, for the proofs of elaboration.
use Rattle.std.specs.Prelude.{◌≡◌, List, ◌++◌}

-- the new list is the old one with the first of all behind it, however many
pub record AddsSome {A : Type 0} (old all new : List A) : Type 0 where
  pub some : List A
  pub rest : List A
  pub is : new ≡ old ++ some
  pub of : some ++ rest ≡ all
