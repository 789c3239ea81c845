-- A means of proof: an instance between two of its items, with the names of the instances in it, for the proofs of elaboration.
use Rattle.std.specs.Prelude.{◌≡◌, ℕ, List, map, true, is_none, is_some, bytes_eq}
use Rattle.std.specs.List.{list_any}
use Rattle.name_table.specs.Places.{first_place}
use Rattle.v_flat.specs.Scope.Scope.{find}
use Rattle.v_flat.specs.Design.{State, child_name}
use Rattle.v_elab.specs.States.{IsState}
use Rattle.v_elab.specs.declared.walked.Walked.{Walked}

-- x is the state s; of the names that nothing else has, those of instances are known
pub record IsWalked (s : State) (x : Walked) : Type 0 where
  pub is : IsState s x.state
  pub instances : (n : List ℕ) → is_none (find n s.scope) ≡ true → list_any (bytes_eq n) (map child_name s.children) ≡ is_some (first_place x.instances n)
