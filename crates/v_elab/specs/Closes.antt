-- A means of proof: the end of an instance.
use Rattle.std.specs.Prelude.{◌≡◌, ℕ, List}
use Rattle.v_flat.specs.Paths.{Path, path_text}
use Rattle.v_flat.specs.Design.{State, closed}
use Rattle.v_layout.specs.declared.build.parts.Parts.{Parts}
use Rattle.v_layout.specs.Build.Parts.{HasChildren, IsSoFar}
use Rattle.v_elab.specs.declared.state.State as code
use Rattle.v_elab.specs.States.{IsState}

-- y is built behind the items of the instance of this number, whose path has this text
pub record Closes (text : List ℕ) (node : ℕ) (x : code.State) (y : Parts) : Type 0 where
  pub is : (t : State) (path : Path) → IsState t x → path_text path ≡ text → IsSoFar (closed path node t) y
  pub made : HasChildren x.parts y
