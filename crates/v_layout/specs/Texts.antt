-- A means of proof: the text of an instance's path, for the proofs of elaboration.
use Rattle.std.specs.Prelude.{◌≡◌, ◌≢◌, ℕ, List, []}
use Rattle.v_flat.specs.Paths.{Path, path_text}

-- the path has a name at least, that of the top, and this is its text: the names with dots between them
pub record HasText (path : Path) (text : List ℕ) : Type 0 where
  pub named : path ≢ []
  pub is : path_text path ≡ text
