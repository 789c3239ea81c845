-- A means of proof: what stands at a place in the code of functions, for the proofs of tasks that keep such places.
use Rattle.test_meaning.specs.Body.BodyTrees.{Block, Handlers}

-- a block of statements, and the handlers of a `try`
pub record Reading : Type 0 where
  pub block : Block
  pub handlers : Handlers
