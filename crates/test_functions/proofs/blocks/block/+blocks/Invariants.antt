-- What stands behind a place.
use Rattle.std.proofs.Common.{◌≡◌, drop}
use Rattle.py_syntax.specs.BlockTrees.{block_of}
use Rattle.test_functions.specs.Blocks.Kept.{tail_in}
use Rattle.test_meaning.specs.Bodies.{block_in}
use Rattle.test_functions.proofs.blocks.block.+blocks.Given as goal

abbrev pub invariant-block-loop-at : goal.invariant-block-loop-at
invariant-block-loop-at g l = tail_in l.tail ≡ block_in (g.M.Meanings.inside l.meanings) (block_of (drop l.at l.items))
