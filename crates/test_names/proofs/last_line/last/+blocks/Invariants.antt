-- The last line of the items so far.
use Rattle.std.proofs.Common.{◌≡◌, ℕ, drop}
use Rattle.py_syntax.specs.BlockTrees.{block_of}
use Rattle.py_syntax.specs.Modules.{block_lines}
use Rattle.test_names.specs.LastLine.Behind.{number_behind}
use Rattle.test_names.proofs.last_line.last.+blocks.Given as goal

abbrev pub invariant-of_block-loop-item : goal.invariant-of_block-loop-item
invariant-of_block-loop-item l = (d : ℕ) → number_behind l.fn.before.0 (block_lines d (block_of l.block))
    ≡ number_behind l.last.0 (block_lines d (block_of (drop l.item-index l.block)))
