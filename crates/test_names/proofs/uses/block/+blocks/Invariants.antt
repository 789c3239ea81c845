-- No line so far breaks a rule.
use Rattle.std.proofs.Common.{◌≡◌, drop}
use Rattle.py_syntax.specs.BlockTrees.{block_of}
use Rattle.test_meaning.specs.Rules.Rules.{first_broken}
use Rattle.test_meaning.specs.Rules.Uses.{block_lines}
use Rattle.test_names.proofs.uses.block.+blocks.Given as goal

abbrev pub invariant-of_block-loop-item : goal.invariant-of_block-loop-item
invariant-of_block-loop-item g l =
    first_broken (g.S.Scope.file l.scope) (block_lines (g.S.Scope.around l.scope) l.looped (block_of l.block))
    ≡ first_broken (g.S.Scope.file l.scope) (block_lines (g.S.Scope.around l.scope) l.looped (block_of (drop l.item-index l.block)))
