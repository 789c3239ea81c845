use Rattle.std.proofs.Common.{◌≡◌, length}
use Rattle.py_syntax.specs.Outline.{within}
use Rattle.py_parse.proofs.blocks.Blocks.close_deeper.Given as goal

abbrev pub invariant-loop-self : goal.invariant-loop-self
invariant-loop-self l = within l.indentation l.self ≡ within l.indentation l.initial.self

abbrev pub decreases-loop-self : goal.decreases-loop-self
decreases-loop-self l = length l.self
