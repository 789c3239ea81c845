-- The numbers of the modules before.
use Rattle.std.proofs.Common.{map}
use Rattle.v_syntax.specs.SourceTrees.{view_module}
use Rattle.v_header.proofs.TopLemmas.Numbering.{Numbered}
use Rattle.v_header.proofs.top.numbers.module_numbers.Given as goal

abbrev pub invariant-loop-place : goal.invariant-loop-place
invariant-loop-place l = Numbered (map view_module l.modules) l.place l.numbers
