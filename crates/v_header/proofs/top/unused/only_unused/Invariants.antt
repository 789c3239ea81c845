-- The module that was found, and those that are left.
use Rattle.v_header.specs.Top.Found.{module_in}
use Rattle.v_header.proofs.TopLemmas.Instances.{Leaves}
use Rattle.v_header.proofs.top.unused.only_unused.Given as goal

abbrev pub invariant-loop-module : goal.invariant-loop-module
invariant-loop-module l = Leaves l.modules l.names l.module-index (module_in l.found)
