-- The names that are added, and those of the modules that are left.
use Rattle.v_header.proofs.TopLemmas.Instances.{Adding, names_of_modules}
use Rattle.v_header.proofs.top.unused.used_modules.Given as goal

abbrev pub invariant-loop-module : goal.invariant-loop-module
invariant-loop-module l = Adding names_of_modules l.modules l.module-index l.initial.names l.names
