-- The names so far.
use Rattle.std.proofs.Common.{◌≡◌, take}
use Rattle.v_header.specs.Names.{texts}
use Rattle.v_elab.proofs.entering.with_name.Given as goal

abbrev pub invariant-loop-other : goal.invariant-loop-other
invariant-loop-other l = texts l.all.items ≡ texts (take l.other-index l.names)
