-- The names that are left.
use Rattle.std.proofs.Common.{◌≡◌, drop, bytes_eq}
use Rattle.std.specs.List.{list_any}
use Rattle.v_header.specs.Names.{texts}
use Rattle.v_elab.proofs.there.is_among.Given as goal

abbrev pub invariant-loop-other : goal.invariant-loop-other
invariant-loop-other l = list_any (bytes_eq l.name) (texts (drop l.other-index l.names)) ≡ list_any (bytes_eq l.name) (texts l.names)
