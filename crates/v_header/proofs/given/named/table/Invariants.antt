-- The table has the names but for those that are left.
use Rattle.std.proofs.Common.{drop}
use Rattle.v_header.specs.Names.{texts}
use Rattle.v_header.proofs.GivenLemmas.Uses.{HasOthers}
use Rattle.v_header.proofs.given.named.table.Given as goal

abbrev pub invariant-loop-place : goal.invariant-loop-place
invariant-loop-place l = HasOthers (texts l.names) (texts (drop l.place l.names)) l.table
