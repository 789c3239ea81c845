use Rattle.std.proofs.Common.{take}
use Rattle.v_exec.specs.Packed.{ProcessesStand}
use Rattle.v_exec.proofs.packing.backwards.Backwards.processes.Given as goal

abbrev pub invariant-loop-at : goal.invariant-loop-at
invariant-loop-at l = ProcessesStand l.self l.places.items (take l.at l.processes) l.needs
