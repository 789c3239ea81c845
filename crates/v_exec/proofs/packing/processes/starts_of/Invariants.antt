use Rattle.std.proofs.Common.{◌≡◌, ◌-◌, map, take}
use Rattle.v_exec.proofs.packing.processes.starts_of.Given as goal

abbrev pub invariant-loop-place : goal.invariant-loop-place
invariant-loop-place l = l.starts.items ≡ map (λ place. l.all - place) (take l.place-index l.places)
