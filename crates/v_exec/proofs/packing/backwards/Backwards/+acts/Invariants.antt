use Rattle.std.proofs.Common.{◌≤◌, ◌<◌, length, take, drop}
use Rattle.gpi.specs.Activation.{acts_of}
use Rattle.v_exec.specs.Packing.{too_many}
use Rattle.v_exec.specs.Packed.{PacksActs, ItemsStand}
use Rattle.v_exec.proofs.packing.backwards.Backwards.+acts.Given as goal

abbrev pub invariant-acts-back : goal.invariant-acts-back
invariant-acts-back l = record {
  inside : l.at ≤ length (acts_of l.acts);
  packs : PacksActs l.fn.self l.self (drop l.at (acts_of l.acts)) l.needs;
  fits : length l.self < too_many;
}

abbrev pub decreases-acts-back : goal.decreases-acts-back
decreases-acts-back l = l.at

abbrev pub invariant-items-loop-at : goal.invariant-items-loop-at
invariant-items-loop-at l = record {
  stand : ItemsStand l.fn.self l.self l.starts.items (take l.at (acts_of l.items)) l.needs;
  fits : length l.self < too_many;
}
