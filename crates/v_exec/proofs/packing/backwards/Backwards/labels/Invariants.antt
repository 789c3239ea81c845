use Rattle.std.proofs.Common.{◌≡◌, ◌+◌, ◌≤◌, ◌<◌, length, drop}
use Rattle.v_exec.specs.Packing.{too_many}
use Rattle.v_exec.specs.Packed.{labels_front, labels_depth}
use Rattle.v_exec.proofs.packing.backwards.Backwards.labels.Given as goal

abbrev pub invariant-back : goal.invariant-back
invariant-back l = record {
  inside : l.at ≤ length l.labels;
  is : l.self ≡ labels_front l.kind l.starts (drop l.at l.labels) l.fn.self;
  depth : l.depth ≡ labels_depth (drop l.at l.labels);
  few : l.depth + length l.fn.self ≤ length l.self + 1;
  fits : length l.self < too_many;
}

abbrev pub decreases-back : goal.decreases-back
decreases-back l = l.at
