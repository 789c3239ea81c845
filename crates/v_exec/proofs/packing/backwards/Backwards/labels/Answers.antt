use Rattle.std.proofs.Common.{arith, ap, ℕ, drop, length, slice_index, ◌-◌}
use Rattle.v_exec.proofs.Labels.{item_inside, start_inside, labels_next, depth_next}
use Rattle.v_exec.proofs.packing.backwards.Backwards.labels.Goals as goal

pub bounds-starts-label : goal.bounds-starts-label
bounds-starts-label c = item_inside c.args.labels.now (length c.args.starts.now) (c.back.at - 1) c.get-label.result.now c.get-label.ensures c.requires.items

pub overflow_sub-passed : goal.overflow_sub-passed
overflow_sub-passed c =
    let here = start_inside c.args.kind c.args.starts.now c.args.labels.now (drop c.back.at c.args.labels.now) (c.back.at - 1) c.get-label.result.now
    c.args.self.now c.back.self c.get-label.ensures c.requires.items c.requires.starts c.back.invariant.is in
    omega arith

pub back-preserved : goal.back-preserved
back-preserved c = record {
  inside = omega arith;
  is = labels_next c.args.kind c.args.starts.now c.args.labels.now c.back.at c.get-label.result.now c.args.self.now c.back.self c.put.new.self c.term.new.self _
      c.back-test.true c.get-label.ensures c.back.invariant.is (ap (λ (n : ℕ). n - slice_index c.args.starts.now c.get-label.result.now.item) c.len.ensures) c.in_ok-put.ensures.is c.in_ok-term.ensures.is;
  depth = depth_next c.args.labels.now c.back.at c.get-label.result.now c.back.depth c.in_ok-term.field-0 c.deepest-depth.result
      c.back-test.true c.get-label.ensures c.back.invariant.depth c.in_ok-term.ensures.depth c.deepest-depth.ensures;
  few = omega (arith, ap length c.in_ok-put.ensures.is, c.in_ok-term.ensures.few, c.deepest-depth.ensures);
  fits = c.in_ok-term.ensures.fits;
}
