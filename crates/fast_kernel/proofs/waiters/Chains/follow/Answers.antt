use Rattle.std.proofs.Common.{◌≡◌, suc, ◌<◌, ◌≤◌, ◌-◌, ◌∙◌, length, arith, refl}
use Rattle.gpi.specs.Keys.{holds}
use Rattle.fast_kernel.specs.Waiters.{is_met, link_at}
use Rattle.fast_kernel.proofs.Chains.{further_met, further_unmet, link_is, next_before}
use Rattle.fast_kernel.proofs.waiters.Chains.follow.Goals as goal

pub loop-number-preserved-then-meets_edge : goal.loop-number-preserved-then-meets_edge
loop-number-preserved-then-meets_edge c =
    let i = c.loop-number.invariant.inside in
    let t = c.loop-number-test.true in
    let ls = c.args.self.now.links.items in
    let l = c.index-link.result.now in
    let k : c.loop-number.number - 1 < length ls = omega arith in
    let is : l ≡ link_at ls (c.loop-number.number - 1) = link_is ls (c.loop-number.number - 1) l k c.index-link.ensures in
    let b : l.next ≤ c.loop-number.number - 1 = next_before ls (c.loop-number.number - 1) l c.requires.chains.back k is in
    let met : c.meets_edge.result ≡ is_met c.args.report.now l.edge = rw (c.meets_edge.ensures, c.edge-change.ensures, c.low_digit.ensures, c.low_digit-2.ensures) refl in
    let one : c.loop-number.number ≡ suc (c.loop-number.number - 1) = omega arith in
    record {
      inside = omega arith;
      reached = λ q. further_met (holds q c.loop-number.finds.processes.items) q c.args.report.now ls c.loop-number.number (c.loop-number.number - 1) l c.meets_edge.result
          (holds q c.add.new.self.processes.items) one is b met c.if-meets_edge.true (c.add.ensures.found q) ∙ c.loop-number.invariant.reached q;
      marked = c.add.ensures.marked;
      count = c.add.ensures.count ∙ c.loop-number.invariant.count;
    }

pub loop-number-preserved : goal.loop-number-preserved
loop-number-preserved c =
    let i = c.loop-number.invariant.inside in
    let t = c.loop-number-test.true in
    let ls = c.args.self.now.links.items in
    let l = c.index-link.result.now in
    let k : c.loop-number.number - 1 < length ls = omega arith in
    let is : l ≡ link_at ls (c.loop-number.number - 1) = link_is ls (c.loop-number.number - 1) l k c.index-link.ensures in
    let b : l.next ≤ c.loop-number.number - 1 = next_before ls (c.loop-number.number - 1) l c.requires.chains.back k is in
    let met : c.meets_edge.result ≡ is_met c.args.report.now l.edge = rw (c.meets_edge.ensures, c.edge-change.ensures, c.low_digit.ensures, c.low_digit-2.ensures) refl in
    let one : c.loop-number.number ≡ suc (c.loop-number.number - 1) = omega arith in
    record {
      inside = omega arith;
      reached = λ q. further_unmet (holds q c.loop-number.finds.processes.items) q c.args.report.now ls c.loop-number.number (c.loop-number.number - 1) l c.meets_edge.result
          one is b met c.if-meets_edge.false ∙ c.loop-number.invariant.reached q;
      marked = c.loop-number.invariant.marked;
      count = c.loop-number.invariant.count;
    }
