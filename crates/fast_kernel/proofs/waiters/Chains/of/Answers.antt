use Rattle.std.proofs.Common.{◌≡◌, ◌∙◌, ◌+◌, ◌-◌, ◌<◌, length, drop, arith, subst, ℕ}
use Rattle.gpi.specs.Design.{procs_of}
use Rattle.fast_kernel.specs.Waiters.{awaiting, chain_of}
use Rattle.fast_kernel.proofs.Making.{awaiting_more, wakes_at}
use Rattle.fast_kernel.proofs.waiters.Chains.of.Goals as goal

pub add_process-requires-clause-wakes : goal.add_process-requires-clause-wakes
add_process-requires-clause-wakes c =
    rw c.loop-at.invariant.signals (wakes_at c.args.processes.now c.args.signals (c.loop-at.at - 1) c.get.result.now c.requires.wakes c.get.ensures)

pub loop-at-preserved : goal.loop-at-preserved
loop-at-preserved c =
    let i = c.loop-at.invariant.inside in
    let t = c.loop-at-test.true in
    let e : c.loop-at.at ≡ (c.loop-at.at - 1) + 1 = omega arith in
    let b : c.loop-at.at - 1 < length c.args.processes.now = omega arith in
    record {
      inside = omega arith;
      signals = c.in_ok-add_process.ensures.signals ∙ c.loop-at.invariant.signals;
      chained = c.in_ok-add_process.ensures.chained (length c.args.processes.now) b c.loop-at.invariant.chained;
      chains = λ s k.
          let old : chain_of c.loop-at.chains s ≡ awaiting s ((c.loop-at.at - 1) + 1) (procs_of (drop ((c.loop-at.at - 1) + 1) c.args.processes.now)) =
          subst (λ (m : ℕ). chain_of c.loop-at.chains s ≡ awaiting s m (procs_of (drop m c.args.processes.now))) e (c.loop-at.invariant.chains s k) in
          let inside : s < length c.loop-at.chains.first.items = rw c.loop-at.invariant.signals k in
          awaiting_more s c.args.processes.now (c.loop-at.at - 1) c.get.result.now _ _ c.get.ensures old
          (c.in_ok-add_process.ensures.chains (length c.args.processes.now) b c.loop-at.invariant.chained s inside);
    }
