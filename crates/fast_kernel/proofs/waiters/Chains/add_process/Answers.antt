use Rattle.std.proofs.Common.{◌≡◌, ◌∙◌, ◌+◌, ◌-◌, ◌<◌, ◌++◌, length, drop, arith, subst, ℕ}
use Rattle.fast_kernel.specs.Waiters.{own, chain_of}
use Rattle.fast_kernel.proofs.Making.{own_more, wake_at}
use Rattle.fast_kernel.proofs.waiters.Chains.add_process.Goals as goal

pub push-requires : goal.push-requires
push-requires c = record {
  inside = rw c.loop-at.invariant.signals (wake_at c.args.wakes.now (length c.args.self.now.first.items) (c.loop-at.at - 1) c.get.result.now c.requires.wakes c.get.ensures);
}

pub loop-at-preserved : goal.loop-at-preserved
loop-at-preserved c =
    let i = c.loop-at.invariant.inside in
    let t = c.loop-at-test.true in
    let e : c.loop-at.at ≡ (c.loop-at.at - 1) + 1 = omega arith in
    record {
      inside = omega arith;
      signals = c.in_ok-push.ensures.signals ∙ c.loop-at.invariant.signals;
      chained = λ n p h. c.in_ok-push.ensures.chained n p (c.loop-at.invariant.chained n p h);
      chains = λ n p h s k.
          let old : chain_of c.loop-at.self s ≡ own s c.args.process (drop ((c.loop-at.at - 1) + 1) c.args.wakes.now) ++ chain_of c.args.self.now s =
          subst (λ (m : ℕ). chain_of c.loop-at.self s ≡ own s c.args.process (drop m c.args.wakes.now) ++ chain_of c.args.self.now s) e (c.loop-at.invariant.chains n p h s k) in
          let inside : s < length c.loop-at.self.first.items = rw c.loop-at.invariant.signals k in
          own_more s c.args.process c.args.wakes.now (c.loop-at.at - 1) c.get.result.now _ _ (chain_of c.args.self.now s) c.get.ensures old
          (c.in_ok-push.ensures.chains n (c.loop-at.invariant.chained n p h) s inside);
    }

pub returns-clause-chains : goal.returns-clause-chains
returns-clause-chains c = λ n p h s k.
    let f = c.loop-at-test.false in
    let e : c.loop-at.at ≡ 0 = omega arith in
    subst (λ (m : ℕ). chain_of c.loop-at.self s ≡ own s c.args.process (drop m c.args.wakes.now) ++ chain_of c.args.self.now s) e (c.loop-at.invariant.chains n p h s k)
