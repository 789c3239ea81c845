use Rattle.std.proofs.Common.{◌≡◌, suc, length, arith}
use Rattle.std.proofs.lemmas.Grind.{common_steps}
use Rattle.fast_kernel.proofs.Making.{chain_pushed, number_at}
use Rattle.fast_kernel.proofs.waiters.Chains.push.Goals as goal

pub returns-clause-chains : goal.returns-clause-chains
returns-clause-chains c = λ n k s h.
    let v : c.len.result ≡ suc (length c.args.self.now.links.items) = grind (arith, common_steps) in
    rw c.in_ok-push.ensures.items
    (chain_pushed c.args.self.now.first.items c.args.self.now.links.items _ c.args.wake.sig.0 c.len.result s c.requires.inside
    (number_at c.args.self.now.first.items c.args.wake.sig.0 c.index.result.now c.requires.inside c.index.ensures) v k.firsts)
