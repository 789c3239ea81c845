use Rattle.std.proofs.Common.{rules}
use Rattle.gpi.proofs.Trees.{claims_more, claims_no}
use Rattle.gpi.proofs.parents.claim.Goals as goal

pub returns-then-not-claim_one-clause-once : goal.returns-then-not-claim_one-clause-once
returns-then-not-claim_one-clause-once c = claims_no c.back.at c.args.node c.args.children.now c.args.parents.now c.back.parents c.get.result.now c.claim_one.result c.back-test.true c.get.ensures c.back.invariant (search rules) c.claim_one.ensures.once

pub back-preserved : goal.back-preserved
back-preserved c = claims_more c.back.at c.args.node c.args.children.now c.args.parents.now c.back.parents c.claim_one.new.parents c.get.result.now c.back-test.true c.get.ensures c.back.invariant c.claim_one.ensures.count (c.claim_one.ensures.once.0 (search rules)) (c.claim_one.ensures.is (search rules))
