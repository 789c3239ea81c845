use Rattle.std.proofs.Common.{rules}
use Rattle.gpi.proofs.Trees.{notes_more, notes_no}
use Rattle.gpi.proofs.parents.note_parents.Goals as goal

pub returns-then-not-claim-clause-once : goal.returns-then-not-claim-clause-once
returns-then-not-claim-clause-once c = notes_no c.back.at c.args.nodes.now c.back.parents c.get.result.now c.claim.result c.back-test.true c.get.ensures c.back.invariant (search rules) c.claim.ensures.once

pub back-preserved : goal.back-preserved
back-preserved c = notes_more c.back.at c.args.nodes.now c.back.parents c.claim.new.parents c.get.result.now c.back-test.true c.get.ensures c.back.invariant c.claim.ensures.count (c.claim.ensures.once.0 (search rules)) (c.claim.ensures.is (search rules))
