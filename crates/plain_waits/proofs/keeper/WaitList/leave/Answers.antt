use Rattle.plain_waits.proofs.Calls.{taken_few}
use Rattle.plain_waits.proofs.Walks.{mapped}
use Rattle.plain_waits.proofs.keeper.WaitList.leave.Goals as goal

pub invariant_of-self : goal.invariant_of-self
invariant_of-self c = record { few = taken_few c.args.self.now.waiting.items c.take_away.new.list.items c.args.at 65536 c.take_away.ensures c.args.self.now.few }

pub returns-clause-waiting : goal.returns-clause-waiting
returns-clause-waiting c = mapped c.args.self.now.waiting.items c.take_away.new.list.items c.args.at c.take_away.ensures
