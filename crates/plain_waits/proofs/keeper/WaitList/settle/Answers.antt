use Rattle.std.proofs.Common.{take, drop, refl}
use Rattle.plain_waits.specs.Kept.{waiting_in}
use Rattle.plain_waits.proofs.Calls.{taken_few}
use Rattle.plain_waits.proofs.Walks.{settled_given, settled_none, settled_on, settled_out}
use Rattle.plain_waits.proofs.keeper.WaitList.settle.Goals as goal

pub returns-in-Still-clause-passes : goal.returns-in-Still-clause-passes
returns-in-Still-clause-passes c = settled_on c.args.self.now.waiting.items (waiting_in c.args.self.now) c.args.at c.args.step c.in-Still.is c.requires.at refl

pub returns-in-Still-clause-ready : goal.returns-in-Still-clause-ready
returns-in-Still-clause-ready c = settled_none c.args.step (take 1 (drop c.args.at (waiting_in c.args.self.now))) c.args.ready.now.entries c.in-Still.is

pub returns-in-Done-clause-passes : goal.returns-in-Done-clause-passes
returns-in-Done-clause-passes c = settled_out c.args.self.now.waiting.items c.take_away.new.list.items c.args.at c.args.step c.in-Done.given c.in-Done.is c.requires.at c.take_away.ensures

pub returns-in-Done-clause-ready : goal.returns-in-Done-clause-ready
returns-in-Done-clause-ready c = settled_given c.args.self.now.waiting.items c.args.at c.index.result.now c.args.step c.in-Done.given c.args.ready.now.entries c.put.new.self.entries c.in-Done.is c.requires.at c.index.ensures c.put.ensures.entries

pub invariant_of-self : goal.invariant_of-self
invariant_of-self c = record { few = taken_few c.args.self.now.waiting.items c.take_away.new.list.items c.args.at 65536 c.take_away.ensures c.args.self.now.few }
