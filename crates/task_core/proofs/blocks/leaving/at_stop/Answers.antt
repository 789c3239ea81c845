use Rattle.task_core.proofs.blocks.leaving.at_stop.Goals as goal

pub returns-in-Bound : goal.returns-in-Bound
returns-in-Bound g c = rw c.in-Bound.is c.at_bound.ensures

pub returns-in-Holds : goal.returns-in-Holds
returns-in-Holds g c = rw c.in-Holds.is c.at_held.ensures
