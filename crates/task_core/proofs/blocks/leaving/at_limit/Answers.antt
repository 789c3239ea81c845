use Rattle.task_core.proofs.blocks.leaving.at_limit.Goals as goal

pub returns-in-Throw : goal.returns-in-Throw
returns-in-Throw g c = rw c.in-Throw.is c.fault_at_limit.ensures
