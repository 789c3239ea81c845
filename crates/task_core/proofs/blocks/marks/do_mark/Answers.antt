use Rattle.task_core.proofs.blocks.marks.do_mark.Goals as goal

pub returns-in-Bound-clause-moved : goal.returns-in-Bound-clause-moved
returns-in-Bound-clause-moved g c =
    rw c.in-Bound.is (c.end_bound.ensures c.args.task (g.V.Look.view c.args.view.now) c.args.next.now)

pub returns-in-Holds-clause-moved : goal.returns-in-Holds-clause-moved
returns-in-Holds-clause-moved g c =
    rw c.in-Holds.is (c.end_held.ensures c.args.task (g.V.Look.view c.args.view.now) c.args.next.now)
