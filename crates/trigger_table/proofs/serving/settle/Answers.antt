use Rattle.std.proofs.Common.{◌++◌, sym, ap, ◌∙◌, arith, append-nil}
use Rattle.await_tree.specs.WaitList.Waiting.{entry_of}
use Rattle.await_tree.specs.declared.cause.Step.{Step}
use Rattle.trigger_table.specs.Records.{rows_in, state_in}
use Rattle.trigger_table.specs.Serving.{leaves_at}
use Rattle.trigger_table.proofs.SettleLemmas.{done_kept, done_settles, still_kept, still_settles, untied_has}
use Rattle.trigger_table.proofs.serving.settle.Goals as goal

pub trim_row-requires-clause-has : goal.trim_row-requires-clause-has
trim_row-requires-clause-has g c = untied_has c.args.number c.args.step (leaves_at c.args.number (rows_in c.args.records.now)) (state_in c.args.records.now) c.requires.untied

pub trim_row-requires-clause-on : goal.trim_row-requires-clause-on
trim_row-requires-clause-on g c = (c.requires.untied.before, c.requires.untied.on, c.requires.untied.keeps)

pub trim_row-requires-clause-needed : goal.trim_row-requires-clause-needed
trim_row-requires-clause-needed g c = c.requires.untied.needed

pub leave-requires-clause-has : goal.leave-requires-clause-has
leave-requires-clause-has g c = untied_has c.args.number c.args.step (leaves_at c.args.number (rows_in c.args.records.now)) (state_in c.args.records.now) c.requires.untied

pub leave-requires-clause-needed : goal.leave-requires-clause-needed
leave-requires-clause-needed g c = c.requires.untied.needed

pub returns-in-Still-clause-settles : goal.returns-in-Still-clause-settles
returns-in-Still-clause-settles g c =
    still_settles c.args.number c.args.step (leaves_at c.args.number (rows_in c.args.records.now)) c.args.records.now c.trim_row.new.records c.requires.untied c.in-Still.is c.trim_row.ensures.trimmed

pub returns-in-Still-clause-ready : goal.returns-in-Still-clause-ready
returns-in-Still-clause-ready g c w is = sym (append-nil c.args.ready.now.entries) ∙ ap (λ (s : Step). c.args.ready.now.entries ++ entry_of w.task s) (sym c.in-Still.is)

pub returns-in-Still-clause-kept : goal.returns-in-Still-clause-kept
returns-in-Still-clause-kept g c =
    still_kept c.args.number c.args.step (leaves_at c.args.number (rows_in c.args.records.now)) c.args.records.now c.trim_row.new.records c.requires.untied c.in-Still.is c.trim_row.ensures.trimmed
    c.trim_row.ensures.shrinks c.trim_row.ensures.needed

pub returns-in-Still-clause-ticks : goal.returns-in-Still-clause-ticks
returns-in-Still-clause-ticks g c = omega (arith, c.trim_row.ensures.ticks, c.requires.some)

pub returns-in-Done-clause-settles : goal.returns-in-Done-clause-settles
returns-in-Done-clause-settles g c =
    done_settles c.args.number c.args.step (leaves_at c.args.number (rows_in c.args.records.now)) c.args.records.now c.leave.new.records c.requires.untied c.in-Done.given c.in-Done.is c.leave.ensures.rows
    (untied_has c.args.number c.args.step (leaves_at c.args.number (rows_in c.args.records.now)) (state_in c.args.records.now) c.requires.untied)

pub returns-in-Done-clause-ready : goal.returns-in-Done-clause-ready
returns-in-Done-clause-ready g c w is = c.leave.ensures.ready w is ∙ ap (λ (s : Step). c.args.ready.now.entries ++ entry_of w.task s) (sym c.in-Done.is)

pub returns-in-Done-clause-kept : goal.returns-in-Done-clause-kept
returns-in-Done-clause-kept g c =
    done_kept c.args.number c.args.step (leaves_at c.args.number (rows_in c.args.records.now)) c.args.records.now c.leave.new.records c.requires.untied c.in-Done.given c.in-Done.is c.leave.ensures.rows c.leave.ensures.shrinks c.leave.ensures.needed

pub returns-in-Done-clause-ticks : goal.returns-in-Done-clause-ticks
returns-in-Done-clause-ticks g c = omega (arith, c.leave.ensures.ticks, c.requires.some)
