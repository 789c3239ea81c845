use Rattle.std.proofs.Common.{List, length, sym, ap, arith}
use Rattle.trigger_table.specs.Keys.{record_keys}
use Rattle.trigger_table.specs.Records.{causes_in, rows_in, state_in}
use Rattle.trigger_table.specs.State.{Row}
use Rattle.await_tree.proofs.WaitListLemmas.Members.{within_self}
use Rattle.await_tree.proofs.WaitListLemmas.Rekeys.{narrows_none}
use Rattle.trigger_table.proofs.EntryLemmas.{rows_apart}
use Rattle.trigger_table.proofs.CallLemmas.{dropped_kept, dropped_waiting, fewer_rows, task_links}
use Rattle.trigger_table.proofs.TieLemmas.{waiting_absent}
use Rattle.trigger_table.proofs.table.drop_task.Goals as goal

pub returns-in-Some-clause-waiting : goal.returns-in-Some-clause-waiting
returns-in-Some-clause-waiting g c =
    dropped_waiting c.args.records.now c.in-Some.number c.in-Some.ensures.some.0 c.args.task (rows_in c.forget_row.new.records) c.in-Some.ensures.some.1 c.in-Some.ensures.some.2 c.forget_row.ensures.rows

pub returns-in-Some-clause-kept : goal.returns-in-Some-clause-kept
returns-in-Some-clause-kept g c = dropped_kept c.in-Some.number (state_in c.args.records.now) c.forget_row.new.records c.forget_row.ensures.rows c.forget_row.ensures.shrinks c.forget_row.ensures.needed c.requires.kept

pub returns-in-Some-clause-few : goal.returns-in-Some-clause-few
returns-in-Some-clause-few g c = omega (arith, fewer_rows c.in-Some.number (rows_in c.args.records.now), ap (λ (rs : List Row). length rs) c.forget_row.ensures.rows)

pub returns-in-Some-clause-ticks : goal.returns-in-Some-clause-ticks
returns-in-Some-clause-ticks g c = omega (arith, task_links c.in-Some.number (state_in c.args.records.now) c.in-Some.ensures.some.0 c.args.task c.requires.kept c.in-Some.ensures.some.1 c.in-Some.ensures.some.2)

pub returns-in_default-clause-waiting : goal.returns-in_default-clause-waiting
returns-in_default-clause-waiting g c = sym (waiting_absent c.args.task (rows_in c.args.records.now) (rows_apart c.args.records.now) c.in_default.ensures.none)

pub returns-in_default-clause-keys : goal.returns-in_default-clause-keys
returns-in_default-clause-keys g c =
    narrows_none (g.K.Gpi.content c.args.kernel.now) (record_keys (causes_in c.args.records.now)) (record_keys (causes_in c.args.records.now)) (λ k h. c.requires.fits.keys.within k h) (within_self (record_keys (causes_in c.args.records.now)))
