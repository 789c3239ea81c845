use Rattle.std.proofs.Common.{List, Option, Some, [], ◌∷◌, length, sym, ap, ◌∙◌, subst, arith, length-append}
use Rattle.gpi.specs.declared.types.Key.{Key}
use Rattle.await_tree.specs.Whole.{tree_in}
use Rattle.await_tree.specs.WaitList.Keys.{AreAsked, AreKeys, Rekeyed}
use Rattle.await_tree.specs.WaitList.Parts.{Fits}
use Rattle.await_tree.specs.WaitList.Waiting.{keys_among}
use Rattle.await_tree.specs.declared.cause.Awaited.{Awaited}
use Rattle.await_tree.proofs.WaitListLemmas.Awaited.{fits_again}
use Rattle.await_tree.proofs.WaitListLemmas.Served.{kept_same}
use Rattle.trigger_table.specs.Keys.{record_keys, runner_keys}
use Rattle.trigger_table.specs.Records.{causes_in, rows_in, state_in}
use Rattle.trigger_table.specs.State.{HasRow, IsLast, Row}
use Rattle.trigger_table.specs.declared.entries.CauseRecord.{CauseRecord}
use Rattle.trigger_table.proofs.AwaitLemmas.{has_last, same_runner, slots_same}
use Rattle.trigger_table.proofs.BeginLemmas.{absent_of, held_back, held_now, kept_back, kept_now, keys_back, last_row, links_now, needed_added, rows_back, rows_now, waitable, waiting_now}
use Rattle.trigger_table.proofs.HoldLemmas.{same_kept}
use Rattle.trigger_table.proofs.KeptLemmas.{on_err}
use Rattle.trigger_table.proofs.TieLemmas.{needed_of}
use Rattle.trigger_table.proofs.awaiting.begin_on.Goals as goal

pub add_task-requires : goal.add_task-requires
add_task-requires g c = absent_of c.args.task (rows_in c.args.records.now) c.requires.new

pub await_all-requires-clause-last : goal.await_all-requires-clause-last
await_all-requires-clause-last g c = subst (IsLast c.in_ok-number.number) (sym c.in_ok-number.ensures.ok) (last_row (rows_in c.args.records.now) (record { number = c.in_ok-number.number; entry = Some (record { task = c.args.task; tree = tree_in c.args.tree }); links = [] }))

pub await_all-requires-clause-needed : goal.await_all-requires-clause-needed
await_all-requires-clause-needed g c = needed_added (state_in c.args.records.now) (state_in c.add_task.new.self) _ c.in_ok-number.ensures.ok c.add_task.ensures.causes (needed_of (state_in c.args.records.now) c.requires.kept)

pub await_all-requires-clause-keys : goal.await_all-requires-clause-keys
await_all-requires-clause-keys g c = subst (λ (cs : List (Option CauseRecord)). AreKeys (g.K.Gpi.content c.args.kernel.now).keys (record_keys cs)) (sym c.add_task.ensures.causes) c.requires.keys

pub await_all-requires-clause-asked : goal.await_all-requires-clause-asked
await_all-requires-clause-asked g c = subst (λ (xs : List Awaited). AreAsked (g.K.Gpi.content c.args.kernel.now) (keys_among xs)) (sym c.requires.leaves) c.requires.asked

pub forget_row-requires-clause-has : goal.forget_row-requires-clause-has
forget_row-requires-clause-has g c =
    subst (HasRow c.in_ok-number.number) (sym (rows_now c.args.records.now c.add_task.new.self c.in_ok-number.number (record { task = c.args.task; tree = tree_in c.args.tree }) c.in_ok-number.ensures.ok c.add_task.ensures.causes c.await_all.new.records c.in-Err.ensures.err.ons c.in-Err.ensures.err.reaches))
    (has_last c.in_ok-number.number _ (last_row (rows_in c.args.records.now) (record { number = c.in_ok-number.number; entry = Some (record { task = c.args.task; tree = tree_in c.args.tree }); links = c.in-Err.ensures.err.reaches.links })))

pub forget_row-requires-clause-needed : goal.forget_row-requires-clause-needed
forget_row-requires-clause-needed g c = c.in-Err.ensures.err.reaches.needed

pub forget_row-requires-clause-fits : goal.forget_row-requires-clause-fits
forget_row-requires-clause-fits g c =
    subst (λ (ks : List Key). Fits (g.K.Gpi.content c.await_all.new.kernel) ks (runner_keys (causes_in c.await_all.new.records)) (record_keys (causes_in c.await_all.new.records))) (sym c.none_fired-none.ensures)
    (fits_again (g.K.Gpi.content c.await_all.new.kernel) (runner_keys (causes_in c.await_all.new.records)) (record_keys (causes_in c.await_all.new.records)) c.in-Err.ensures.err.keys)

pub returns-in_err-number-clause-err : goal.returns-in_err-number-clause-err
returns-in_err-number-clause-err g c = on_err _ c.in_err-number.ensures.err

pub returns-in_err-number-clause-kept : goal.returns-in_err-number-clause-kept
returns-in_err-number-clause-kept g c =
    same_kept (state_in c.args.records.now) (state_in c.add_task.new.self) c.in_err-number.ensures.err (slots_same (causes_in c.args.records.now) (causes_in c.add_task.new.self) c.add_task.ensures.causes) c.requires.kept

pub returns-in_err-number-clause-held : goal.returns-in_err-number-clause-held
returns-in_err-number-clause-held g c = same_runner (causes_in c.args.records.now) (causes_in c.add_task.new.self) (slots_same (causes_in c.args.records.now) (causes_in c.add_task.new.self) c.add_task.ensures.causes)

pub returns-in_err-number-clause-few : goal.returns-in_err-number-clause-few
returns-in_err-number-clause-few g c = omega (arith, ap (λ (rs : List Row). length rs) c.in_err-number.ensures.err)

pub returns-in_err-number-clause-back : goal.returns-in_err-number-clause-back
returns-in_err-number-clause-back g c = on_err _ (kept_same (g.K.Gpi.content c.args.kernel.now))

pub returns-in-Err-clause-err : goal.returns-in-Err-clause-err
returns-in-Err-clause-err g c = rows_back c.args.records.now c.add_task.new.self c.in_ok-number.number (record { task = c.args.task; tree = tree_in c.args.tree }) c.in_ok-number.ensures.ok c.add_task.ensures.causes c.await_all.new.records c.in-Err.ensures.err.ons c.in-Err.ensures.err.reaches c.forget_row.new.records c.forget_row.ensures.rows c.forget_row.ensures.needed c.forget_row.ensures.held c.forget_row.ensures.shrinks

pub returns-in-Err-clause-kept : goal.returns-in-Err-clause-kept
returns-in-Err-clause-kept g c = kept_back c.args.records.now c.add_task.new.self c.in_ok-number.number (record { task = c.args.task; tree = tree_in c.args.tree }) c.in_ok-number.ensures.ok c.add_task.ensures.causes c.await_all.new.records c.in-Err.ensures.err.ons c.in-Err.ensures.err.reaches c.forget_row.new.records c.forget_row.ensures.rows c.forget_row.ensures.needed c.forget_row.ensures.held c.forget_row.ensures.shrinks c.requires.kept

pub returns-in-Err-clause-held : goal.returns-in-Err-clause-held
returns-in-Err-clause-held g c = held_back c.args.records.now c.add_task.new.self c.in_ok-number.number (record { task = c.args.task; tree = tree_in c.args.tree }) c.in_ok-number.ensures.ok c.add_task.ensures.causes c.await_all.new.records c.in-Err.ensures.err.ons c.in-Err.ensures.err.reaches c.forget_row.new.records c.forget_row.ensures.rows c.forget_row.ensures.needed c.forget_row.ensures.held c.forget_row.ensures.shrinks

pub returns-in-Err-clause-few : goal.returns-in-Err-clause-few
returns-in-Err-clause-few g c = omega (arith, ap (λ (rs : List Row). length rs) (rows_back c.args.records.now c.add_task.new.self c.in_ok-number.number (record { task = c.args.task; tree = tree_in c.args.tree }) c.in_ok-number.ensures.ok c.add_task.ensures.causes c.await_all.new.records c.in-Err.ensures.err.ons c.in-Err.ensures.err.reaches c.forget_row.new.records c.forget_row.ensures.rows c.forget_row.ensures.needed c.forget_row.ensures.held c.forget_row.ensures.shrinks))

pub returns-in-Err-clause-back : goal.returns-in-Err-clause-back
returns-in-Err-clause-back g c =
    keys_back c.args.records.now c.add_task.new.self c.in_ok-number.number (record { task = c.args.task; tree = tree_in c.args.tree }) c.in_ok-number.ensures.ok c.add_task.ensures.causes c.await_all.new.records c.in-Err.ensures.err.ons c.in-Err.ensures.err.reaches c.forget_row.new.records c.forget_row.ensures.rows c.forget_row.ensures.needed c.forget_row.ensures.held c.forget_row.ensures.shrinks c.requires.kept
    (g.K.Gpi.content c.args.kernel.now) (g.K.Gpi.content c.await_all.new.kernel) (g.K.Gpi.content c.forget_row.new.kernel) c.requires.keys c.in-Err.ensures.err.steady c.in-Err.ensures.err.keys c.forget_row.ensures.keys

pub returns-in-Err-clause-ticks : goal.returns-in-Err-clause-ticks
returns-in-Err-clause-ticks g c = omega (arith, links_now c.args.records.now c.add_task.new.self c.in_ok-number.number (record { task = c.args.task; tree = tree_in c.args.tree }) c.in_ok-number.ensures.ok c.add_task.ensures.causes c.await_all.new.records c.in-Err.ensures.err.ons c.in-Err.ensures.err.reaches, c.in-Err.ensures.err.few, ap (λ (xs : List Awaited). length xs) c.requires.leaves)

pub returns-clause-ok : goal.returns-clause-ok
returns-clause-ok g c = waiting_now c.args.records.now c.add_task.new.self c.in_ok-number.number (record { task = c.args.task; tree = tree_in c.args.tree }) c.in_ok-number.ensures.ok c.add_task.ensures.causes c.await_all.new.records c.args.awaited.now c.in_default.ensures.ok

pub returns-clause-kept : goal.returns-clause-kept
returns-clause-kept g c = kept_now c.args.records.now c.add_task.new.self c.in_ok-number.number (record { task = c.args.task; tree = tree_in c.args.tree }) c.in_ok-number.ensures.ok c.add_task.ensures.causes c.await_all.new.records c.args.awaited.now c.in_default.ensures.ok c.requires.kept c.requires.leaves (waitable (tree_in c.args.tree) c.requires.begun)

pub returns-clause-held : goal.returns-clause-held
returns-clause-held g c = held_now c.args.records.now c.add_task.new.self c.in_ok-number.number (record { task = c.args.task; tree = tree_in c.args.tree }) c.in_ok-number.ensures.ok c.add_task.ensures.causes c.await_all.new.records c.args.awaited.now c.in_default.ensures.ok

pub returns-clause-few : goal.returns-clause-few
returns-clause-few g c = omega (arith, ap (λ (rs : List Row). length rs) (rows_now c.args.records.now c.add_task.new.self c.in_ok-number.number (record { task = c.args.task; tree = tree_in c.args.tree }) c.in_ok-number.ensures.ok c.add_task.ensures.causes c.await_all.new.records c.args.awaited.now c.in_default.ensures.ok), length-append (rows_in c.args.records.now) ((let r : Row = record { number = c.in_ok-number.number; entry = Some (record { task = c.args.task; tree = tree_in c.args.tree }); links = c.in_default.ensures.ok.links } in r) ∷ []))

pub returns-clause-keys : goal.returns-clause-keys
returns-clause-keys g c =
    subst (λ (xs : List Awaited). Rekeyed (g.K.Gpi.content c.args.kernel.now) (g.K.Gpi.content c.await_all.new.kernel) (keys_among xs) (record_keys (causes_in c.args.records.now)) (record_keys (causes_in c.await_all.new.records))) c.requires.leaves
    (subst (λ (cs : List (Option CauseRecord)). Rekeyed (g.K.Gpi.content c.args.kernel.now) (g.K.Gpi.content c.await_all.new.kernel) (keys_among c.args.awaited.now) (record_keys cs) (record_keys (causes_in c.await_all.new.records))) c.add_task.ensures.causes c.in_default.ensures.adds)

pub returns-clause-ticks : goal.returns-clause-ticks
returns-clause-ticks g c = omega (arith, ap (λ (xs : List Awaited). length xs) c.requires.leaves)
