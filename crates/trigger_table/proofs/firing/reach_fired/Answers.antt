use Rattle.std.proofs.Common.{List, ◌++◌, refl, sym, ap, ◌∙◌, arith, append_assoc, length-append}
use Rattle.await_tree.specs.WaitList.Waiting.{Waiting, all_waiting, all_woken, fired_keys, key_list}
use Rattle.await_tree.specs.declared.wait_list.ready.Entry.{Entry}
use Rattle.await_tree.proofs.WaitListLemmas.Rekeys.{narrows_through}
use Rattle.await_tree.proofs.WaitListLemmas.Served.{all_both, woken_both}
use Rattle.trigger_table.specs.Keys.{record_keys}
use Rattle.trigger_table.specs.Records.{causes_in, rows_in}
use Rattle.trigger_table.specs.Tied.{waiting_in}
use Rattle.trigger_table.specs.Work.{fired_work}
use Rattle.trigger_table.proofs.FireLemmas.{served_room, work_both}
use Rattle.trigger_table.proofs.GoneLemmas.{fits_on, shrinks_through}
use Rattle.trigger_table.proofs.RowLemmas.{held_then}
use Rattle.trigger_table.proofs.firing.reach_fired.Goals as goal

pub reach_one-requires-2-clause-room : goal.reach_one-requires-2-clause-room
reach_one-requires-2-clause-room g c =
    served_room (key_list c.args.fired.first) (waiting_in (rows_in c.args.records.now)) c.args.ready.now.entries c.reach_one.new.ready.entries (waiting_in (rows_in c.reach_one.new.records)) c.args.ready.now.room c.reach_one.new.ready.room
    c.reach_one.ensures.waiting c.reach_one.ensures.ready c.reach_one.ensures.room c.requires.room

pub reach_one-requires-2-clause-fits : goal.reach_one-requires-2-clause-fits
reach_one-requires-2-clause-fits g c =
    fits_on (g.K.Gpi.content c.args.kernel.now) (g.K.Gpi.content c.reach_one.new.kernel) (fired_keys c.args.fired) (causes_in c.args.records.now) (causes_in c.reach_one.new.records) c.requires.fits c.reach_one.ensures.keys c.reach_one.ensures.held

pub reach_one-requires-2-clause-few : goal.reach_one-requires-2-clause-few
reach_one-requires-2-clause-few g c = omega (arith, c.reach_one.ensures.few, c.requires.few)

pub returns-clause-waiting : goal.returns-clause-waiting
returns-clause-waiting g c =
    c.reach_one-2.ensures.waiting ∙ ap (all_waiting (key_list c.args.fired.second)) c.reach_one.ensures.waiting
    ∙ sym (all_both (key_list c.args.fired.first) (key_list c.args.fired.second) (waiting_in (rows_in c.args.records.now)))

pub returns-clause-ready : goal.returns-clause-ready
returns-clause-ready g c =
    c.reach_one-2.ensures.ready
    ∙ ap (λ (es : List Entry). es ++ all_woken (key_list c.args.fired.second) (waiting_in (rows_in c.reach_one.new.records))) c.reach_one.ensures.ready
    ∙ append_assoc c.args.ready.now.entries (all_woken (key_list c.args.fired.first) (waiting_in (rows_in c.args.records.now))) (all_woken (key_list c.args.fired.second) (waiting_in (rows_in c.reach_one.new.records)))
    ∙ ap (λ (ws : List Waiting). c.args.ready.now.entries ++ (all_woken (key_list c.args.fired.first) (waiting_in (rows_in c.args.records.now)) ++ all_woken (key_list c.args.fired.second) ws)) c.reach_one.ensures.waiting
    ∙ ap (λ (es : List Entry). c.args.ready.now.entries ++ es) (sym (woken_both (key_list c.args.fired.first) (key_list c.args.fired.second) (waiting_in (rows_in c.args.records.now))))

pub returns-clause-held : goal.returns-clause-held
returns-clause-held g c = held_then (causes_in c.args.records.now) (causes_in c.reach_one.new.records) (causes_in c.reach_one-2.new.records) c.reach_one.ensures.held c.reach_one-2.ensures.held

pub returns-clause-shrinks : goal.returns-clause-shrinks
returns-clause-shrinks g c = shrinks_through (causes_in c.args.records.now) (causes_in c.reach_one.new.records) (causes_in c.reach_one.new.records) (causes_in c.reach_one-2.new.records) c.reach_one.ensures.shrinks refl c.reach_one-2.ensures.shrinks

pub returns-clause-few : goal.returns-clause-few
returns-clause-few g c = omega (arith, c.reach_one.ensures.few, c.reach_one-2.ensures.few)

pub returns-clause-keys : goal.returns-clause-keys
returns-clause-keys g c =
    narrows_through (g.K.Gpi.content c.args.kernel.now) (g.K.Gpi.content c.reach_one.new.kernel) (g.K.Gpi.content c.reach_one-2.new.kernel)
    (record_keys (causes_in c.args.records.now)) (record_keys (causes_in c.reach_one.new.records)) (record_keys (causes_in c.reach_one-2.new.records)) c.reach_one.ensures.keys c.reach_one-2.ensures.keys

pub returns-clause-ticks : goal.returns-clause-ticks
returns-clause-ticks g c =
    omega (
      arith,
      c.reach_one.ensures.ticks,
      c.reach_one-2.ensures.ticks,
      length-append (key_list c.args.fired.first) (key_list c.args.fired.second),
      ap (fired_work (key_list c.args.fired.second)) c.reach_one.ensures.waiting,
      work_both (key_list c.args.fired.first) (key_list c.args.fired.second) (waiting_in (rows_in c.args.records.now)),
    )
