use Rattle.std.proofs.Common.{◌||◌, List, [], ◌++◌, length, sym, ap, ◌∙◌, arith}
use Rattle.gpi.specs.Keys.{among, has}
use Rattle.await_tree.specs.WaitList.Waiting.{all_waiting, all_woken, fired_keys}
use Rattle.await_tree.proofs.WaitListLemmas.Awaited.{fired_again, fired_kept}
use Rattle.await_tree.proofs.WaitListLemmas.Members.{and_left}
use Rattle.await_tree.proofs.WaitListLemmas.Rekeys.{narrows_through}
use Rattle.trigger_table.specs.Keys.{record_keys, runner_keys}
use Rattle.trigger_table.specs.Records.{causes_in, state_in}
use Rattle.trigger_table.specs.State.{Row}
use Rattle.trigger_table.specs.Tied.{waiting_in}
use Rattle.trigger_table.specs.Work.{fired_work}
use Rattle.trigger_table.proofs.BeginLemmas.{held_alike}
use Rattle.trigger_table.proofs.FireLemmas.{served_edge}
use Rattle.trigger_table.proofs.firing.fire.Goals as goal

pub unhold_fired-requires-clause-fits : goal.unhold_fired-requires-clause-fits
unhold_fired-requires-clause-fits g c = record { keys = c.requires.keys; out = c.requires.fired.out }

pub reach_fired-requires-clause-few : goal.reach_fired-requires-clause-few
reach_fired-requires-clause-few g c = omega (arith, c.requires.few, ap (λ (rs : List Row). length rs) c.unhold_fired.ensures.rows)

pub reach_fired-requires-clause-room : goal.reach_fired-requires-clause-room
reach_fired-requires-clause-room g c = omega (arith, c.requires.room, ap (λ (rs : List Row). length (waiting_in rs)) c.unhold_fired.ensures.rows)

pub register_fired-requires-clause-fired : goal.register_fired-requires-clause-fired
register_fired-requires-clause-fired g c =
    fired_kept (g.K.Gpi.content c.args.kernel.now) (g.K.Gpi.content c.reach_fired.new.kernel) (fired_keys c.args.fired) (record_keys (causes_in c.args.records.now)) (record_keys (causes_in c.reach_fired.new.records)) c.requires.fired
    (narrows_through (g.K.Gpi.content c.args.kernel.now) (g.K.Gpi.content c.unhold_fired.new.kernel) (g.K.Gpi.content c.reach_fired.new.kernel)
    (record_keys (causes_in c.args.records.now)) (record_keys (causes_in c.unhold_fired.new.records)) (record_keys (causes_in c.reach_fired.new.records)) c.unhold_fired.ensures.keys c.reach_fired.ensures.keys)

pub register_fired-requires-clause-edges : goal.register_fired-requires-clause-edges
register_fired-requires-clause-edges g c =
    served_edge (fired_keys c.args.fired) (state_in c.unhold_fired.new.records) (state_in c.reach_fired.new.records) (runner_keys (causes_in c.args.records.now)) c.unhold_fired.ensures.kept c.reach_fired.ensures.kept c.reach_fired.ensures.waiting
    (λ k. held_alike (causes_in c.unhold_fired.new.records) (causes_in c.reach_fired.new.records) c.reach_fired.ensures.held c.reach_fired.ensures.shrinks k ∙ c.unhold_fired.ensures.held k)

pub register_fired-requires-clause-named : goal.register_fired-requires-clause-named
register_fired-requires-clause-named g c = λ k h.
    and_left (among k (record_keys (causes_in c.reach_fired.new.records))) (has k (g.K.Gpi.content c.unhold_fired.new.kernel).keys || among k []) (sym (c.reach_fired.ensures.keys.keys.keys k) ∙ h)

pub returns-clause-waiting : goal.returns-clause-waiting
returns-clause-waiting g c = c.reach_fired.ensures.waiting ∙ ap (λ (rs : List Row). all_waiting (fired_keys c.args.fired) (waiting_in rs)) c.unhold_fired.ensures.rows

pub returns-clause-ready : goal.returns-clause-ready
returns-clause-ready g c = c.reach_fired.ensures.ready ∙ ap (λ (rs : List Row). c.args.ready.now.entries ++ all_woken (fired_keys c.args.fired) (waiting_in rs)) c.unhold_fired.ensures.rows

pub returns-clause-held : goal.returns-clause-held
returns-clause-held g c = λ k. held_alike (causes_in c.unhold_fired.new.records) (causes_in c.reach_fired.new.records) c.reach_fired.ensures.held c.reach_fired.ensures.shrinks k ∙ c.unhold_fired.ensures.held k

pub returns-clause-few : goal.returns-clause-few
returns-clause-few g c = omega (arith, c.reach_fired.ensures.few, ap (λ (rs : List Row). length rs) c.unhold_fired.ensures.rows)

pub returns-clause-keys : goal.returns-clause-keys
returns-clause-keys g c =
    fired_again (g.K.Gpi.content c.args.kernel.now) (g.K.Gpi.content c.reach_fired.new.kernel) (g.K.Gpi.content c.register_fired.new.kernel) (fired_keys c.args.fired) (record_keys (causes_in c.args.records.now)) (record_keys (causes_in c.reach_fired.new.records))
    (narrows_through (g.K.Gpi.content c.args.kernel.now) (g.K.Gpi.content c.unhold_fired.new.kernel) (g.K.Gpi.content c.reach_fired.new.kernel)
    (record_keys (causes_in c.args.records.now)) (record_keys (causes_in c.unhold_fired.new.records)) (record_keys (causes_in c.reach_fired.new.records)) c.unhold_fired.ensures.keys c.reach_fired.ensures.keys)
    c.register_fired.ensures.keys

pub returns-clause-ticks : goal.returns-clause-ticks
returns-clause-ticks g c =
    omega (arith, c.unhold_fired.ensures.ticks, c.reach_fired.ensures.ticks, c.register_fired.ensures.ticks, ap (λ (rs : List Row). fired_work (fired_keys c.args.fired) (waiting_in rs)) c.unhold_fired.ensures.rows)
