use Rattle.std.proofs.Common.{sym, ap, ◌∙◌, arith, length-append}
use Rattle.gpi.specs.Keys.{among}
use Rattle.await_tree.specs.WaitList.Waiting.{key_list}
use Rattle.await_tree.proofs.WaitListLemmas.Members.{among_left, among_right}
use Rattle.await_tree.proofs.WaitListLemmas.Rekeys.{narrows_through}
use Rattle.await_tree.proofs.WaitListLemmas.Served.{without_both}
use Rattle.trigger_table.specs.Keys.{record_keys, runner_keys}
use Rattle.trigger_table.specs.Records.{causes_in}
use Rattle.trigger_table.proofs.FireLemmas.{alike_without_all}
use Rattle.trigger_table.proofs.firing.unhold_fired.Goals as goal

pub unhold_one-requires-clause-fired : goal.unhold_one-requires-clause-fired
unhold_one-requires-clause-fired g c k m = among_left k (key_list c.args.fired.first) (key_list c.args.fired.second) m

pub unhold_one-requires-2-clause-fired : goal.unhold_one-requires-2-clause-fired
unhold_one-requires-2-clause-fired g c k m = among_right k (key_list c.args.fired.first) (key_list c.args.fired.second) m

pub returns-clause-held : goal.returns-clause-held
returns-clause-held g c k =
    c.unhold_one-2.ensures.held k
    ∙ alike_without_all (key_list c.args.fired.second) (runner_keys (causes_in c.unhold_one.new.records)) _ c.unhold_one.ensures.held k
    ∙ ap (among k) (sym (without_both (key_list c.args.fired.first) (key_list c.args.fired.second) (runner_keys (causes_in c.args.records.now))))

pub returns-clause-keys : goal.returns-clause-keys
returns-clause-keys g c =
    narrows_through (g.K.Gpi.content c.args.kernel.now) (g.K.Gpi.content c.unhold_one.new.kernel) (g.K.Gpi.content c.unhold_one-2.new.kernel)
    (record_keys (causes_in c.args.records.now)) (record_keys (causes_in c.unhold_one.new.records)) (record_keys (causes_in c.unhold_one-2.new.records)) c.unhold_one.ensures.keys c.unhold_one-2.ensures.keys

pub returns-clause-ticks : goal.returns-clause-ticks
returns-clause-ticks g c = omega (arith, c.unhold_one.ensures.ticks, c.unhold_one-2.ensures.ticks, length-append (key_list c.args.fired.first) (key_list c.args.fired.second))
