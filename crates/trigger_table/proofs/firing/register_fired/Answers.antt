use Rattle.std.proofs.Common.{◌||◌, sym, ◌∙◌, arith, length-append}
use Rattle.gpi.specs.Keys.{among, has}
use Rattle.await_tree.specs.WaitList.Waiting.{key_list}
use Rattle.await_tree.proofs.WaitListLemmas.Awaited.{design_kept, out_second}
use Rattle.await_tree.proofs.WaitListLemmas.Members.{among_left, among_right, and_left}
use Rattle.await_tree.proofs.WaitListLemmas.Rekeys.{rekeyed_more}
use Rattle.trigger_table.specs.Keys.{record_keys}
use Rattle.trigger_table.specs.Records.{causes_in}
use Rattle.trigger_table.proofs.firing.register_fired.Goals as goal

pub register_again-requires-clause-out : goal.register_again-requires-clause-out
register_again-requires-clause-out g c = λ k m. c.requires.fired.out k (among_left k (key_list c.args.fired.first) (key_list c.args.fired.second) m)

pub register_again-requires-clause-edges : goal.register_again-requires-clause-edges
register_again-requires-clause-edges g c = λ k m n. (c.requires.edges k (among_left k (key_list c.args.fired.first) (key_list c.args.fired.second) m) n, c.requires.fired.signals k (among_left k (key_list c.args.fired.first) (key_list c.args.fired.second) m))

pub register_again-requires-clause-named : goal.register_again-requires-clause-named
register_again-requires-clause-named g c = c.requires.named

pub register_again-requires-2-clause-out : goal.register_again-requires-2-clause-out
register_again-requires-2-clause-out g c = out_second (g.K.Gpi.content c.args.kernel.now) (g.K.Gpi.content c.register_again.new.kernel) c.args.fired.first c.args.fired.second (record_keys (causes_in c.args.records.now)) c.requires.fired c.register_again.ensures.keys

pub register_again-requires-2-clause-edges : goal.register_again-requires-2-clause-edges
register_again-requires-2-clause-edges g c = λ k m n. (
  c.requires.edges k (among_right k (key_list c.args.fired.first) (key_list c.args.fired.second) m) n,
  design_kept (g.K.Gpi.content c.args.kernel.now) (g.K.Gpi.content c.register_again.new.kernel) k c.register_again.ensures.keys.state (c.requires.fired.signals k (among_right k (key_list c.args.fired.first) (key_list c.args.fired.second) m)),
)

pub register_again-requires-2-clause-named : goal.register_again-requires-2-clause-named
register_again-requires-2-clause-named g c = λ k h. and_left (among k (record_keys (causes_in c.args.records.now))) (has k (g.K.Gpi.content c.args.kernel.now).keys || among k (key_list c.args.fired.first)) (sym (c.register_again.ensures.keys.keys k) ∙ h)

pub returns-clause-keys : goal.returns-clause-keys
returns-clause-keys g c =
    rekeyed_more (g.K.Gpi.content c.args.kernel.now) (g.K.Gpi.content c.register_again.new.kernel) (g.K.Gpi.content c.register_again-2.new.kernel) (key_list c.args.fired.first) (key_list c.args.fired.second) (record_keys (causes_in c.args.records.now)) (record_keys (causes_in c.args.records.now)) c.register_again.ensures.keys c.register_again-2.ensures.keys

pub returns-clause-ticks : goal.returns-clause-ticks
returns-clause-ticks g c = omega (arith, c.register_again.ensures.ticks, c.register_again-2.ensures.ticks, length-append (key_list c.args.fired.first) (key_list c.args.fired.second))
