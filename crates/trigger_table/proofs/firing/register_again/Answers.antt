use Rattle.std.proofs.Common.{sym, ap, ◌∙◌, length, Option, arith}
use Rattle.gpi.specs.declared.types.Key.{Key}
use Rattle.await_tree.specs.WaitList.Waiting.{key_list}
use Rattle.await_tree.proofs.WaitListLemmas.Awaited.{again_named, again_none, again_unnamed, not_true, some_key}
use Rattle.await_tree.proofs.WaitListLemmas.Rekeys.{edge_asked, edge_untimed}
use Rattle.trigger_table.specs.Keys.{record_keys}
use Rattle.trigger_table.specs.Records.{causes_in}
use Rattle.trigger_table.proofs.firing.register_again.Goals as goal

pub register-requires-clause-asked : goal.register-requires-clause-asked
register-requires-clause-asked g c =
    edge_asked (g.K.Gpi.content c.args.kernel.now) c.in-Some.key (c.requires.edges c.in-Some.key (some_key c.args.key c.in-Some.key c.in-Some.is) (sym c.is_named.ensures.value ∙ c.if-is_named.true)).0
    (c.requires.edges c.in-Some.key (some_key c.args.key c.in-Some.key c.in-Some.is) (sym c.is_named.ensures.value ∙ c.if-is_named.true)).1

pub is_named-requires : goal.is_named-requires
is_named-requires g c = record { edges = λ named. (c.requires.edges c.in-Some.key (some_key c.args.key c.in-Some.key c.in-Some.is) named).0 }

pub register-requires-clause-new : goal.register-requires-clause-new
register-requires-clause-new g c = c.requires.out c.in-Some.key (some_key c.args.key c.in-Some.key c.in-Some.is)

pub unreachable-requires : goal.unreachable-requires
unreachable-requires g c = not_true _ (edge_untimed c.in-Some.key (c.requires.edges c.in-Some.key (some_key c.args.key c.in-Some.key c.in-Some.is) (sym c.is_named.ensures.value ∙ c.if-is_named.true)).0) c.in-Err.ensures.cause

pub returns-in-Ok-clause-keys : goal.returns-in-Ok-clause-keys
returns-in-Ok-clause-keys g c =
    again_named (g.K.Gpi.content c.args.kernel.now) (g.K.Gpi.content c.register.new.self) c.args.key c.in-Some.key (record_keys (causes_in c.args.records.now)) c.in-Some.is c.in-Ok.ensures.is (c.requires.out c.in-Some.key (some_key c.args.key c.in-Some.key c.in-Some.is))
    (sym c.is_named.ensures.value ∙ c.if-is_named.true) c.requires.named

pub returns-in-Ok-clause-ticks : goal.returns-in-Ok-clause-ticks
returns-in-Ok-clause-ticks g c = omega (arith, c.is_named.ensures.ticks, ap (λ (o : Option Key). length (key_list o)) c.in-Some.is)

pub returns-else-is_named-clause-keys : goal.returns-else-is_named-clause-keys
returns-else-is_named-clause-keys g c =
    again_unnamed (g.K.Gpi.content c.args.kernel.now) c.args.key c.in-Some.key (record_keys (causes_in c.args.records.now)) c.in-Some.is (c.requires.out c.in-Some.key (some_key c.args.key c.in-Some.key c.in-Some.is))
    (sym c.is_named.ensures.value ∙ c.if-is_named.false) c.requires.named

pub returns-else-is_named-clause-ticks : goal.returns-else-is_named-clause-ticks
returns-else-is_named-clause-ticks g c = omega (arith, c.is_named.ensures.ticks, ap (λ (o : Option Key). length (key_list o)) c.in-Some.is)

pub returns-in_default-clause-keys : goal.returns-in_default-clause-keys
returns-in_default-clause-keys g c = again_none (g.K.Gpi.content c.args.kernel.now) c.args.key (record_keys (causes_in c.args.records.now)) c.in_default.is c.requires.named
