use Rattle.std.proofs.Common.{sym, ◌∙◌}
use Rattle.plain_waits.specs.Kept.{names_of}
use Rattle.await_tree.proofs.WaitListLemmas.Awaited.{again_named, again_none, again_unnamed, not_true, some_key}
use Rattle.await_tree.proofs.WaitListLemmas.Rekeys.{edge_asked, edge_untimed}
use Rattle.plain_waits.proofs.keeper.WaitList.register_again.Goals as goal

pub register-requires-clause-asked : goal.register-requires-clause-asked
register-requires-clause-asked g c = edge_asked (g.K.Gpi.content c.args.kernel.now) c.in-Some.key (c.requires.edges c.in-Some.key (some_key c.args.fired c.in-Some.key c.in-Some.is) (sym c.names.ensures ∙ c.if-names.true)).0 (c.requires.edges c.in-Some.key (some_key c.args.fired c.in-Some.key c.in-Some.is) (sym c.names.ensures ∙ c.if-names.true)).1

pub register-requires-clause-new : goal.register-requires-clause-new
register-requires-clause-new g c = c.requires.out c.in-Some.key (some_key c.args.fired c.in-Some.key c.in-Some.is)

pub unreachable-requires : goal.unreachable-requires
unreachable-requires g c = not_true _ (edge_untimed c.in-Some.key (c.requires.edges c.in-Some.key (some_key c.args.fired c.in-Some.key c.in-Some.is) (sym c.names.ensures ∙ c.if-names.true)).0) c.in-Err.ensures.cause

pub returns-in-Ok-clause-keys : goal.returns-in-Ok-clause-keys
returns-in-Ok-clause-keys g c = again_named (g.K.Gpi.content c.args.kernel.now) (g.K.Gpi.content c.register.new.self) c.args.fired c.in-Some.key (names_of c.args.self.now) c.in-Some.is c.in-Ok.ensures.is (c.requires.out c.in-Some.key (some_key c.args.fired c.in-Some.key c.in-Some.is)) (sym c.names.ensures ∙ c.if-names.true) c.requires.named

pub returns-else-names-clause-keys : goal.returns-else-names-clause-keys
returns-else-names-clause-keys g c = again_unnamed (g.K.Gpi.content c.args.kernel.now) c.args.fired c.in-Some.key (names_of c.args.self.now) c.in-Some.is (c.requires.out c.in-Some.key (some_key c.args.fired c.in-Some.key c.in-Some.is)) (sym c.names.ensures ∙ c.if-names.false) c.requires.named

pub returns-in_default-clause-keys : goal.returns-in_default-clause-keys
returns-in_default-clause-keys g c = again_none (g.K.Gpi.content c.args.kernel.now) c.args.fired (names_of c.args.self.now) c.in_default.is c.requires.named
