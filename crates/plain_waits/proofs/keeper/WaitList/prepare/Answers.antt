use Rattle.std.proofs.Common.{List, ◌++◌, sym, ap, ◌∙◌, subst, arith}
use Rattle.std.specs.Prelude.{map, OnOk}
use Rattle.gpi.specs.Keys.{among}
use Rattle.await_tree.specs.WaitList.Keys.{Rekeyed}
use Rattle.await_tree.specs.WaitList.Waiting.{keys_among, named}
use Rattle.plain_waits.specs.Kept.{waiting_of}
use Rattle.plain_waits.specs.declared.waiter.Waiter.{Waiter}
use Rattle.await_tree.proofs.WaitListLemmas.Served.{always_err, always_ok, kept_same}
use Rattle.plain_waits.proofs.keeper.WaitList.prepare.Goals as goal

pub register_all-requires-clause-keys : goal.register_all-requires-clause-keys
register_all-requires-clause-keys g c = λ k. c.requires.keys k ∙ ap (λ (xs : List Waiter). among k (named (map waiting_of xs) c.args.self.now.held.items)) (sym c.in_ok-reserve.ensures.items)

pub returns-in_err-reserve-clause-err : goal.returns-in_err-reserve-clause-err
returns-in_err-reserve-clause-err g c = always_err c.from_residual.result (kept_same (g.K.Gpi.content c.args.kernel.now))

pub returns-clause-ok : goal.returns-clause-ok
returns-clause-ok g c = subst (λ (xs : List Waiter). OnOk c.register_all.result (Rekeyed (g.K.Gpi.content c.args.kernel.now) (g.K.Gpi.content c.register_all.new.kernel) (keys_among c.args.awaited.now) (named (map waiting_of xs) c.args.self.now.held.items) ((keys_among c.args.awaited.now) ++ named (map waiting_of xs) c.args.self.now.held.items)))
    c.in_ok-reserve.ensures.items c.register_all.ensures.ok

pub returns-clause-room : goal.returns-clause-room
returns-clause-room g c = always_ok c.register_all.result (omega (arith, c.in_ok-reserve.ensures.ok))
