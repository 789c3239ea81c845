use Rattle.std.proofs.Common.{◌≡◌, ℕ, IsSome, refl, sym, subst}
use Rattle.std.proofs.lemmas.Result.{on_err_weaker, on_ok_weaker}
use Rattle.await_tree.proofs.WaitListLemmas.Served.{always_ok}
use Rattle.trigger_table.specs.Records.{causes_in, rows_in, state_in}
use Rattle.trigger_table.specs.State.{add_link}
use Rattle.trigger_table.proofs.AwaitLemmas.{adds_there, has_last, joined_there, reaches_of, short_of, slots_same, steady_same}
use Rattle.trigger_table.proofs.awaiting.await_one.Goals as goal

pub link-requires-clause-known : goal.link-requires-clause-known
link-requires-clause-known g c = subst IsSome (sym c.in-Some.ensures.some.1) refl

pub returns-in-Some-clause-ok : goal.returns-in-Some-clause-ok
returns-in-Some-clause-ok g c =
    on_ok_weaker c.link.result
    (λ (w : (waiter : ℕ) × (rows_in c.link.new.self ≡ add_link c.args.number (record { waiter = waiter; cause = c.in-Some.cause }) (rows_in c.args.records.now))).
    reaches_of c.args.number w.0 c.in-Some.cause c.args.on (state_in c.args.records.now) (state_in c.link.new.self) (has_last c.args.number (rows_in c.args.records.now) c.requires.last) w.1
    (joined_there c.args.on c.in-Some.cause (causes_in c.args.records.now) (causes_in c.link.new.self) (slots_same (causes_in c.args.records.now) (causes_in c.link.new.self) c.link.ensures.causes) c.in-Some.ensures.some) c.requires.needed)
    c.link.ensures.ok

pub returns-in-Some-clause-adds : goal.returns-in-Some-clause-adds
returns-in-Some-clause-adds g c =
    always_ok c.link.result (adds_there (g.K.Gpi.content c.args.kernel.now) (causes_in c.args.records.now) c.in-Some.cause c.args.on c.requires.keys c.in-Some.ensures.some)

pub returns-in-Some-clause-err : goal.returns-in-Some-clause-err
returns-in-Some-clause-err g c =
    on_err_weaker c.link.result
    (λ (e : rows_in c.link.new.self ≡ rows_in c.args.records.now).
    short_of c.args.number 0 (g.K.Gpi.content c.args.kernel.now) (g.K.Gpi.content c.args.kernel.now) (state_in c.args.records.now) (state_in c.link.new.self) e
    (slots_same (causes_in c.args.records.now) (causes_in c.link.new.self) c.link.ensures.causes) c.requires.needed (steady_same _ _ refl) c.requires.keys)
    c.link.ensures.err
