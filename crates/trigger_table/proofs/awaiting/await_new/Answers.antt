use Rattle.std.proofs.Common.{List, Option, None, IsSome, get_or, [], ◌∷◌, refl, sym, ap, ◌∙◌, subst}
use Rattle.std.proofs.lemmas.Option.{none-some}
use Rattle.gpi.specs.Content.{Content}
use Rattle.gpi.specs.Keys.{has}
use Rattle.await_tree.specs.WaitList.Waiting.{fired_keys}
use Rattle.trigger_table.specs.Awaiting.{with_links}
use Rattle.trigger_table.specs.Records.{causes_in, rows_in, state_in}
use Rattle.trigger_table.specs.State.{IsLast, waiters_on}
use Rattle.trigger_table.specs.declared.entries.CauseRecord.{CauseRecord}
use Rattle.trigger_table.proofs.AwaitLemmas.{absent_out, has_last, joined_made, made_fits, made_short, reaches_of, sets_along, sets_back, short_of, slots_same, steady_same, vacant_bare}
use Rattle.trigger_table.proofs.KeptLemmas.{on_err}
use Rattle.trigger_table.proofs.awaiting.await_new.Goals as goal

pub register_new-requires-clause-new : goal.register_new-requires-clause-new
register_new-requires-clause-new g c = absent_out (g.K.Gpi.content c.args.kernel.now) (causes_in c.args.records.now) c.args.on c.requires.keys c.requires.absent

pub remove_cause-requires-clause-kept : goal.remove_cause-requires-clause-kept
remove_cause-requires-clause-kept g c none = none-some _ (sym none ∙ c.in_ok-cause.ensures.ok.changed)

pub remove_cause-requires-clause-bare : goal.remove_cause-requires-clause-bare
remove_cause-requires-clause-bare g c = ap (waiters_on c.in_ok-cause.cause) c.make.ensures.rows ∙ vacant_bare c.args.records.now c.in_ok-cause.cause c.in_ok-cause.ensures.vacant

pub link-requires-clause-last : goal.link-requires-clause-last
link-requires-clause-last g c = subst (IsLast c.args.number) (sym c.make.ensures.rows) c.requires.last

pub link-requires-clause-known : goal.link-requires-clause-known
link-requires-clause-known g c = subst IsSome (sym c.in_ok-cause.ensures.ok.changed) refl

pub let_go-requires-clause-known : goal.let_go-requires-clause-known
let_go-requires-clause-known g c none =
    none-some _ (sym none ∙ ap (λ (cs : List (Option CauseRecord)). get_or cs c.in_ok-cause.cause None) c.link.ensures.causes ∙ c.in_ok-cause.ensures.ok.changed)

pub let_go-requires-clause-fits : goal.let_go-requires-clause-fits
let_go-requires-clause-fits g c =
    made_fits (g.K.Gpi.content c.args.kernel.now) (g.K.Gpi.content c.register_new.new.kernel) c.args.on c.in_ok-cause.cause (causes_in c.args.records.now) (causes_in c.link.new.self) (fired_keys c.none_fired-none.result) c.none_fired-none.ensures
    c.in_ok-cause.ensures.vacant (sets_along (causes_in c.args.records.now) (causes_in c.make.new.self) (causes_in c.link.new.self) c.in_ok-cause.cause _ c.in_ok-cause.ensures.ok c.link.ensures.causes) c.requires.keys c.in_default.ensures.ok

pub returns-in_err-cause-clause-err : goal.returns-in_err-cause-clause-err
returns-in_err-cause-clause-err g c =
    on_err _ (short_of c.args.number 0 (g.K.Gpi.content c.args.kernel.now) (g.K.Gpi.content c.args.kernel.now) (state_in c.args.records.now) (state_in c.make.new.self) c.make.ensures.rows
    (slots_same (causes_in c.args.records.now) (causes_in c.make.new.self) c.in_err-cause.ensures.err) c.requires.needed (steady_same _ _ refl) c.requires.keys)

pub returns-in-Err-clause-err : goal.returns-in-Err-clause-err
returns-in-Err-clause-err g c =
    short_of c.args.number 0 (g.K.Gpi.content c.args.kernel.now) (g.K.Gpi.content c.register_new.new.kernel) (state_in c.args.records.now) (state_in c.remove_cause.new.self)
    (c.remove_cause.ensures.rows ∙ c.make.ensures.rows)
    (sets_back (causes_in c.args.records.now) (causes_in c.make.new.self) (causes_in c.remove_cause.new.self) c.in_ok-cause.cause _ c.in_ok-cause.ensures.vacant c.in_ok-cause.ensures.ok c.remove_cause.ensures.sets) c.requires.needed
    (steady_same (g.K.Gpi.content c.args.kernel.now) (g.K.Gpi.content c.register_new.new.kernel) c.in-Err.ensures.err)
    (λ k. ap (λ (x : Content). has k x.keys) c.in-Err.ensures.err ∙ c.requires.keys k)

pub returns-in-Err-link-clause-err : goal.returns-in-Err-link-clause-err
returns-in-Err-link-clause-err g c =
    made_short c.args.number c.args.records.now c.args.on c.in_ok-cause.cause (causes_in c.link.new.self) (state_in c.let_go.new.records) (g.K.Gpi.content c.args.kernel.now) (g.K.Gpi.content c.register_new.new.kernel) (g.K.Gpi.content c.let_go.new.kernel)
    c.requires.needed c.in_ok-cause.ensures.vacant (sets_along (causes_in c.args.records.now) (causes_in c.make.new.self) (causes_in c.link.new.self) c.in_ok-cause.cause _ c.in_ok-cause.ensures.ok c.link.ensures.causes)
    (c.let_go.ensures.rows ∙ c.in-Err-link.ensures.err ∙ c.make.ensures.rows) c.let_go.ensures.others c.let_go.ensures.shrinks c.let_go.ensures.needed c.requires.keys c.in_default.ensures.ok c.let_go.ensures.keys

pub returns-clause-ok : goal.returns-clause-ok
returns-clause-ok g c =
    reaches_of c.args.number c.in_default-link.ensures.ok.0 c.in_ok-cause.cause c.args.on (state_in c.args.records.now) (state_in c.link.new.self) (has_last c.args.number (rows_in c.args.records.now) c.requires.last)
    (c.in_default-link.ensures.ok.1 ∙ ap (with_links c.args.number (record { waiter = c.in_default-link.ensures.ok.0; cause = c.in_ok-cause.cause } ∷ [])) c.make.ensures.rows)
    (joined_made c.args.on c.in_ok-cause.cause (causes_in c.args.records.now) (causes_in c.link.new.self) c.in_ok-cause.ensures.vacant
    (sets_along (causes_in c.args.records.now) (causes_in c.make.new.self) (causes_in c.link.new.self) c.in_ok-cause.cause _ c.in_ok-cause.ensures.ok c.link.ensures.causes)) c.requires.needed
