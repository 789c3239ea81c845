use Rattle.std.proofs.Common.{sym, ap, ◌∙◌}
use Rattle.std.proofs.lemmas.Option.{none-some}
use Rattle.await_tree.specs.declared.cause.Awaited.TheVariants as awaited
use Rattle.await_tree.proofs.WaitListLemmas.Rekeys.{joins_registered}
use Rattle.trigger_table.specs.Records.{causes_in}
use Rattle.trigger_table.specs.State.{waiters_on}
use Rattle.trigger_table.proofs.AwaitLemmas.{joined_made, sets_back, slots_same, vacant_bare}
use Rattle.trigger_table.proofs.KeptLemmas.{on_err}
use Rattle.trigger_table.proofs.holding.make_key.Goals as goal

pub remove_cause-requires-clause-kept : goal.remove_cause-requires-clause-kept
remove_cause-requires-clause-kept g c none = none-some _ (sym none ∙ c.in_ok-number.ensures.ok.changed)

pub remove_cause-requires-clause-bare : goal.remove_cause-requires-clause-bare
remove_cause-requires-clause-bare g c = ap (waiters_on c.in_ok-number.number) c.make.ensures.rows ∙ vacant_bare c.args.records.now c.in_ok-number.number c.in_ok-number.ensures.vacant

pub returns-in_err-number-clause-err : goal.returns-in_err-number-clause-err
returns-in_err-number-clause-err g c = on_err _ (slots_same (causes_in c.args.records.now) (causes_in c.make.new.self) c.in_err-number.ensures.err)

pub returns-in-Err-clause-err : goal.returns-in-Err-clause-err
returns-in-Err-clause-err g c =
    sets_back (causes_in c.args.records.now) (causes_in c.make.new.self) (causes_in c.remove_cause.new.self) c.in_ok-number.number _ c.in_ok-number.ensures.vacant c.in_ok-number.ensures.ok c.remove_cause.ensures.sets

pub returns-clause-made : goal.returns-clause-made
returns-clause-made g c = joined_made (awaited.Key c.args.key) c.in_ok-number.number (causes_in c.args.records.now) (causes_in c.make.new.self) c.in_ok-number.ensures.vacant c.in_ok-number.ensures.ok

pub returns-clause-joins : goal.returns-clause-joins
returns-clause-joins g c = joins_registered (g.K.Gpi.content c.args.kernel.now) (g.K.Gpi.content c.register.new.self) c.args.key c.in_default.ensures.is c.requires.out
