use Rattle.std.proofs.Common.{sym, ◌∙◌}
use Rattle.std.proofs.lemmas.Option.{none-some}
use Rattle.trigger_table.specs.Records.{causes_in, state_in}
use Rattle.trigger_table.proofs.AwaitLemmas.{same_runner}
use Rattle.trigger_table.proofs.HoldLemmas.{held_kept, held_runner, same_kept}
use Rattle.trigger_table.proofs.KeptLemmas.{on_err}
use Rattle.trigger_table.proofs.holding.hold.Goals as goal

pub set_held-requires : goal.set_held-requires
set_held-requires g c none = none-some _ (sym none ∙ c.in_ok-number.ensures.found.has.1)

pub returns-in_err-number-clause-kept : goal.returns-in_err-number-clause-kept
returns-in_err-number-clause-kept g c = same_kept (state_in c.args.records.now) (state_in c.find_or_make.new.records) c.find_or_make.ensures.rows c.in_err-number.ensures.err c.requires.kept

pub returns-in_err-number-clause-err : goal.returns-in_err-number-clause-err
returns-in_err-number-clause-err g c = on_err _ (same_runner (causes_in c.args.records.now) (causes_in c.find_or_make.new.records) c.in_err-number.ensures.err)

pub returns-clause-kept : goal.returns-clause-kept
returns-clause-kept g c =
    held_kept c.args.key c.in_ok-number.number (state_in c.args.records.now) (state_in c.set_held.new.self) (causes_in c.find_or_make.new.records) c.in_ok-number.ensures.found
    (c.set_held.ensures.rows ∙ c.find_or_make.ensures.rows) c.set_held.ensures.sets c.requires.kept

pub returns-clause-ok : goal.returns-clause-ok
returns-clause-ok g c =
    held_runner c.args.key c.in_ok-number.number (state_in c.args.records.now) (state_in c.set_held.new.self) (causes_in c.find_or_make.new.records) c.in_ok-number.ensures.found
    (c.set_held.ensures.rows ∙ c.find_or_make.ensures.rows) c.set_held.ensures.sets
