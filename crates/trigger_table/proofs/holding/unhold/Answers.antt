use Rattle.std.proofs.Common.{sym, ◌∙◌}
use Rattle.std.proofs.lemmas.Option.{none-some}
use Rattle.await_tree.specs.WaitList.Waiting.{fired_keys}
use Rattle.trigger_table.specs.Keys.{record_keys}
use Rattle.trigger_table.specs.Records.{causes_in, state_in}
use Rattle.await_tree.proofs.WaitListLemmas.Members.{within_self}
use Rattle.await_tree.proofs.WaitListLemmas.Rekeys.{narrows_none}
use Rattle.trigger_table.proofs.GoneLemmas.{fits_on, held_self}
use Rattle.trigger_table.proofs.HoldLemmas.{fits_mid, freed_kept, freed_narrows, freed_runner, not_held}
use Rattle.trigger_table.proofs.RowLemmas.{held_step}
use Rattle.trigger_table.proofs.holding.unhold.Goals as goal

pub set_held-requires : goal.set_held-requires
set_held-requires g c none = none-some _ (sym none ∙ c.in-Some.ensures.some.1)

pub let_go-requires-clause-known : goal.let_go-requires-clause-known
let_go-requires-clause-known g c none = none-some _ (sym none ∙ (c.set_held.ensures.sets _ c.in-Some.ensures.some.1).changed)

pub let_go-requires-clause-fits : goal.let_go-requires-clause-fits
let_go-requires-clause-fits g c =
    fits_mid c.args.key c.in-Some.number c.args.records.now (causes_in c.set_held.new.self) c.in-Some.ensures.some c.set_held.ensures.sets (g.K.Gpi.content c.args.kernel.now) (fired_keys c.args.fired) c.requires.there c.requires.fits

pub returns-in-Some-clause-kept : goal.returns-in-Some-clause-kept
returns-in-Some-clause-kept g c =
    freed_kept c.args.key c.in-Some.number c.args.records.now (causes_in c.set_held.new.self) c.in-Some.ensures.some c.set_held.ensures.sets
    c.let_go.new.records (c.let_go.ensures.rows ∙ c.set_held.ensures.rows) c.let_go.ensures.others c.let_go.ensures.shrinks c.let_go.ensures.needed c.requires.kept

pub returns-in-Some-clause-held : goal.returns-in-Some-clause-held
returns-in-Some-clause-held g c =
    freed_runner c.args.key c.in-Some.number c.args.records.now (causes_in c.set_held.new.self) c.in-Some.ensures.some c.set_held.ensures.sets
    c.let_go.new.records (c.let_go.ensures.rows ∙ c.set_held.ensures.rows) c.let_go.ensures.others c.let_go.ensures.shrinks c.let_go.ensures.needed

pub returns-in-Some-clause-keys : goal.returns-in-Some-clause-keys
returns-in-Some-clause-keys g c =
    freed_narrows c.args.key c.in-Some.number c.args.records.now (causes_in c.set_held.new.self) c.in-Some.ensures.some c.set_held.ensures.sets
    c.let_go.new.records (c.let_go.ensures.rows ∙ c.set_held.ensures.rows) c.let_go.ensures.others c.let_go.ensures.shrinks c.let_go.ensures.needed
    (g.K.Gpi.content c.args.kernel.now) (g.K.Gpi.content c.let_go.new.kernel) c.let_go.ensures.keys

pub returns-in-Some-clause-fits : goal.returns-in-Some-clause-fits
returns-in-Some-clause-fits g c =
    fits_on (g.K.Gpi.content c.args.kernel.now) (g.K.Gpi.content c.let_go.new.kernel) (fired_keys c.args.fired) (causes_in c.set_held.new.self) (causes_in c.let_go.new.records)
    (fits_mid c.args.key c.in-Some.number c.args.records.now (causes_in c.set_held.new.self) c.in-Some.ensures.some c.set_held.ensures.sets (g.K.Gpi.content c.args.kernel.now) (fired_keys c.args.fired) c.requires.there c.requires.fits)
    c.let_go.ensures.keys
    (held_step c.in-Some.number (causes_in c.set_held.new.self) (state_in c.set_held.new.self) (state_in c.let_go.new.records) (held_self (causes_in c.set_held.new.self)) c.let_go.ensures.others c.let_go.ensures.stays)

pub returns-in_default-clause-held : goal.returns-in_default-clause-held
returns-in_default-clause-held g c = not_held c.args.key (causes_in c.args.records.now) c.in_default.ensures.none

pub returns-in_default-clause-keys : goal.returns-in_default-clause-keys
returns-in_default-clause-keys g c = narrows_none (g.K.Gpi.content c.args.kernel.now) (record_keys (causes_in c.args.records.now)) (record_keys (causes_in c.args.records.now)) (λ k h. c.requires.fits.keys.within k h) (within_self (record_keys (causes_in c.args.records.now)))
