use Rattle.std.proofs.Common.{List, Option, None, get_or, sym, ap, ◌∙◌, subst}
use Rattle.await_tree.specs.WaitList.Parts.{Fits, Narrows}
use Rattle.await_tree.specs.WaitList.Waiting.{fired_keys}
use Rattle.trigger_table.specs.Keys.{record_keys, runner_keys}
use Rattle.trigger_table.specs.Records.{causes_in, state_in}
use Rattle.trigger_table.specs.declared.entries.CauseRecord.{CauseRecord}
use Rattle.trigger_table.proofs.GoneLemmas.{held_self, shrinks_self, shrinks_through}
use Rattle.trigger_table.proofs.KeptLemmas.{not_some}
use Rattle.trigger_table.proofs.RowLemmas.{held_along, held_step}
use Rattle.trigger_table.proofs.TrimLemmas.{needed_parted}
use Rattle.trigger_table.proofs.parting.part.Goals as goal

pub let_go-requires-clause-known : goal.let_go-requires-clause-known
let_go-requires-clause-known g c none = c.in-Some.ensures.known (ap (λ (cs : List (Option CauseRecord)). get_or cs c.in-Some.cause None) (sym c.unlink.ensures.causes) ∙ none)

pub let_go-requires-clause-fits : goal.let_go-requires-clause-fits
let_go-requires-clause-fits g c =
    subst (λ (cs : List (Option CauseRecord)). Fits (g.K.Gpi.content c.args.kernel.now) (fired_keys c.args.fired) (runner_keys cs) (record_keys cs)) (sym c.unlink.ensures.causes) c.requires.fits

pub returns-in-Some-clause-needed : goal.returns-in-Some-clause-needed
returns-in-Some-clause-needed g c =
    needed_parted c.in-Some.cause (state_in c.args.records.now) (state_in c.unlink.new.self) (state_in c.let_go.new.records) c.unlink.ensures.causes c.in-Some.ensures.others c.let_go.ensures.rows c.let_go.ensures.others c.let_go.ensures.needed c.requires.needed

pub returns-in-Some-clause-held : goal.returns-in-Some-clause-held
returns-in-Some-clause-held g c =
    held_step c.in-Some.cause (causes_in c.args.records.now) (state_in c.unlink.new.self) (state_in c.let_go.new.records) (held_along _ _ _ (held_self (causes_in c.args.records.now)) (sym c.unlink.ensures.causes)) c.let_go.ensures.others c.let_go.ensures.stays

pub returns-in-Some-clause-shrinks : goal.returns-in-Some-clause-shrinks
returns-in-Some-clause-shrinks g c =
    shrinks_through (causes_in c.args.records.now) (causes_in c.args.records.now) (causes_in c.unlink.new.self) (causes_in c.let_go.new.records) (shrinks_self (causes_in c.args.records.now)) c.unlink.ensures.causes c.let_go.ensures.shrinks

pub returns-in-Some-clause-keys : goal.returns-in-Some-clause-keys
returns-in-Some-clause-keys g c =
    subst (λ (cs : List (Option CauseRecord)). Narrows (g.K.Gpi.content c.args.kernel.now) (g.K.Gpi.content c.let_go.new.kernel) (record_keys cs) (record_keys (causes_in c.let_go.new.records))) c.unlink.ensures.causes c.let_go.ensures.keys

pub returns-in_default : goal.returns-in_default
returns-in_default g c = absurd (not_some _ c.in_default.is c.unlink.ensures.is)
