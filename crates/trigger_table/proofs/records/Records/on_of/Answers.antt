use Rattle.std.proofs.Common.{Some, None, get_or, ap, ◌∙◌}
use Rattle.std.proofs.lemmas.Option.{none-some, same_Some}
use Rattle.trigger_table.specs.Records.{causes_in}
use Rattle.trigger_table.specs.declared.entries.CauseRecord.{CauseRecord}
use Rattle.trigger_table.proofs.CursorLemmas.{cause_owned}
use Rattle.trigger_table.proofs.records.Records.on_of.Goals as goal

pub returns-in_err-cause-clause-value : goal.returns-in_err-cause-clause-value
returns-in_err-cause-clause-value g c number cause on has found at known =
    absurd (none-some cause (c.in_err-cause.ensures ∙ cause_owned c.args.self.now number c.args.waiter has found ∙ at))

pub returns-in_err-record-clause-value : goal.returns-in_err-record-clause-value
returns-in_err-record-clause-value g c number cause on has found at known =
    let same = same_Some c.in_ok-cause.cause cause (c.in_ok-cause.ensures ∙ cause_owned c.args.self.now number c.args.waiter has found ∙ at) in
    absurd (none-some _ (c.in_err-record.ensures ∙ ap (λ n. get_or (causes_in c.args.self.now) n None) same ∙ known.1))

pub returns-clause-value : goal.returns-clause-value
returns-clause-value g c number cause on has found at known =
    let same = same_Some c.in_ok-cause.cause cause (c.in_ok-cause.ensures ∙ cause_owned c.args.self.now number c.args.waiter has found ∙ at) in
    ap (λ (r : CauseRecord). Some r.on) (same_Some _ _ (c.in_ok-record.ensures ∙ ap (λ n. get_or (causes_in c.args.self.now) n None) same ∙ known.1))
