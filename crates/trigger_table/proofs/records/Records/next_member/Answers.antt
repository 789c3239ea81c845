use Rattle.std.proofs.Common.{◌∙◌}
use Rattle.trigger_table.proofs.MemberLemmas.{is_member, member_owned, next_member, no_next}
use Rattle.trigger_table.proofs.records.Records.next_member.Goals as goal

pub next-requires : goal.next-requires
next-requires g c = member_owned c.args.self.now c.args.cause c.args.waiter c.requires

pub returns-in_err-next-clause-value : goal.returns-in_err-next-clause-value
returns-in_err-next-clause-value g c = c.from_residual.ensures ∙ no_next c.args.self.now c.args.cause c.args.waiter c.in_err-next.ensures.value

pub returns-clause-value : goal.returns-clause-value
returns-clause-value g c = next_member c.args.self.now c.args.cause c.args.waiter c.in_ok-next.next c.member_of.result c.in_ok-next.ensures.value c.in_ok-next.ensures.member c.member_of.ensures

pub returns-clause-member : goal.returns-clause-member
returns-clause-member g c = is_member c.args.self.now c.args.cause c.in_ok-next.next c.member_of.result c.in_ok-next.ensures.member c.member_of.ensures
