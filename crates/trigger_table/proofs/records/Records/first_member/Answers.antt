use Rattle.std.proofs.Common.{◌∙◌}
use Rattle.trigger_table.proofs.MemberLemmas.{first_member, is_member, no_member}
use Rattle.trigger_table.proofs.records.Records.first_member.Goals as goal

pub returns-in_err-waiter-clause-value : goal.returns-in_err-waiter-clause-value
returns-in_err-waiter-clause-value g c = c.from_residual.ensures ∙ no_member c.args.self.now c.args.cause c.in_err-waiter.ensures.value

pub returns-clause-value : goal.returns-clause-value
returns-clause-value g c = first_member c.args.self.now c.args.cause c.in_ok-waiter.waiter c.member_of.result c.in_ok-waiter.ensures.value c.in_ok-waiter.ensures.member c.member_of.ensures

pub returns-clause-member : goal.returns-clause-member
returns-clause-member g c = is_member c.args.self.now c.args.cause c.in_ok-waiter.waiter c.member_of.result c.in_ok-waiter.ensures.member c.member_of.ensures
