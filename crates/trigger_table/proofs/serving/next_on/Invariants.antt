use Rattle.std.proofs.Common.{IfSome, ◌≡◌, ◌+◌, ◌≤◌, length}
use Rattle.trigger_table.specs.Links.{IsIn}
use Rattle.trigger_table.specs.Members.{after, beyond, members_on, own_members, rest_from, waiters_of}
use Rattle.trigger_table.specs.Records.{rows_in}
use Rattle.trigger_table.specs.declared.members.Member.{Member}
use Rattle.trigger_table.proofs.serving.next_on.Given as goal

abbrev pub invariant-members : goal.invariant-members
invariant-members g l = record {
  known : IfSome l.next (λ (m : Member). IsIn m.waiter (waiters_of (members_on l.cause (rows_in l.records))));
  left : beyond l.member.number (rest_from l.next (members_on l.cause (rows_in l.records))) ≡ beyond l.member.number (after l.member.waiter (members_on l.cause (rows_in l.records)));
  ticks : l.steps + length (own_members l.member.number (rest_from l.next (members_on l.cause (rows_in l.records))))
      ≤ l.initial.steps + length (own_members l.member.number (after l.member.waiter (members_on l.cause (rows_in l.records))));
}

abbrev pub decreases-members : goal.decreases-members
decreases-members g l = length (rest_from l.next (members_on l.cause (rows_in l.records)))
