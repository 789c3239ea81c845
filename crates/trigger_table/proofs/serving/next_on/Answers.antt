use Rattle.std.proofs.Common.{IfSome, List, Option, length, slice_get, sym, ap, ◌∙◌, subst, arith, eqb-true, eq-eqb}
use Rattle.std.proofs.lemmas.Bool.{false≢true}
use Rattle.trigger_table.specs.Links.{IsIn}
use Rattle.trigger_table.specs.Members.{after, beyond, members_on, own_members, rest_from, waiters_of}
use Rattle.trigger_table.specs.Records.{rows_in}
use Rattle.trigger_table.specs.declared.members.Member.{Member}
use Rattle.trigger_table.proofs.MemberLemmas.{beyond_other, beyond_same, members_apart, own_same, rest_after}
use Rattle.trigger_table.proofs.serving.next_on.Goals as goal

pub members-init : goal.members-init
members-init g c =
    let is = rest_after (members_on c.args.cause (rows_in c.args.records.now)) c.args.member.waiter c.next_member-next.result (members_apart c.args.records.now c.args.cause) c.next_member-next.ensures.value in
    record {
      known = c.next_member-next.ensures.member;
      left = ap (beyond c.args.member.number) is;
      ticks = omega (arith, ap (λ (ms : List Member). length (own_members c.args.member.number ms)) is);
    }

pub next_member-next-requires-in-Some : goal.next_member-next-requires-in-Some
next_member-next-requires-in-Some g c = subst (λ (o : Option Member). IfSome o (λ (m : Member). IsIn m.waiter (waiters_of (members_on c.args.cause (rows_in c.args.records.now))))) c.in-Some.is c.members.invariant.known

pub members-smaller : goal.members-smaller
members-smaller g c =
    omega (
      arith,
      ap (λ (o : Option Member). length (rest_from o (members_on c.args.cause (rows_in c.args.records.now)))) c.in-Some.is,
      ap (λ (xs : List Member). length xs) (rest_after (members_on c.args.cause (rows_in c.args.records.now)) c.in-Some.other.waiter c.next_member-next-in-Some.result (members_apart c.args.records.now c.args.cause) c.next_member-next-in-Some.ensures.value),
    )

pub members-preserved : goal.members-preserved
members-preserved g c =
    let is = rest_after (members_on c.args.cause (rows_in c.args.records.now)) c.in-Some.other.waiter c.next_member-next-in-Some.result (members_apart c.args.records.now c.args.cause) c.next_member-next-in-Some.ensures.value in
    let same = eqb-true c.in-Some.other.number c.args.member.number (sym c.is_of.ensures ∙ c.if-not-is_of.false) in
    let was = ap (λ (o : Option Member). rest_from o (members_on c.args.cause (rows_in c.args.records.now))) c.in-Some.is in
    record {
      known = c.next_member-next-in-Some.ensures.member;
      left =
          ap (beyond c.args.member.number) is
          ∙ sym (beyond_same c.args.member.number c.in-Some.other (after c.in-Some.other.waiter (members_on c.args.cause (rows_in c.args.records.now))) same)
          ∙ ap (beyond c.args.member.number) (sym was) ∙ c.members.invariant.left;
      ticks = omega (
        arith,
        c.members.invariant.ticks,
        c.next_member-next-in-Some.ensures.ticks,
        ap (λ (xs : List Member). length (own_members c.args.member.number xs)) is,
        ap (λ (xs : List Member). length (own_members c.args.member.number xs)) was,
        ap (λ (xs : List Member). length xs) (own_same c.args.member.number c.in-Some.other (after c.in-Some.other.waiter (members_on c.args.cause (rows_in c.args.records.now))) same),
      );
    }

pub returns-then-not-is_of-clause-value : goal.returns-then-not-is_of-clause-value
returns-then-not-is_of-clause-value g c =
    ap (λ (xs : List Member). slice_get xs 0)
    (sym (beyond_other c.args.member.number c.in-Some.other (after c.in-Some.other.waiter (members_on c.args.cause (rows_in c.args.records.now)))
    (λ same. false≢true (sym (sym c.is_of.ensures ∙ c.if-not-is_of.true) ∙ eq-eqb c.in-Some.other.number c.args.member.number same)))
    ∙ ap (λ (o : Option Member). beyond c.args.member.number (rest_from o (members_on c.args.cause (rows_in c.args.records.now)))) (sym c.in-Some.is) ∙ c.members.invariant.left)

pub returns-then-not-is_of-clause-ticks : goal.returns-then-not-is_of-clause-ticks
returns-then-not-is_of-clause-ticks g c = omega (arith, c.members.invariant.ticks)

pub returns-clause-value : goal.returns-clause-value
returns-clause-value g c =
    ap (λ (xs : List Member). slice_get xs 0)
    (ap (λ (o : Option Member). beyond c.args.member.number (rest_from o (members_on c.args.cause (rows_in c.args.records.now)))) (sym c.in_default.is) ∙ c.members.invariant.left)

pub returns-clause-ticks : goal.returns-clause-ticks
returns-clause-ticks g c = omega (arith, c.members.invariant.ticks)
