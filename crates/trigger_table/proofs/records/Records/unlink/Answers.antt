use Rattle.std.proofs.Common.{IsSome, sym, subst}
use Rattle.trigger_table.specs.Links.{IsIn}
use Rattle.trigger_table.specs.Records.{rows_in}
use Rattle.trigger_table.proofs.RingLemmas.{tidy}
use Rattle.trigger_table.proofs.IndexLemmas.{sets_of}
use Rattle.trigger_table.proofs.KeptLemmas.{known_cause, sound_unlink, rows_unlink, in_all, waiters_are_all}
use Rattle.trigger_table.proofs.MemberLemmas.{others_stay}
use Rattle.trigger_table.proofs.records.Records.unlink.Goals as goal

pub remove-requires : goal.remove-requires
unfolding rows_in
remove-requires g c =
    let s = c.args.self.now.sound in
    let has = subst (IsIn c.args.waiter) (waiters_are_all _ _ _ _ _ _ s (tidy c.args.self.now.by_task)) c.requires in
    let one = in_all _ _ _ _ _ _ s (tidy c.args.self.now.by_task) c.args.waiter has in
    (s.of_task c.args.waiter one.0 one.1).2

pub invariant_of-self : goal.invariant_of-self
invariant_of-self g c = record {
  sound = sound_unlink _ _ _ _ _ _ c.args.self.now.sound (tidy c.args.self.now.by_task) _ _ _ c.args.waiter (sets_of _ _ _ _ c.remove.ensures.updates) c.unlink-cause.ensures.moves c.unlink-cause.ensures.lists c.unlink.ensures.moves c.unlink.ensures.lists;
}

pub returns-clause-rows : goal.returns-clause-rows
unfolding rows_in
returns-clause-rows g c =
    rows_unlink _ _ _ _ _ _ c.args.self.now.sound (tidy c.args.self.now.by_task) _ _ _ c.args.waiter (sets_of _ _ _ _ c.remove.ensures.updates) c.unlink-cause.ensures.moves c.unlink-cause.ensures.lists c.unlink.ensures.moves c.unlink.ensures.lists

pub returns-clause-is : goal.returns-clause-is
unfolding rows_in
returns-clause-is g c =
    let s = c.args.self.now.sound in
    let has = subst (IsIn c.args.waiter) (waiters_are_all _ _ _ _ _ _ s (tidy c.args.self.now.by_task)) c.requires in
    let one = in_all _ _ _ _ _ _ s (tidy c.args.self.now.by_task) c.args.waiter has in
    subst IsSome (sym c.unlink-cause.ensures.value) (s.of_task c.args.waiter one.0 one.1).1

pub returns-clause-known : goal.returns-clause-known
returns-clause-known g c = known_cause _ _ _ _ _ _ c.args.self.now.sound c.args.waiter _ c.unlink-cause.ensures.value

pub returns-clause-others : goal.returns-clause-others
returns-clause-others g c =
    others_stay c.args.self.now c.args.waiter _ _ c.unlink-cause.ensures.value (returns-clause-rows g c)
