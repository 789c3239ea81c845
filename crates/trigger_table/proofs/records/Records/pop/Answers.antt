use Rattle.std.proofs.Common.{IsSome, sym, subst}
use Rattle.trigger_table.specs.Records.{rows_in}
use Rattle.trigger_table.proofs.RingLemmas.{tidy}
use Rattle.trigger_table.proofs.IndexLemmas.{sets_of}
use Rattle.trigger_table.proofs.KeptLemmas.{sound_unlink, rows_pop, known_cause, popped, listed_row, no_links, on_some, if_none, never_none}
use Rattle.trigger_table.proofs.records.Records.pop.Goals as goal

pub returns-in_err-waiter-clause-none : goal.returns-in_err-waiter-clause-none
unfolding rows_in
returns-in_err-waiter-clause-none g c =
    let s = c.args.self.now.sound in
    let listed = listed_row _ _ _ _ _ _ s (tidy c.args.self.now.by_task) c.args.number c.requires in
    if_none _ (no_links _ _ _ _ _ _ s (tidy c.args.self.now.by_task) c.args.number listed c.in_err-waiter.ensures.value)

pub remove-requires : goal.remove-requires
remove-requires g c = (c.args.self.now.sound.of_task c.in_ok-waiter.waiter c.args.number c.in_ok-waiter.ensures.member).2

pub invariant_of-self : goal.invariant_of-self
invariant_of-self g c = record {
  sound = sound_unlink _ _ _ _ _ _ c.args.self.now.sound (tidy c.args.self.now.by_task) _ _ _ c.in_ok-waiter.waiter (sets_of _ _ _ _ c.remove.ensures.updates) c.unlink-cause.ensures.moves c.unlink-cause.ensures.lists c.unlink.ensures.moves c.unlink.ensures.lists;
}

pub returns-clause-some : goal.returns-clause-some
unfolding rows_in
returns-clause-some g c =
    let s = c.args.self.now.sound in
    let listed = listed_row _ _ _ _ _ _ s (tidy c.args.self.now.by_task) c.args.number c.requires in
    popped _ _ _ _ _ _ s (tidy c.args.self.now.by_task) c.in_ok-waiter.waiter c.args.number _ c.unlink-cause.ensures.value listed (sym c.in_ok-waiter.ensures.value)

pub returns-clause-none : goal.returns-clause-none
returns-clause-none g c =
    never_none _ _ (subst IsSome (sym c.unlink-cause.ensures.value) (c.args.self.now.sound.of_task c.in_ok-waiter.waiter c.args.number c.in_ok-waiter.ensures.member).1)

pub returns-clause-rows : goal.returns-clause-rows
unfolding rows_in
returns-clause-rows g c =
    on_some _
    (rows_pop _ _ _ _ _ _ c.args.self.now.sound (tidy c.args.self.now.by_task) _ _ c.in_ok-waiter.waiter c.args.number (sym c.in_ok-waiter.ensures.value) c.unlink-cause.ensures.moves c.unlink.ensures.moves c.unlink.ensures.lists)

pub returns-clause-same : goal.returns-clause-same
returns-clause-same g c =
    never_none _ _ (subst IsSome (sym c.unlink-cause.ensures.value) (c.args.self.now.sound.of_task c.in_ok-waiter.waiter c.args.number c.in_ok-waiter.ensures.member).1)

pub returns-clause-known : goal.returns-clause-known
returns-clause-known g c =
    known_cause _ _ _ _ _ _ c.args.self.now.sound c.in_ok-waiter.waiter _ c.unlink-cause.ensures.value
