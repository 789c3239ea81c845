use Rattle.std.proofs.Common.{sym, ap, ◌∙◌, subst, arith}
use Rattle.slab.specs.Slab.{Slab}
use Rattle.trigger_table.specs.Links.{IsIn}
use Rattle.trigger_table.specs.State.{add_link}
use Rattle.trigger_table.specs.Records.{rows_in}
use Rattle.trigger_table.proofs.RingLemmas.{tidy}
use Rattle.trigger_table.proofs.KeptLemmas.{sets_after, free_after, same_lists, rows_same, sound_same, sound_link, rows_link, last_of, free_task, free_cause, is_last_in, on_err}
use Rattle.trigger_table.proofs.records.Records.link.Goals as goal

pub invariant_of-self : goal.invariant_of-self
invariant_of-self g c = record {
  sound = sound_same _ _ _ _ _ _ _ c.reserve.ensures.same (same_lists _) (same_lists _) _ _ c.args.self.now.sound (omega arith);
}

pub returns-in_err-reserve-clause-err : goal.returns-in_err-reserve-clause-err
unfolding rows_in
returns-in_err-reserve-clause-err g c =
    on_err _ (rows_same c.args.self.now.tasks.slab.slots _ _ _ _ _ _ c.reserve.ensures.same (same_lists c.args.self.now.by_task) (same_lists c.args.self.now.order))

pub returns-in_err-reserve-2-clause-err : goal.returns-in_err-reserve-2-clause-err
unfolding rows_in
returns-in_err-reserve-2-clause-err g c =
    on_err _ (rows_same c.args.self.now.tasks.slab.slots _ _ _ _ _ _ c.reserve.ensures.same c.reserve-2.ensures.same (same_lists c.args.self.now.order))

pub returns-in_err-reserve-3-clause-err : goal.returns-in_err-reserve-3-clause-err
unfolding rows_in
returns-in_err-reserve-3-clause-err g c =
    on_err _ (rows_same c.args.self.now.tasks.slab.slots _ _ _ _ _ _ c.reserve.ensures.same c.reserve-2.ensures.same (same_lists c.args.self.now.order))

pub push_back-requires-clause-unlinked : goal.push_back-requires-clause-unlinked
push_back-requires-clause-unlinked g c =
    let s = sound_same _ _ _ _ _ _ _ c.reserve.ensures.same c.reserve-2.ensures.same (same_lists _) _ _ c.args.self.now.sound c.reserve-2.ensures.grows in
    free_cause _ _ _ _ _ _ s (tidy c.reserve-2.new.self) _ (free_task _ _ _ _ _ _ s (tidy c.reserve-2.new.self) _ (free_after c.args.self.now.waiters c.reserve-3.new.self _ c.reserve-3.ensures.rest_kept c.insert_reserved-waiter.ensures.was_vacant))

pub push_back-requires-2-clause-list_in : goal.push_back-requires-2-clause-list_in
unfolding rows_in
push_back-requires-2-clause-list_in g c =
    let s = c.args.self.now.sound in
    let last = last_of _ _ _ _ _ _ s (tidy c.args.self.now.by_task) c.args.number c.requires.last in
    let owned = (tidy c.args.self.now.order).owned c.args.number 0 (subst (IsIn c.args.number) (sym last.1) (is_last_in last.0 c.args.number)) in
    omega (arith, s.task_room c.args.number (s.kept c.args.number 0 owned).1, c.reserve-2.ensures.grows)

pub push_back-requires-2-clause-unlinked : goal.push_back-requires-2-clause-unlinked
push_back-requires-2-clause-unlinked g c =
    let s = sound_same _ _ _ _ _ _ _ c.reserve.ensures.same c.reserve-2.ensures.same (same_lists _) _ _ c.args.self.now.sound c.reserve-2.ensures.grows in
    free_task _ _ _ _ _ _ s (tidy c.reserve-2.new.self) _ (free_after c.args.self.now.waiters c.reserve-3.new.self _ c.reserve-3.ensures.rest_kept c.insert_reserved-waiter.ensures.was_vacant)

pub invariant_of-self-2 : goal.invariant_of-self-2
unfolding rows_in
invariant_of-self-2 g c = record {
  sound =
      let s = sound_same _ _ _ _ _ _ _ c.reserve.ensures.same c.reserve-2.ensures.same (same_lists _) _ _ c.args.self.now.sound c.reserve-2.ensures.grows in
      let last = last_of _ _ _ _ _ _ c.args.self.now.sound (tidy c.args.self.now.by_task) c.args.number c.requires.last in
      sound_link _ _ _ _ _ _ s (tidy c.reserve-2.new.self) _ _ _ c.insert_reserved-waiter.result c.args.number c.args.cause (tidy c.args.self.now.order)
      (free_after c.args.self.now.waiters c.reserve-3.new.self _ c.reserve-3.ensures.rest_kept c.insert_reserved-waiter.ensures.was_vacant)
      (sets_after c.args.self.now.waiters c.reserve-3.new.self c.insert_reserved-waiter.new.self _ _ c.reserve-3.ensures.rest_kept c.insert_reserved-waiter.ensures.updates)
      c.requires.known c.push_back.ensures.moves c.push_back.ensures.last c.push_back.ensures.others c.push_back-2.ensures.moves c.push_back-2.ensures.last c.push_back-2.ensures.others last;
}

pub returns-clause-ok : goal.returns-clause-ok
unfolding rows_in
returns-clause-ok g c =
    let s = sound_same _ _ _ _ _ _ _ c.reserve.ensures.same c.reserve-2.ensures.same (same_lists _) _ _ c.args.self.now.sound c.reserve-2.ensures.grows in
    let last = last_of _ _ _ _ _ _ c.args.self.now.sound (tidy c.args.self.now.by_task) c.args.number c.requires.last in
    let same = rows_same c.args.self.now.tasks.slab.slots _ _ _ _ _ _ c.reserve.ensures.same c.reserve-2.ensures.same (same_lists c.args.self.now.order) in (
      c.insert_reserved-waiter.result,
      rows_link _ _ _ _ _ _ s (tidy c.reserve-2.new.self) _ _ _ c.insert_reserved-waiter.result c.args.number c.args.cause (tidy c.args.self.now.order)
          (free_after c.args.self.now.waiters c.reserve-3.new.self _ c.reserve-3.ensures.rest_kept c.insert_reserved-waiter.ensures.was_vacant)
          (sets_after c.args.self.now.waiters c.reserve-3.new.self c.insert_reserved-waiter.new.self _ _ c.reserve-3.ensures.rest_kept c.insert_reserved-waiter.ensures.updates)
          c.requires.known c.push_back.ensures.moves c.push_back.ensures.last c.push_back.ensures.others c.push_back-2.ensures.moves c.push_back-2.ensures.last c.push_back-2.ensures.others last
          ∙ ap (add_link c.args.number (record { waiter = c.insert_reserved-waiter.result; cause = c.args.cause })) same,
    )

pub invariant_of-self-in-Break-branch-2 : goal.invariant_of-self-in-Break-branch-2
invariant_of-self-in-Break-branch-2 g c = record {
  sound = sound_same _ _ _ _ _ _ _ c.reserve.ensures.same c.reserve-2.ensures.same (same_lists _) _ _ c.args.self.now.sound c.reserve-2.ensures.grows;
}

pub invariant_of-self-in-Break-branch-3 : goal.invariant_of-self-in-Break-branch-3
invariant_of-self-in-Break-branch-3 g c = record {
  sound = rw (ap (λ (s : Slab (Unit {0})). s.slots) c.reserve-3.ensures.rest_kept)
      (sound_same _ _ _ _ _ _ _ c.reserve.ensures.same c.reserve-2.ensures.same (same_lists _) _ _ c.args.self.now.sound c.reserve-2.ensures.grows);
}
