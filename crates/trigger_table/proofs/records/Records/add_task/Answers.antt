use Rattle.std.proofs.Common.{◌<◌, [], ◌∷◌, ◌++◌, Some, ap, ◌∙◌, arith}
use Rattle.trigger_table.specs.Rings.{key_limit}
use Rattle.trigger_table.specs.Kept.{rows_of}
use Rattle.trigger_table.specs.Records.{rows_in}
use Rattle.trigger_table.specs.declared.entries.TaskRecord.{TaskRecord}
use Rattle.trigger_table.proofs.RingLemmas.{tidy}
use Rattle.trigger_table.proofs.EntryLemmas.{absent_task}
use Rattle.trigger_table.proofs.KeptLemmas.{same_lists, rows_same, sound_same, sound_add, rows_add, on_err}
use Rattle.trigger_table.specs.Kept.{kept_as}
use Rattle.trigger_table.proofs.records.Records.add_task.Goals as goal

pub invariant_of-self : goal.invariant_of-self
invariant_of-self g c = record {
  sound = sound_same _ _ _ _ _ _ _ (same_lists _) (same_lists _) c.reserve.ensures.same _ _ c.args.self.now.sound (omega arith);
}

pub returns-in_err-reserve-clause-err : goal.returns-in_err-reserve-clause-err
unfolding rows_in
returns-in_err-reserve-clause-err g c =
    on_err _ (rows_same c.args.self.now.tasks.slab.slots _ _ _ _ _ _ (same_lists c.args.self.now.by_cause) (same_lists c.args.self.now.by_task) c.reserve.ensures.same)

pub returns-in_err-reserve-2-clause-err : goal.returns-in_err-reserve-2-clause-err
unfolding rows_in
returns-in_err-reserve-2-clause-err g c =
    on_err _ (rows_same c.args.self.now.tasks.slab.slots _ _ _ _ _ _ (same_lists c.args.self.now.by_cause) c.reserve-2.ensures.same c.reserve.ensures.same)

pub returns-in_err-number-clause-err : goal.returns-in_err-number-clause-err
unfolding rows_in
returns-in_err-number-clause-err g c =
    on_err _ (ap (λ ts. rows_of ts c.args.self.now.by_cause c.reserve-2.new.self c.reserve.new.self) c.in_err-number.ensures.err ∙ (rows_same c.args.self.now.tasks.slab.slots _ _ _ _ _ _ (same_lists c.args.self.now.by_cause) c.reserve-2.ensures.same c.reserve.ensures.same))

pub invariant_of-self-2 : goal.invariant_of-self-2
invariant_of-self-2 g c = record {
  sound =
      let entry : TaskRecord = record { task = c.args.task; tree = c.args.tree } in
      let s = sound_same _ _ _ _ _ _ _ (same_lists _) c.reserve-2.ensures.same c.reserve.ensures.same _ _ c.args.self.now.sound c.reserve-2.ensures.grows in
      let room : c.in_ok-number.number < key_limit c.reserve-2.new.self = omega (arith, c.in_ok-reserve-2.ensures.room, c.next_number-number.ensures, c.in_ok-number.ensures.number) in
      sound_add _ _ _ _ _ _ s (tidy c.reserve-2.new.self) _ _ c.in_ok-number.number entry (tidy c.reserve.new.self)
      c.in_ok-number.ensures.vacant room c.in_ok-number.ensures.ok c.push_back.ensures.moves c.push_back.ensures.last;
}

pub returns-clause-ok : goal.returns-clause-ok
unfolding rows_in
returns-clause-ok g c =
    let entry : TaskRecord = record { task = c.args.task; tree = c.args.tree } in
    let s = sound_same _ _ _ _ _ _ _ (same_lists _) c.reserve-2.ensures.same c.reserve.ensures.same _ _ c.args.self.now.sound c.reserve-2.ensures.grows in
    let same = rows_same c.args.self.now.tasks.slab.slots _ _ _ _ _ _ (same_lists c.args.self.now.by_cause) c.reserve-2.ensures.same c.reserve.ensures.same in
    let room : c.in_ok-number.number < key_limit c.reserve-2.new.self = omega (arith, c.in_ok-reserve-2.ensures.room, c.next_number-number.ensures, c.in_ok-number.ensures.number) in
    rows_add _ _ _ _ _ _ s (tidy c.reserve-2.new.self) _ _ c.in_ok-number.number entry (tidy c.reserve.new.self)
    c.in_ok-number.ensures.vacant room c.in_ok-number.ensures.ok c.push_back.ensures.moves c.push_back.ensures.last
    ∙ ap (λ rows. rows ++ record { number = c.in_ok-number.number; entry = kept_as (Some entry); links = [] } ∷ []) same

pub invariant_of-self-in-Break-branch-2 : goal.invariant_of-self-in-Break-branch-2
invariant_of-self-in-Break-branch-2 g c = record {
  sound = sound_same _ _ _ _ _ _ _ (same_lists _) c.reserve-2.ensures.same c.reserve.ensures.same _ _ c.args.self.now.sound c.reserve-2.ensures.grows;
}

pub invariant_of-self-in-Break-branch-3 : goal.invariant_of-self-in-Break-branch-3
invariant_of-self-in-Break-branch-3 g c = record {
  sound = rw c.in_err-number.ensures.err
      (sound_same _ _ _ _ _ _ _ (same_lists _) c.reserve-2.ensures.same c.reserve.ensures.same _ _ c.args.self.now.sound c.reserve-2.ensures.grows);
}

pub make-requires : goal.make-requires
unfolding rows_in
make-requires g c = absent_task _ _ _ _ _ _ c.args.self.now.sound (tidy c.args.self.now.by_task) (tidy c.args.self.now.order) c.args.task c.requires
