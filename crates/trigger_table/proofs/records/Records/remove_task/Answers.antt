use Rattle.std.proofs.Common.{ap, ◌∙◌}
use Rattle.trigger_table.specs.Records.{rows_in}
use Rattle.trigger_table.proofs.RingLemmas.{tidy}
use Rattle.trigger_table.proofs.KeptLemmas.{sound_remove, rows_remove, bare_of, entry_at_row, some_is}
use Rattle.trigger_table.specs.Kept.{kept_as}
use Rattle.trigger_table.proofs.records.Records.remove_task.Goals as goal

pub remove-requires : goal.remove-requires
unfolding rows_in
remove-requires g c =
    let s = c.args.self.now.sound in
    let bare = bare_of _ _ _ _ _ _ s (tidy c.args.self.now.by_task) c.args.number c.requires in
    some_is _ (s.kept c.args.number 0 ((tidy c.args.self.now.order).owned c.args.number 0 bare.0)).1

pub invariant_of-self : goal.invariant_of-self
unfolding rows_in
invariant_of-self g c = record {
  sound = let bare = bare_of _ _ _ _ _ _ c.args.self.now.sound (tidy c.args.self.now.by_task) c.args.number c.requires in
      sound_remove _ _ _ _ _ _ c.args.self.now.sound (tidy c.args.self.now.by_task) _ _ c.args.number c.remove.ensures.sets c.unlink.ensures.moves c.unlink.ensures.lists bare.1;
}

pub returns-clause-rows : goal.returns-clause-rows
unfolding rows_in
returns-clause-rows g c =
    let bare = bare_of _ _ _ _ _ _ c.args.self.now.sound (tidy c.args.self.now.by_task) c.args.number c.requires in
    rows_remove _ _ _ _ _ _ c.args.self.now.sound (tidy c.args.self.now.by_task) _ _ c.args.number c.remove.ensures.sets c.unlink.ensures.moves c.unlink.ensures.lists bare.1

pub returns-clause-entry : goal.returns-clause-entry
unfolding rows_in
returns-clause-entry g c =
    let bare = bare_of _ _ _ _ _ _ c.args.self.now.sound (tidy c.args.self.now.by_task) c.args.number c.requires in
    entry_at_row _ _ _ _ _ _ c.args.self.now.sound (tidy c.args.self.now.by_task) c.args.number bare.0 ∙ ap kept_as c.remove.ensures.value
