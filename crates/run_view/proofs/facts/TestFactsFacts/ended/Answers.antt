-- A task failed where the facts have it so.
use Rattle.std.proofs.Common.{length, None, arith, ap, sym, ◌∙◌}
use Rattle.std.specs.Prelude.{slice_index_or}
use Rattle.std.proofs.lemmas.List.{length-map}
use Rattle.std.proofs.Math.ListN.{get_or-map}
use Rattle.await_tree.specs.Begin.{Facts}
use Rattle.await_tree.specs.EndedTasks.Endings.{failed_of}
use Rattle.run_view.proofs.facts.TestFactsFacts.ended.Goals as goal

pub failed-requires : goal.failed-requires
failed-requires c = omega (arith, length-map c.self.inside.ended.now failed_of, ap (λ (f : Facts). length f.tasks) c.self.view_is)

pub returns : goal.returns
returns c =
    c.failed.ensures ∙ sym (get_or-map failed_of c.self.inside.ended.now c.args.task.0 None)
    ∙ ap (λ (f : Facts). slice_index_or f.tasks c.args.task.0 None) c.self.view_is
