-- A task has ended where the view has it so.
use Rattle.std.proofs.Common.{length, None, is_some, arith, ap, sym, ◌∙◌}
use Rattle.std.specs.Prelude.{false, slice_index_or}
use Rattle.std.proofs.lemmas.List.{length-map}
use Rattle.std.proofs.Math.ListN.{get_or-map}
use Rattle.py_evaluate.specs.Attribute.Look.{View}
use Rattle.run_view.proofs.view.RunViewLook.is_done.Goals as goal

pub is_done-requires : goal.is_done-requires
is_done-requires g c = omega (arith, length-map c.self.inside.ended.now is_some, ap (λ (v : View). length v.ended) c.self.view_is)

pub returns : goal.returns
returns g c =
    c.is_done.ensures ∙ sym (get_or-map is_some c.self.inside.ended.now c.args.task.0 None)
    ∙ ap (λ (v : View). slice_index_or v.ended c.args.task.0 false) c.self.view_is
