-- A means of proof: what an assignment is, of a target and a value that were checked (IEEE 1364-2005, clauses 5.4.1 and 9.2), for the
-- proofs of elaboration.
use Rattle.std.specs.Prelude.{◌≡◌, ℕ, max, List}
use Rattle.four_value.specs.Vector.{resize}
use Rattle.gpi.specs.declared.acts.Act.{Act}
use Rattle.gpi.specs.Terms.{read, IsWidth}
use Rattle.gpi.specs.Targets.{updates_of, target_width, IsSoundTarget}
use Rattle.gpi.specs.Activation.{MakesAct}
use Rattle.v_check.specs.Contextual.Contexts.{value_in, IsSound}
use Rattle.v_check.specs.declared.constants.checked.Checked.{Checked}
use Rattle.v_process.specs.declared.act.moment.Moment.{Moment}
use Rattle.v_process.specs.declared.target.checked.CheckedTarget.{CheckedTarget}
use Rattle.v_process.specs.Act.Statements.{taking}

-- both are sound, and have the widths that they tell; ws are the widths of the signals
pub record FitTogether (t : CheckedTarget) (v : Checked) (ws : List ℕ) : Type 0 where
  pub target : IsSoundTarget t.target ws
  pub target_width_is : target_width t.target ≡ t.width
  pub target_width : IsWidth t.width
  pub value : IsSound v.form ws
  pub value_width : IsWidth v.width

-- the target gets the value in the context of the greater one of both widths, cut to its own; it is sound where both fit together
abbrev pub MakesAssignment : Moment → CheckedTarget → Checked → Act → Type 0
MakesAssignment m t v a = MakesAct a
    (λ r. taking m (updates_of t.target (read r.signals) (resize (value_in v.form (max t.width v.width) (read r.signals)) t.width)) r)
    (FitTogether t v)
