-- A means of proof: what is made of parts, by their activations.
use Rattle.std.specs.Prelude.{◌≡◌, ℕ, max, List}
use Rattle.four_value.specs.Vector.{resize}
use Rattle.gpi.specs.declared.acts.Act.{Act}
use Rattle.gpi.specs.declared.acts.Acts.{Acts}
use Rattle.gpi.specs.declared.terms.Term.{Term}
use Rattle.gpi.specs.Terms.{IsWidth}
use Rattle.gpi.specs.Made.{Makes}
use Rattle.gpi.specs.Activation.{Run, MakesIf, SoundList, acts_of, run_list}
use Rattle.v_flat.specs.declared.scope.found.Found.{Found}
use Rattle.v_flat.specs.Scope.Found.{EachIs}
use Rattle.v_check.specs.Contextual.Contexts.{value_in, IsSound}
use Rattle.v_check.specs.declared.constants.checked.Checked.{Checked}
use Rattle.v_process.specs.declared.act.moment.Moment.{Moment}
use Rattle.v_process.specs.declared.target.checked.CheckedTarget.{CheckedTarget}
use Rattle.v_process.specs.Act.Assignments.{MakesAssignment}
use Rattle.v_process.specs.Act.Statements.{run_back}

-- t is the value v at the greater one of w digits and its own width, and then cut to w digits
abbrev pub IsCut : Checked → ℕ → Term → Type 0
IsCut v w t = Makes t (λ m. resize (value_in v.form (max w v.width) m) w) w (λ ws. IsSound v.form ws × (IsWidth (max w v.width) × IsWidth w))

abbrev pub AreAssignments : Moment → Found (CheckedTarget × Checked) → Found Act → Type 0
AreAssignments m x f = EachIs (λ (p : CheckedTarget × Checked) (a : Act). MakesAssignment m p.0 p.1 a) x f

abbrev pub AreChoices : Found (Term × (Act × Act)) → Found Act → Type 0
AreChoices x f = EachIs (λ (p : Term × (Act × Act)) (a : Act). MakesIf p.0 p.1.0 p.1.1 a) x f

-- the statements of the list, the first one first
pub record AreInOrder (xs : List Act) (all : Acts) : Type 0 where
  pub runs : (r : Run) → run_list (acts_of all) r ≡ run_back xs r
  pub sound : (ws : List ℕ) → SoundList xs ws → SoundList (acts_of all) ws
