-- The step of a call that has a value.
use Rattle.std.proofs.Common.{◌≡◌, ℕ, List, ◌∷◌, refl, sym, ap, ◌∙◌}
use Rattle.py_value.specs.declared.trigger.TaskNo.{TaskNo}
use Rattle.py_value.specs.declared.value.Value.{Value}
use Rattle.py_evaluate.specs.Attribute.Look.{View}
use Rattle.rig_model.specs.Task.Frame.{Todo, Do, Again, Each, Uses, Handles, Bound, Holds}
use Rattle.rig_model.specs.Task.Moves.{At}
use Rattle.rig_model.specs.Task.Step.{at, step_with}
use Rattle.task_core.specs.Code.Reading.{Reading}
use Rattle.task_core.specs.Flow.Given.{use_first}
use Rattle.task_core.specs.OpenCall.Call.{IsSame, Moved, at_in}
use Rattle.task_core.specs.OpenCall.Parts.{todos_in}
use Rattle.task_core.specs.OpenCall.Slots.{names_in}
use Rattle.task_core.specs.declared.open_call.call.OpenCall.{OpenCall}
use Rattle.task_core.specs.declared.open_call.course.Wish.{Wish}
use Rattle.task_core.specs.declared.open_call.slots.Slots.{Slots}

used : (v : Value) (t : Todo) (ts : List Todo) (a : At) → step_with v (t ∷ ts) a ≡ use_first v t (record a { rest = ts })
used v (Do i) ts a = refl
used v (Again e b) ts a = refl
used v (Each n left b) ts a = refl
used v (Uses u) ts a = refl
used v (Handles hs) ts a = refl
used v (Bound n) ts a = refl
used v (Holds l) ts a = refl

module _ {C : Type 0} (r : C → Reading) where
  -- the first thing to do was taken off, and used the value
  pub step_with_is : (v : Value) (t : Todo) (before mid after : OpenCall C) (wish : Wish) (task : TaskNo) (view : View) (next k : ℕ)
      → todos_in r before.todo ≡ t ∷ todos_in r mid.todo → IsSame before mid → Moved r (use_first v t (at_in r task view mid next)) after k wish
      → Moved r (step_with v (todos_in r before.todo) (at task next (names_in before.slots) view)) after k wish
  step_with_is v t before mid after wish task view next k e same h =
      ap (λ (ts : List Todo). step_with v ts (at task next (names_in before.slots) view)) e
      ∙ used v t (todos_in r mid.todo) (at task next (names_in before.slots) view)
      ∙ ap (λ (slots : Slots). use_first v t
      (record { scope = record { task = task; names = names_in slots; view = view }; rest = todos_in r mid.todo; next = next })) (sym same.slots)
      ∙ h
