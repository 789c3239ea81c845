-- How evaluations, changes and ends of a step are those of a place.
use Rattle.std.proofs.Common.{◌≡◌, ℕ, List, Option, Ok, Err, refl, ap, ◌∙◌}
use Rattle.py_value.specs.declared.trigger.TaskNo.{TaskNo}
use Rattle.py_value.specs.declared.value.Value.{Value}
use Rattle.py_evaluate.specs.Attribute.Look.{View}
use Rattle.py_evaluate.specs.Attribute.Outcome.{Outcome, EndsAs}
use Rattle.py_evaluate.specs.declared.attribute.fault.OperationFault.{OperationFault}
use Rattle.py_evaluate.specs.declared.attribute.fault.OperationFault.TheVariants as faults
use Rattle.rig_model.specs.Task.Frame.{Course, Todo}
use Rattle.rig_model.specs.Task.Moves as move
use Rattle.rig_model.specs.Task.Moves.{At, Move, go_on, moved, named, outcome}
use Rattle.task_core.specs.Code.Reading.{Reading}
use Rattle.task_core.specs.OpenCall.Call.{Does, Ended, Goes, Moved, Named, RaisedBy, at_in}
use Rattle.task_core.specs.declared.open_call.call.OpenCall.{OpenCall}
use Rattle.task_core.specs.declared.open_call.course.Wish.{Wish}

module _ {C : Type 0} (r : C → Reading) where
  -- ---- how a step ends

  pub ended_is : (before after : OpenCall C) (wish : Wish) (course : Course) (wanted : move.Wish) (task : TaskNo) (view : View) (next : ℕ)
      → Ended r before after wish course wanted → Moved r (moved (at_in r task view before next) course wanted) after next wish
  ended_is before after wish course wanted task view next e = rw (e.frame, e.wish) refl

  pub goes_is : (before after : OpenCall C) (wish : Wish) (todo : List Todo) (task : TaskNo) (view : View) (next : ℕ)
      → Goes r before after wish todo → Moved r (go_on (record (at_in r task view before next) { rest = todo })) after next wish
  goes_is before after wish todo task view next g = rw (g.frame, g.wish) refl

  -- ---- evaluations on the way

  pub raised_is : {A B : Type 0} (fault : OperationFault) (read : B → A) (k old : ℕ) (o : Outcome A) (before after : OpenCall C) (wish : Wish) (task : TaskNo)
      (view : View) (f : A → At → Move) → EndsAs (Err fault) read k o → RaisedBy r fault before after wish
      → Moved r (outcome o (at_in r task view before old) f) after k wish
  raised_is {A} (faults.Raised kind) read k old o before after wish task view f e x =
      ap (λ (p : Outcome A). outcome p (at_in r task view before old) f) e ∙ rw (x.frame, x.wish) refl
  raised_is faults.OutOfMemory read k old o before after wish task view f e x = absurd x

  -- ---- changes on the way

  pub named_is : (before after : OpenCall C) (name : List ℕ) (value : Option Value) (task : TaskNo) (view : View) (next : ℕ)
      → Named before after name value → named name value (at_in r task view before next) ≡ at_in r task view after next
  named_is before after name value task view next n = rw (n.names, n.todo) refl

  pub does_is : (before after : OpenCall C) (todo : List Todo) (task : TaskNo) (view : View) (next : ℕ)
      → Does r before after todo → record (at_in r task view before next) { rest = todo } ≡ at_in r task view after next
  does_is before after todo task view next d = rw (d.todo, d.slots) refl

pub gave : {A B : Type 0} (b : B) (read : B → A) (k : ℕ) (o : Outcome A) (a : At) (f : A → At → Move)
    → EndsAs (Ok b) read k o → outcome o a f ≡ f (read b) (record a { next = k })
gave {A} b read k o a f e = ap (λ (p : Outcome A). outcome p a f) e
