-- One evaluation, and then a step of its value.
use Rattle.std.proofs.Common.{◌≡◌, ℕ, List, [], ◌∷◌, Option, Ok, ap, ◌∙◌}
use Rattle.py_syntax.specs.ExpressionTrees.{Tree}
use Rattle.py_value.specs.declared.trigger.TaskNo.{TaskNo}
use Rattle.py_evaluate.specs.Attribute.Look.{View}
use Rattle.py_evaluate.specs.Attribute.Outcome.{Outcome, EndsAs}
use Rattle.task_step.specs.LoopSpan.Question.{Found, found}
use Rattle.task_step.specs.LoopSpan.Question.{asked as asked_next}
use Rattle.task_step.proofs.LoopSpanLemmas.Questions.{asks_found}
use Rattle.test_meaning.specs.Body.BodyTrees.{Block}
use Rattle.rig_model.specs.Task.Awaits.{waits}
use Rattle.rig_model.specs.Task.Blocks.{ask_next, enter}
use Rattle.rig_model.specs.Task.Frame.{Enters, Left, Uses}
use Rattle.rig_model.specs.Task.Moves.{At, Move, first_do, with_value}
use Rattle.task_step.specs.TaskValues.Waits as own
use Rattle.task_step.specs.TaskValues.Waits.{acquiring_in, eval_lock}
use Rattle.task_step.specs.declared.task_values.waits.Acquiring.{Acquiring}
use Rattle.task_step.proofs.TaskValuesLemmas.Ways.{lock_is}
use Rattle.task_core.specs.Code.Reading.{Reading}
use Rattle.task_core.specs.OpenCall.Call.{Moved, at_in}
use Rattle.task_core.specs.declared.open_call.call.OpenCall.{OpenCall}
use Rattle.task_core.specs.declared.open_call.course.Wish.{Wish}
use Rattle.task_core.proofs.OpenCallLemmas.Ends.{gave}
use Rattle.task_core.specs.Blocks.Steps.{IsStep}

module _ {C : Type 0} (r : C → Reading) where
  -- it gave a value, and a step was done with that
  pub went_on : {A B : Type 0} (b : B) (read : B → A) (k old : ℕ) (o : ℕ → Outcome A) (f : A → At → Move) (before after : OpenCall C) (wish : Wish) (task : TaskNo) (view : View)
      → EndsAs (Ok b) read k (o old) → IsStep r (f (read b)) before after wish → Moved r (with_value (at_in r task view before old) o f) after k wish
  went_on b read k old o f before after wish task view e s = gave b read k (o old) (at_in r task view before old) f e ∙ s task view k

  -- ---- the question of a `for`, and the lock of an `async with`

  pub questioned : (n : List ℕ) (left : Left) (b : Block) (f : Option Found) (before after : OpenCall C) (wish : Wish) → found left ≡ f → IsStep r (asked_next n f b) before after wish
      → IsStep r (ask_next n left b) before after wish
  questioned n left b f before after wish e h task view next =
      asks_found n left b (at_in r task view before next) ∙ ap (λ (o : Option Found). asked_next n o b (at_in r task view before next)) e ∙ h task view next

  pub acquired : (e : Tree) (b : Block) (l : Acquiring) (k old : ℕ) (before after : OpenCall C) (wish : Wish) (task : TaskNo) (view : View)
      → EndsAs (Ok l) acquiring_in k (eval_lock (at_in r task view before old).scope e old)
      → IsStep r (λ (a : At). waits l.trig (first_do (Uses (Enters l.lock b) ∷ []) a)) before after wish → Moved r (enter e b (at_in r task view before old)) after k wish
  acquired e b l k old before after wish task view h s =
      lock_is e b (at_in r task view before old)
      ∙ went_on l acquiring_in k old (λ j. eval_lock (at_in r task view before old).scope e j)
      (λ (x : own.Acquiring) (a : At). waits x.trigger (first_do (Uses (Enters x.lock b) ∷ []) a)) before after wish task view h s
