-- The calls of a task, one around the other, and one step of it.
use Rattle.std.proofs.Common.{◌≡◌, ℕ, suc, ◌+◌, ◌<◌, ◌≤◌, Bool, true, false, List, [], ◌∷◌, ◌++◌, length, Option, None, refl, sym, subst, ap, ◌∙◌, arith}
use Rattle.std.specs.Prelude.{nat_lt}
use Rattle.std.proofs.lemmas.Bool.Decides.{nat_tests}
use Rattle.py_syntax.specs.declared.fault_kind.FaultKind.TheVariants.{RuntimeError}
use Rattle.py_value.specs.Answer.{plain_fault}
use Rattle.py_value.specs.declared.trigger.TaskNo.{TaskNo}
use Rattle.py_value.specs.declared.value.Value.{Value}
use Rattle.py_evaluate.specs.Attribute.Knows.{KnowsNames}
use Rattle.py_evaluate.specs.Attribute.Look.{View}
use Rattle.await_tree.specs.declared.cause.Given.{Given}
use Rattle.test_meaning.specs.Body.BodyTrees.{Function}
use Rattle.rig_model.specs.Task.Frame as frame
use Rattle.rig_model.specs.Task.Frame.{Frame, Task, Throw, Leaves, entered, function_at}
use Rattle.rig_model.specs.Task.Known.{KnowsFrames, KnowsWhole}
use Rattle.rig_model.specs.Task.Moves.{Move, Nothing, Asks, Calls, Ends}
use Rattle.rig_model.specs.Task.Moves as moves
use Rattle.rig_model.specs.Task.Step.{Next, at, call, given_to, next, result_course, returned, settled, step}
use Rattle.rig_model.specs.declared.task.task.Turned.{Turned}
use Rattle.task_core.specs.Code.Reading.{Reading}
use Rattle.task_core.specs.OpenCall.Call.{Moved, frame_in}
use Rattle.task_core.specs.OpenCall.Course.{wish_in}
use Rattle.task_core.specs.OpenCall.Slots.{names_in}
use Rattle.task_core.specs.declared.open_call.call.OpenCall.{OpenCall}
use Rattle.task_core.specs.declared.open_call.course.Wish.{Wish}
use Rattle.task_core.specs.Flow.Flow.{IsSame, Settles, frames_in, functions_in, open_frames, task_in}
use Rattle.task_core.specs.declared.flow.flow.CodeFlow.{CodeFlow}

module _ {C : Type 0} (r : C → Reading) where
  -- ---- the calls around

  pub frames_last : (cs : List (OpenCall C)) (c : OpenCall C) → frames_in r (cs ++ c ∷ []) ≡ frame_in r c ∷ frames_in r cs
  frames_last [] c = refl
  frames_last (d ∷ cs) c = ap (λ (fs : List Frame). fs ++ frame_in r d ∷ []) (frames_last cs c)

  length_more : (fs : List Frame) (f : Frame) → length (fs ++ f ∷ []) ≡ length fs + 1
  length_more [] f = refl
  length_more (g ∷ fs) f = omega (arith, length_more fs f)

  pub frames_count : (cs : List (OpenCall C)) → length (frames_in r cs) ≡ length cs
  frames_count [] = refl
  frames_count (c ∷ cs) = omega (arith, length_more (frames_in r cs) (frame_in r c), frames_count cs)

  -- ---- what becomes of them

  task_open : (flow : CodeFlow C) → flow.ended ≡ false
      → task_in r flow ≡ record { number = flow.number; triggers = flow.triggers; frames = frame_in r flow.call ∷ frames_in r flow.around.items }
  task_open flow e = ap (λ (b : Bool). record { number = flow.number; triggers = flow.triggers; frames = open_frames r b flow.call flow.around.items }) e

  next_with : (flow : CodeFlow C) → flow.ended ≡ false → (o : Option Turned)
      → ◌≡◌ {A = Next} (record { task = record { number = flow.number; triggers = flow.triggers; frames = frame_in r flow.call ∷ frames_in r flow.around.items }; turned = o })
      (record { task = task_in r flow; turned = o })
  next_with flow e o = ap (λ (t : Task). record { task = t; turned = o }) (sym (task_open flow e))

  -- a call is opened
  pub settles_opened : (before after : CodeFlow C) (n : ℕ) (args : List Value) (inner : OpenCall C) → length before.around.items + 1 < 1000
      → after.number ≡ before.number → after.triggers ≡ before.triggers → after.ended ≡ false → after.call ≡ inner
      → frame_in r inner ≡ entered (function_at (functions_in r before) n) args → after.around.items ≡ before.around.items ++ before.call ∷ []
      → Settles r (Calls n args) before after None
  settles_opened before after n args inner few number triggers e c f around =
      let fits : nat_lt (suc (length (frames_in r before.around.items))) 1000 ≡ true = grind (arith, nat_tests, frames_count before.around.items) in
      let frames : frames_in r after.around.items ≡ frame_in r before.call ∷ frames_in r before.around.items = ap (λ (cs : List (OpenCall C)). frames_in r cs) around ∙ frames_last before.around.items before.call in
      ap (λ (b : Bool). record {
        task = record (task_in r before) { frames = call b (function_at (functions_in r before) n) args (frame_in r before.call) (frames_in r before.around.items) };
        turned = None;
      }) fits
      ∙ rw (← f, ← c, ← frames, ← number, ← triggers) (next_with after e None)

  -- there are too many for one more
  pub settles_refused : (before after : CodeFlow C) (n : ℕ) (args : List Value) → 1000 ≤ length before.around.items + 1
      → after.number ≡ before.number → after.triggers ≡ before.triggers → after.ended ≡ false → after.around ≡ before.around
      → frame_in r after.call ≡ record (frame_in r before.call) { course = Leaves (Throw (plain_fault RuntimeError)) }
      → Settles r (Calls n args) before after None
  settles_refused before after n args many number triggers e around c =
      let full : nat_lt (suc (length (frames_in r before.around.items))) 1000 ≡ false = grind (arith, nat_tests, frames_count before.around.items) in
      ap (λ (b : Bool). record {
        task = record (task_in r before) { frames = call b (function_at (functions_in r before) n) args (frame_in r before.call) (frames_in r before.around.items) };
        turned = None;
      }) full
      ∙ rw (← c, ← around, ← number, ← triggers) (next_with after e None)

  -- a call ends, and the one around it goes on with what it ends with
  pub settles_closed : (before after : CodeFlow C) (jump : frame.Jump) (c : OpenCall C) → before.around.items ≡ after.around.items ++ c ∷ []
      → after.number ≡ before.number → after.triggers ≡ before.triggers → after.ended ≡ false
      → frame_in r after.call ≡ record (frame_in r c) { course = result_course jump }
      → Settles r (Ends jump) before after None
  settles_closed before after jump c around number triggers e f =
      ap (λ (fs : List Frame). returned jump fs (task_in r before)) (ap (λ (cs : List (OpenCall C)). frames_in r cs) around ∙ frames_last after.around.items c)
      ∙ rw (← f, ← number, ← triggers) (next_with after e None)

  -- ---- one step

  -- what the calls were is of no account
  settled_free : (functions : List Function) (w : moves.Wish) (f : Frame) (fs : List Frame) (n : TaskNo) (k : ℕ) (gs hs : List Frame)
      → settled functions w f fs (record { number = n; triggers = k; frames = gs }) ≡ settled functions w f fs (record { number = n; triggers = k; frames = hs })
  settled_free functions Nothing f fs n k gs hs = refl
  settled_free functions (Asks t) f fs n k gs hs = refl
  settled_free functions (Calls i vs) f fs n k gs hs = refl
  settled_free functions (Ends jump) f [] n k gs hs = refl
  settled_free functions (Ends jump) f (g ∷ fs) n k gs hs = refl

  -- the step of the innermost call, and what becomes of the calls
  pub next_is : (flow mid after : CodeFlow C) (g : Option Given) (view : View) (wish : Wish) (o : Option Turned) → flow.ended ≡ false
      → mid.number ≡ flow.number → mid.functions ≡ flow.functions → mid.around ≡ flow.around
      → Moved r (step (given_to g (frame_in r flow.call).course) (frame_in r flow.call).todo (at flow.number flow.triggers (frame_in r flow.call).names view)) mid.call mid.triggers wish
      → Settles r (wish_in wish) mid after o
      → next (functions_in r flow) (task_in r flow) g view ≡ record { task = task_in r after; turned = o }
  next_is flow mid after g view wish o e number file around m s =
      ap (λ (t : Task). next (functions_in r flow) t g view) (task_open flow e)
      ∙ ap (λ (move : Move). settled (functions_in r flow) move.wish move.frame (frames_in r flow.around.items)
      (record { number = flow.number; triggers = move.next; frames = frame_in r flow.call ∷ frames_in r flow.around.items })) m
      ∙ settled_free (functions_in r flow) (wish_in wish) (frame_in r mid.call) (frames_in r flow.around.items) flow.number mid.triggers
      (frame_in r flow.call ∷ frames_in r flow.around.items) (open_frames r mid.ended mid.call mid.around.items)
      ∙ rw (← number, ← file, ← around) s

  -- the view knows the names of the innermost call
  pub names_known : (functions : List Function) (view : View) (flow : CodeFlow C) → flow.ended ≡ false → KnowsWhole functions view (task_in r flow)
      → KnowsNames view (names_in flow.call.slots)
  names_known functions view flow e k =
      let frames : KnowsFrames functions view (frame_in r flow.call ∷ frames_in r flow.around.items)
      = subst (λ (b : Bool). KnowsFrames functions view (open_frames r b flow.call flow.around.items)) e k.frames in
      frames.0.names

  -- flows of one file
  pub file_same : (before after : CodeFlow C) → IsSame before after → functions_in r after ≡ functions_in r before
  file_same before after same = rw same.file refl
