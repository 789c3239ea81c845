-- Handlers, and marks that count where blocks are left.
use Rattle.std.proofs.Common.{◌≡◌, ℕ, Bool, true, false, List, [], ◌∷◌, Option, None, Some, refl, sym, ap, ◌∙◌}
use Rattle.std.specs.Prelude.{if◌then◌else◌}
use Rattle.py_syntax.specs.StatementTrees.{Caught, view_caught}
use Rattle.py_value.specs.declared.trigger.TaskNo.{TaskNo}
use Rattle.py_value.specs.declared.value.Fault.{Fault}
use Rattle.py_evaluate.specs.Attribute.Look.{View}
use Rattle.test_meaning.specs.Body.BodyTrees.{Block, Handlers, NoHandler, Catch}
use Rattle.rig_model.specs.Task.Frame.{Jump, Throw, Todo, Do, Again, Each, Uses, Handles, Bound, Holds, Assigns, Writes, Returns, Times, Limited, Enters, Leaves, On}
use Rattle.rig_model.specs.Task.Leaving.{catches, drop_mark, find_handler, handle}
use Rattle.rig_model.specs.Task.Moves as move
use Rattle.rig_model.specs.Task.Moves.{At, Move, leave}
use Rattle.rig_model.specs.Task.Step.{at}
use Rattle.task_core.specs.Code.Reading.{Reading}
use Rattle.task_core.specs.OpenCall.Call.{Ended, IsSame, Moved, at_in}
use Rattle.task_core.proofs.OpenCallLemmas.Ends.{ended_is}
use Rattle.task_core.specs.OpenCall.Parts.{from_mark, stop_in, todos_in}
use Rattle.task_core.specs.OpenCall.Slots.{names_in}
use Rattle.task_core.specs.declared.open_call.call.OpenCall.{OpenCall}
use Rattle.task_core.specs.declared.open_call.course.Wish.{Wish}
use Rattle.task_core.specs.declared.open_call.slots.Slots.{Slots}
use Rattle.task_core.specs.declared.open_call.todo.Stop.{Stop}
use Rattle.task_core.specs.declared.open_call.todo.Stop.TheVariants as stop
use Rattle.task_core.specs.declared.code.first.FirstHandler.{FirstHandler}
use Rattle.task_core.specs.Blocks.Handlers.{first_catching, handler_in}
use Rattle.task_core.specs.Blocks.Steps.{IsStep}

-- ---- the first handler that catches a fault

abbrev pub handled : Option (Caught × Block) → Fault → At → Move
handled None fault a = leave (Throw fault) a
handled (Some h) fault a = handle h.0 fault h.1 a

one_found : (t : Bool) (c : Caught) (b : Block) (hs : Handlers) (fault : Fault) (a : At) → find_handler hs fault a ≡ handled (first_catching fault.kind hs) fault a
    → (if t then handle c fault b a else find_handler hs fault a) ≡ handled (if t then Some (c, b) else first_catching fault.kind hs) fault a
one_found true c b hs fault a e = refl
one_found false c b hs fault a e = e

pub found : (hs : Handlers) (fault : Fault) (a : At) → find_handler hs fault a ≡ handled (first_catching fault.kind hs) fault a
found NoHandler fault a = refl
found (Catch c b hs) fault a = one_found (catches c fault.kind) c b hs fault a (found hs fault a)

-- ---- what is passed

passed : (jump : Jump) (ts : List Todo) (a : At) → drop_mark jump ts a ≡ drop_mark jump (from_mark ts) a
passed jump [] a = refl
passed jump (Do i ∷ ts) a = passed jump ts a
passed jump (Again e b ∷ ts) a = refl
passed jump (Each n left b ∷ ts) a = refl
passed jump (Uses (Assigns n) ∷ ts) a = passed jump ts a
passed jump (Uses (Writes e) ∷ ts) a = passed jump ts a
passed jump (Uses Returns ∷ ts) a = passed jump ts a
passed jump (Uses (Times steps) ∷ ts) a = passed jump ts a
passed jump (Uses (Limited t) ∷ ts) a = refl
passed jump (Uses (Enters l b) ∷ ts) a = passed jump ts a
passed jump (Handles hs ∷ ts) a = refl
passed jump (Bound n ∷ ts) a = refl
passed jump (Holds l ∷ ts) a = refl

module _ {C : Type 0} (r : C → Reading) where
  -- what stood before a mark that counts is of no account
  behind : (jump : Jump) (s : Stop C) (ts : List Todo) (a : At) → drop_mark jump (stop_in r s ∷ ts) a ≡ drop_mark jump (stop_in r s ∷ ts) (record a { rest = ts })
  behind jump (stop.Again e b) ts a = refl
  behind jump (stop.Each n left b) ts a = refl
  behind jump (stop.Limit t) ts a = refl
  behind jump (stop.Handles hs) ts a = refl
  behind jump (stop.Bound n) ts a = refl
  behind jump (stop.Holds l) ts a = refl

  abbrev start : OpenCall C → TaskNo → View → ℕ → At
  start call task view next = at task next (names_in call.slots) view

  pub stopped : (jump : Jump) (s : Stop C) (before mid after : OpenCall C) (wish : Wish) → from_mark (todos_in r before.todo) ≡ stop_in r s ∷ todos_in r mid.todo
      → IsSame before mid → IsStep r (λ (a : At). drop_mark jump (stop_in r s ∷ a.rest) a) mid after wish
      → (task : TaskNo) (view : View) (next : ℕ) → Moved r (drop_mark jump (todos_in r before.todo) (start before task view next)) after next wish
  stopped jump s before mid after wish e same h task view next =
      passed jump (todos_in r before.todo) (start before task view next)
      ∙ ap (λ (ts : List Todo). drop_mark jump ts (start before task view next)) e
      ∙ behind jump s (todos_in r mid.todo) (start before task view next)
      ∙ ap (λ (slots : Slots). drop_mark jump (stop_in r s ∷ todos_in r mid.todo)
      (record { scope = record { task = task; names = names_in slots; view = view }; rest = todos_in r mid.todo; next = next })) (sym same.slots)
      ∙ h task view next

  pub ended : (jump : Jump) (before mid after : OpenCall C) (wish : Wish) → from_mark (todos_in r before.todo) ≡ [] → todos_in r mid.todo ≡ [] → IsSame before mid
      → Ended r mid after wish On (move.Ends jump)
      → (task : TaskNo) (view : View) (next : ℕ) → Moved r (drop_mark jump (todos_in r before.todo) (start before task view next)) after next wish
  ended jump before mid after wish e n same d task view next =
      passed jump (todos_in r before.todo) (start before task view next)
      ∙ ap (λ (ts : List Todo). drop_mark jump ts (start before task view next)) e
      ∙ rw (d.frame, d.wish, n, same.slots) refl

  -- the first handler that catches the fault, and none
  pub found_handler : (hs : Handlers) (h : FirstHandler C) (fault : Fault) (before after : OpenCall C) (wish : Wish)
      → handler_in r (Some h) ≡ first_catching fault.kind hs
      → IsStep r (handle (view_caught h.caught.now) fault (r h.block).block) before after wish → IsStep r (find_handler hs fault) before after wish
  found_handler hs h fault before after wish e s task view next =
      let a : At = at_in r task view before next in
      found hs fault a ∙ ap (λ (o : Option (Caught × Block)). handled o fault a) (sym e) ∙ s task view next

  pub found_none : (hs : Handlers) (fault : Fault) (before after : OpenCall C) (wish : Wish) → None ≡ first_catching fault.kind hs
      → Ended r before after wish (Leaves (Throw fault)) move.Nothing → IsStep r (find_handler hs fault) before after wish
  found_none hs fault before after wish e d task view next =
      let a : At = at_in r task view before next in
      found hs fault a ∙ ap (λ (o : Option (Caught × Block)). handled o fault a) (sym e)
      ∙ ended_is r before after wish (Leaves (Throw fault)) move.Nothing task view next d
