-- How much a task has still to do that costs nothing, and that a free step leaves less of it.
use Rattle.std.proofs.Common.{◌≡◌, ℕ, ◌+◌, ◌≤◌, ◌<◌, ◌⊎◌, Bool, true, false, List, [], ◌∷◌, Option, None, Some, refl, ap, sym, ◌∙◌, arith, inl, inr}
use Rattle.py_syntax.specs.declared.fault_kind.FaultKind.TheVariants.{Exception}
use Rattle.py_value.specs.Answer.{plain_fault}
use Rattle.py_value.specs.declared.value.Value.TheVariants.{Absent}
use Rattle.py_evaluate.specs.Attribute.Look.{View}
use Rattle.test_meaning.specs.Body.BodyTrees.{Function}
use Rattle.await_tree.specs.declared.cause.Given.{Given}
use Rattle.await_tree.specs.declared.cause.Given.TheVariants as given
use Rattle.rig_model.specs.Task.Frame.{Course, On, Has, Leaves, Frame, Task}
use Rattle.rig_model.specs.Task.Step.{Next, given_to, next, next_of}
use Rattle.rig_model.specs.Task.Cost.{next_cost}
use Rattle.rig_model.specs.Task.Weight.{course_weight, frames_weight, frames_given}
use Rattle.rig_model.specs.declared.task.task.Turned.{Turned}
use Rattle.rig_model.specs.declared.task.task.Turned.TheVariants as turned
use Rattle.rig_model.proofs.TaskLemmas.Weights.{free_step_falls, free_wish_falls}

-- the worst that a task may be given
abbrev worst : Option Given
worst = Some (given.Fault (plain_fault Exception))

abbrev full : List Frame → ℕ
full frames = frames_weight (frames_given worst frames)

-- how many free steps a task may do at most, whatever it is given next
abbrev pub weight : Task → ℕ
weight task = full task.frames + full task.frames + frames_weight task.frames

-- one more where the task is given something
abbrev pub given_count : Option Given → ℕ
given_count None = 0
given_count (Some g) = 1

-- a task that wants this goes on
abbrev pub lasts : Turned → Bool
lasts (turned.Done v) = false
lasts (turned.Raised fault) = false
lasts turned.Spent = false
lasts _ = true

course_small : (course : Course) → course_weight course ≤ 1
course_small On = omega arith
course_small (Has v) = omega arith
course_small (Leaves jump) = omega arith

given_small : (g : Option Given) (course : Course) → course_weight (given_to g course) ≤ 1
given_small g course = course_small (given_to g course)

full_most : (fs : List Frame) → full fs ≤ frames_weight fs + 1
full_most [] = omega arith
full_most (f ∷ fs) = omega arith

full_least : (fs : List Frame) → frames_weight fs ≤ full fs
full_least [] = omega arith
full_least (f ∷ fs) = omega (arith, course_small f.course)

given_most : (g : Option Given) (fs : List Frame) → frames_weight (frames_given g fs) ≤ full fs
given_most g [] = omega arith
given_most g (f ∷ fs) = omega (arith, given_small g f.course)

given_none : (fs : List Frame) → frames_weight (frames_given None fs) ≡ frames_weight fs
given_none [] = refl
given_none (f ∷ fs) = refl

-- ---- a step that wants nothing

by_given : (g : Option Given) (task : Task) (after : Task) → frames_weight after.frames < frames_weight (frames_given g task.frames)
    → weight after + 1 ≤ weight task + given_count g
by_given None task after h =
    let a : frames_weight (frames_given None task.frames) ≡ frames_weight task.frames = given_none task.frames in
    let b : full after.frames ≤ frames_weight after.frames + 1 = full_most after.frames in
    let c : frames_weight task.frames ≤ full task.frames = full_least task.frames in
    omega arith
by_given (Some g) task after h =
    let a : frames_weight (frames_given (Some g) task.frames) ≤ full task.frames = given_most (Some g) task.frames in
    let b : full after.frames ≤ frames_weight after.frames + 1 = full_most after.frames in
    let c : full task.frames ≤ frames_weight task.frames + 1 = full_most task.frames in
    omega arith

pub nothing_falls : (functions : List Function) (task : Task) (g : Option Given) (view : View) → next_cost task g ≡ 0
    → (next functions task g view).turned ≡ None → weight (next functions task g view).task + 1 ≤ weight task + given_count g
nothing_falls functions task g view c h = by_given g task (next functions task g view).task (free_step_falls functions task g view c h)

-- ---- a step that wants something

-- it leaves less by two, or it ends the task and leaves as much
abbrev Wish_falls : Task → Task → Turned → Type 0
Wish_falls task after t = (weight after + 2 ≤ weight task) ⊎ ((lasts t ≡ false) × (weight after ≡ weight task))

abbrev lasts_in : Option Turned → Bool
lasts_in None = false
lasts_in (Some t) = lasts t

by_frames : (functions : List Function) (task : Task) (g : Option Given) (view : View) (t : Turned) (frames : List Frame) → task.frames ≡ frames → next_cost task g ≡ 0
    → (next functions task g view).turned ≡ Some t → Wish_falls task (next functions task g view).task t
by_frames functions task g view t [] e c h =
    let n : next functions task g view ≡ record { task = task; turned = Some (turned.Done Absent) } =
    ap (λ (fs : List Frame). next_of functions fs task g view) e in
    inr (ap lasts_in (sym h) ∙ ap (λ (m : Next). lasts_in m.turned) n, ap (λ (m : Next). weight m.task) n)
by_frames functions task g view t (f ∷ fs) e c h =
    let after : Task = (next functions task g view).task in
    let some : task.frames ≡ [] → ⊥ = λ n. cons_nil (sym e ∙ n) in
    let a : frames_weight (frames_given worst after.frames) < frames_weight (frames_given g task.frames) = free_wish_falls functions task g view t worst c some h in
    let b : frames_weight (frames_given g task.frames) ≤ full task.frames = given_most g task.frames in
    let d : frames_weight after.frames ≤ full after.frames = full_least after.frames in
    let k : full task.frames ≤ frames_weight task.frames + 1 = full_most task.frames in
    inl (omega arith)
  where
    cons_nil : f ∷ fs ≡ [] → ⊥
    cons_nil n = cc

pub wish_falls : (functions : List Function) (task : Task) (g : Option Given) (view : View) (t : Turned) → next_cost task g ≡ 0
    → (next functions task g view).turned ≡ Some t → Wish_falls task (next functions task g view).task t
wish_falls functions task g view t c h = by_frames functions task g view t task.frames refl c h
