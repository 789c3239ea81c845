-- Steps of a run keep what is known of its configuration.
use Rattle.std.proofs.Common.{ℕ, List, [], ◌∷◌, Option, None, Some, Ok, Err, refl, arith}
use Rattle.std.specs.Prelude.{IfOk}
use Rattle.py_syntax.specs.declared.constant.Const.{Const}
use Rattle.py_value.specs.Answer.{Answer}
use Rattle.py_value.specs.declared.value.Value.{Value}
use Rattle.py_value.specs.declared.value.Value.TheVariants.{Place as TopPlace}
use Rattle.py_evaluate.specs.Attribute.Look.{View}
use Rattle.py_evaluate.specs.Attribute.Knows.{Knows, KnowsAll}
use Rattle.py_evaluate.specs.Eval.{constant_value}
use Rattle.test_meaning.specs.Body.BodyTrees.{Case, Limit}
use Rattle.rig_model.specs.Task.Frame.{function_at}
use Rattle.rig_model.proofs.TaskLemmas.EvalKnown.{constant_known}
use Rattle.rig_model.proofs.TaskLemmas.PartsKnown.{then_ok}
use Rattle.rig_model.specs.declared.run.outcome.Outcome.{Outcome}
use Rattle.rig_model.specs.Run.Rig.{Rig, Setup, view_of}
use Rattle.rig_model.specs.Run.Effect.{with_new_task}
use Rattle.rig_model.specs.Run.Case.{values_of, limit_steps, with_deadline, with_limit, with_test, test_begun, ended}
use Rattle.rig_model.specs.Run.Verdict.{reason_of}
use Rattle.rig_model.specs.Run.Known.{IsKnown, AreAsWide}
use Rattle.rig_model.specs.Run.Run.{Run, Place, Begins, Runs, Waits, Over, skipped, unskipped, with_skips, begun, planned, judged, step_in, step_at, step}
use Rattle.rig_model.proofs.RunLemmas.Wider.{node_wider, design_wider}
use Rattle.rig_model.proofs.RunLemmas.Known.{known_by, before, new_parts, new_grows, view_wider, step_is_known}

-- ---- the begin of a test

values_known : (view : View) (cs : List Const) → IfOk (values_of cs) (KnowsAll view)
values_known view [] = tt
values_known view (c ∷ cs) =
    then_ok (Knows view) (KnowsAll view) (constant_value c) _ (constant_known view c) (λ v k.
    then_ok (KnowsAll view) (KnowsAll view) (values_of cs) _ (values_known view cs) (λ vs l. (k, l)))

-- a limit changes nothing of what is known
deadline_known : (setup : Setup) (r : Answer ℕ) (c : Rig) → IsKnown setup c → IsKnown setup (with_deadline r c)
deadline_known setup (Ok steps) c h = record { design = h.design; top = h.top; sound = h.sound; parts = h.parts }
deadline_known setup (Err kind) c h = record { design = h.design; top = h.top; sound = h.sound; parts = h.parts }

limit_known : (setup : Setup) (limit : Option Limit) (c : Rig) → IsKnown setup c → IsKnown setup (with_limit setup.flat.step_fs limit c)
limit_known setup None c h = h
limit_known setup (Some limit) c h = deadline_known setup (limit_steps setup.flat.step_fs limit) c h

-- the test's own task
own_known : (setup : Setup) (n : ℕ) (values : List Value) (c : Rig) → IsKnown setup c
    → ((view : View) → KnowsAll view values) → IsKnown setup (with_new_task (function_at setup.functions n) (TopPlace 0 ∷ values) c)
own_known setup n values c h k =
    let d : Rig = with_new_task (function_at setup.functions n) (TopPlace 0 ∷ values) c in
    let g = new_grows (function_at setup.functions n) (TopPlace 0 ∷ values) c in
    known_by setup c d h refl g
    (new_parts setup.functions (view_of setup d) n (TopPlace 0 ∷ values) c h.sound
    (node_wider (view_of setup c) (view_of setup d) (view_wider setup c d refl g).design 0 h.top, k (view_of setup d)) (before setup c d h refl g))

test_known : (setup : Setup) (case : Case) (r : Answer (List Value)) (c : Rig) → ((view : View) → IfOk r (KnowsAll view)) → IsKnown setup c → IsKnown setup (with_test setup case r c)
test_known setup case (Ok values) c k h =
    limit_known setup case.time (with_new_task (function_at setup.functions case.function) (TopPlace 0 ∷ values) c) (own_known setup case.function values c h k)
test_known setup case (Err kind) c k h = record { design = h.design; top = h.top; sound = h.sound; parts = h.parts }

begun_known : (setup : Setup) (case : Case) (c : Rig) → IsKnown setup c → IsKnown setup (test_begun setup case c)
begun_known setup case c h =
    let k : IsKnown setup (with_test setup case (values_of case.arguments) c) =
    test_known setup case (values_of case.arguments) c (λ view. values_known view case.arguments) h in
    record { design = k.design; top = k.top; sound = k.sound; parts = k.parts }

-- ---- its end

ended_known : (setup : Setup) (c : Rig) → IsKnown setup c → IsKnown setup (ended c)
ended_known setup c h = record {
  design = design_wider (view_of setup c) (view_of setup (ended c)) (record { places = refl; nodes = refl; widths = refl }) h.design;
  top = node_wider (view_of setup c) (view_of setup (ended c)) (record { places = refl; nodes = refl; widths = refl }) 0 h.top;
  sound = h.sound;
  parts = record { tasks_known = tt; running_known = tt; ready_known = tt; waiting_known = tt; endings_known = tt; staged_known = tt; queues_known = tt; queues_few = omega arith };
}

-- ---- steps

rig_begun : (setup : Setup) (cases : List Case) (c : Run) → IsKnown setup c.rig → IsKnown setup (begun setup cases c).rig
rig_begun setup [] c h = h
rig_begun setup (case ∷ cases) c h = begun_known setup case c.rig h

rig_planned : (setup : Setup) (cases : List Case) (c : Run) → IsKnown setup c.rig → IsKnown setup (planned cases c).rig
rig_planned setup [] c h = h
rig_planned setup (case ∷ cases) c h = record { design = h.design; top = h.top; sound = h.sound; parts = h.parts }

rig_in : (setup : Setup) (case : Case) (cases : List Case) (o : Option Outcome) (c : Run) → IsKnown setup c.rig → AreAsWide c.rig (step_in setup case cases o c).rig
    → IsKnown setup (step_in setup case cases o c).rig
rig_in setup case cases (Some outcome) c h w =
    rig_planned setup (unskipped cases) (with_skips (skipped cases) (judged (reason_of setup.flat case outcome) case c)) (ended_known setup c.rig h)
rig_in setup case cases None c h w = step_is_known setup c.rig h w

rig_at : (setup : Setup) (p : Place) (c : Run) → IsKnown setup c.rig → AreAsWide c.rig (step_at setup p c).rig → IsKnown setup (step_at setup p c).rig
rig_at setup (Begins cases) c h w = rig_begun setup (unskipped cases) (with_skips (skipped cases) c) h
rig_at setup (Runs case cases) c h w = rig_in setup case cases c.rig.outcome c h w
rig_at setup (Waits cases) c h w = step_is_known setup c.rig h w
rig_at setup Over c h w = h

pub run_step_known : (setup : Setup) (c : Run) → IsKnown setup c.rig → AreAsWide c.rig (step setup c).rig → IsKnown setup (step setup c).rig
run_step_known setup c h w = rig_at setup c.place c h w
