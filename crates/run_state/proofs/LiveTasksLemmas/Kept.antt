-- Live tasks after a start, a poll and an end.
use Rattle.std.proofs.Common.{Bool, is_some, ◌≡◌, ℕ, ◌+◌, ◌-◌, ◌<◌, true, false, List, [], ◌∷◌, ◌++◌, length, set, get_or, slice_get, Option, None, Some, IsSome, IfSome, refl, ap, sym, subst, arith, ◌∙◌}
use Rattle.std.proofs.lemmas.List.{length-set, length-append}
use Rattle.std.specs.Option.{option_map}
use Rattle.std.proofs.lemmas.Option.{slice_get_read, slice_get_within, get_or_from_slice_get}
use Rattle.py_evaluate.specs.Attribute.Look.{View}
use Rattle.py_value.specs.declared.trigger.TaskNo.{TaskNo}
use Rattle.test_meaning.specs.Body.BodyTrees.{Function}
use Rattle.rig_model.specs.Task.Frame.{Task}
use Rattle.rig_model.specs.declared.task.task.Turned.{Turned}
use Rattle.await_tree.specs.declared.cause.Given.{Given}
use Rattle.run_state.specs.LiveTasks.Flows.{Meanings, flow_at, IsLeftOf, PollsTo}
use Rattle.await_tree.specs.EndedTasks.Limits.{start_limit}
use Rattle.run_state.specs.LiveTasks.Placed.{ArePlaced, IsWhole, IsLeft, Polls}
use Rattle.run_state.specs.LiveTasks.Tasks.{AreOf, tasks_of, task_at, stored, without, Leaves, LeavesTask, PollsTask}
use Rattle.run_state.proofs.LiveTasksLemmas.Files.{of_more, of_stored, of_emptied}
use Rattle.run_state.proofs.LiveTasksLemmas.Numbered.{FoundAt, place_of, HasPlace, place_at, task_of, tasks_more, placed_more}

some_is : {A : Type 0} (o : Option A) (P : Type 0) → IsSome o → ((x : A) → o ≡ Some x → P) → P
some_is None P h k = let z : false ≡ true = h in absurd cc
some_is (Some x) P h k = k x refl

some_mapped : {A B : Type 0} (f : A → B) (o : Option A) → is_some (option_map f o) ≡ is_some o
some_mapped f None = refl
some_mapped f (Some x) = refl

-- ---- the task of a number, and the flow at it

module _ {F : Type 0} (task : F → Task) (ps : List (Option F)) (count : ℕ) (v : List (Option F)) (number : TaskNo) (is : ps ≡ v) (whole : IsWhole task ps count) where
  pub flow_is : task_at number (tasks_of task v) ≡ option_map task (flow_at number v)
  flow_is =
      subst (λ (fs : List (Option F)). task_at number (tasks_of task fs) ≡ option_map task (flow_at number fs)) is
      (task_of task 0 number.0 ps number (omega arith) whole.placed)

  pub live_is : (b : Bool) (x : Option F) → number.0 < length v → x ≡ get_or ps number.0 x → b ≡ is_some x → b ≡ is_some (task_at number (tasks_of task v))
  live_is b x h e k =
      let long : number.0 < length ps = omega (arith, ap (λ (fs : List (Option F)). length fs) is) in
      let f : flow_at number ps ≡ x = get_or_from_slice_get ps number.0 x None (slice_get_read ps (length ps) number.0 x refl long e) in
      k ∙ ap (λ (o : Option F). is_some o) (sym f) ∙ ap (λ (fs : List (Option F)). is_some (flow_at number fs)) is
      ∙ sym (some_mapped task (flow_at number v)) ∙ ap (λ (o : Option Task). is_some o) (sym flow_is)

-- ---- a flow before and after

record LeftBy {F : Type 0} (m : Meanings F) (flow : F) (after : Option F) : Type 0 where
  rest : F
  is : after ≡ Some rest
  left : IsLeftOf m flow rest

left_by : {F : Type 0} (m : Meanings F) (before after : Option F) (flow : F) → before ≡ Some flow → IsLeft m before after → LeftBy m flow after
left_by m None after flow e h = absurd cc
left_by m (Some x) None flow e h = absurd h
left_by {F} m (Some x) (Some r) flow e h = let q : x ≡ flow = cc in record { rest = r; is = refl; left = subst (λ (y : F). IsLeftOf m y r) q h }

record PolledBy {F : Type 0} (m : Meanings F) (view : View) (fuel : ℕ) (flow : F) (given : Given) (turned : Turned) (fuel' : ℕ) (after : Option F) : Type 0 where
  rest : F
  is : after ≡ Some rest
  polls : PollsTo m view fuel flow given turned fuel' rest

polled_by : {F : Type 0} (m : Meanings F) (view : View) (fuel : ℕ) (given : Given) (turned : Turned) (fuel' : ℕ) (before after : Option F) (flow : F)
    → before ≡ Some flow → Polls m view fuel before given turned fuel' after → PolledBy m view fuel flow given turned fuel' after
polled_by m view fuel given turned fuel' None after flow e h = absurd cc
polled_by m view fuel given turned fuel' (Some x) None flow e h = absurd h
polled_by {F} m view fuel given turned fuel' (Some x) (Some r) flow e h =
    let q : x ≡ flow = cc in record { rest = r; is = refl; polls = subst (λ (y : F). PollsTo m view fuel y given turned fuel' r) q h }

-- ---- the live task of a number

module _ {F : Type 0} (m : Meanings F) (ps : List (Option F)) (count : ℕ) (v : List (Option F)) (number : TaskNo) (is : ps ≡ v)
    (whole : IsWhole m.task ps count) (lives : IsSome (task_at number (tasks_of m.task v))) where
  record Stands : Type 0 where
    flow : F
    at : slice_get ps number.0 ≡ Some (Some flow)
    place : HasPlace m.task 0 number.0 ps number flow

  stands : Stands
  stands =
      let f : IsSome (task_at number (tasks_of m.task ps)) = subst (λ (fs : List (Option F)). IsSome (task_at number (tasks_of m.task fs))) (sym is) lives in
      some_is (task_at number (tasks_of m.task ps)) Stands f (λ t e.
      let p : FoundAt m.task ps number.0 t = place_of m.task 0 number.0 ps number t (omega arith) whole.placed e in
      record { flow = p.l; at = p.at; place = place_at m.task 0 number.0 ps number p.l (omega arith) whole.placed p.at })

  pub inside : number.0 < length ps
  inside = slice_get_within ps number.0 (Some stands.flow) stands.at

  here : (x : Option F) → x ≡ get_or ps number.0 x → x ≡ Some stands.flow
  here x e = let a : slice_get ps number.0 ≡ Some x = slice_get_read ps (length ps) number.0 x refl inside e in let b = stands.at in cc

  found : flow_at number v ≡ Some stands.flow
  found = ap (λ (fs : List (Option F)). flow_at number fs) (sym is) ∙ get_or_from_slice_get ps number.0 (Some stands.flow) None stands.at

  pub lives_here : (x : Option F) → x ≡ get_or ps number.0 x → IsSome x
  lives_here x e = subst (λ (o : Option F). IsSome o) (sym (here x e)) refl

  pub known_here : (P : F → Type 0) (x : Option F) → x ≡ get_or ps number.0 x → IfSome (flow_at number v) P → IfSome x P
  known_here P x e h = subst (λ (o : Option F). IfSome o P) (found ∙ sym (here x e)) h

  own : (r : F) → IsLeftOf m stands.flow r → (m.task r).number ≡ number
  own r h = let make : ℕ → TaskNo = λ n. record { 0 = n } in h.number ∙ ap make stands.place.own

  leaves : (r : F) → IsLeftOf m stands.flow r → Leaves m v number stands.flow r (set ps number.0 (Some r))
  leaves r h =
      record {
        found = found;
        left = h;
        own = own r h;
        after_is = ap (λ (fs : List (Option F)). set fs number.0 (Some r)) is;
        task_is = ap (λ (fs : List (Option F)). task_at number (tasks_of m.task fs)) (sym is) ∙ stands.place.found;
        tasks_are = stands.place.stores r ∙ ap (λ (fs : List (Option F)). stored number (m.task r) (tasks_of m.task fs)) is;
      }

  whole_by : (y : Option F) → LeftBy m stands.flow y → IsWhole m.task (set ps number.0 y) count
  whole_by y b =
      subst (λ (o : Option F). IsWhole m.task (set ps number.0 o) count) (sym b.is) (record {
        placed = stands.place.placed b.rest (ap (λ (n : TaskNo). n.0) (own b.rest b.left));
        counted = whole.counted ∙ sym (stands.place.as_many b.rest);
        limit = omega (arith, whole.limit, length-set ps number.0 (Some b.rest));
      })

  pub stays_whole : (x y : Option F) → x ≡ get_or ps number.0 x → IsLeft m x y → IsWhole m.task (set ps number.0 y) count
  stays_whole x y e h = whole_by y (left_by m x y stands.flow (here x e) h)

  leaves_by : (y : Option F) → LeftBy m stands.flow y → LeavesTask m v number (set ps number.0 y)
  leaves_by y b =
      subst (λ (o : Option F). LeavesTask m v number (set ps number.0 o)) (sym b.is) (record {
        flow = stands.flow;
        rest = b.rest;
        leaves = leaves b.rest b.left;
      })

  pub leaves_task : (x y : Option F) → x ≡ get_or ps number.0 x → IsLeft m x y → LeavesTask m v number (set ps number.0 y)
  leaves_task x y e h = leaves_by y (left_by m x y stands.flow (here x e) h)

  of_by : (file : List Function) (y : Option F) → LeftBy m stands.flow y → AreOf m.functions file v → AreOf m.functions file (set ps number.0 y)
  of_by file y b h =
      subst (λ (o : Option F). AreOf m.functions file (set ps number.0 o)) (sym b.is)
      (of_stored m.functions file ps number.0 stands.flow b.rest stands.at b.left.functions (subst (λ (fs : List (Option F)). AreOf m.functions file fs) (sym is) h))

  pub stays_of : (x y : Option F) → x ≡ get_or ps number.0 x → IsLeft m x y → (file : List Function) → AreOf m.functions file v
      → AreOf m.functions file (set ps number.0 y)
  stays_of x y e k file h = of_by file y (left_by m x y stands.flow (here x e) k) h

  polls_by : (view : View) (fuel : ℕ) (given : Given) (turned : Turned) (fuel' : ℕ) (y : Option F) → PolledBy m view fuel stands.flow given turned fuel' y
      → PollsTask m view fuel v number given turned fuel' (set ps number.0 y)
  polls_by view fuel given turned fuel' y b =
      subst (λ (o : Option F). PollsTask m view fuel v number given turned fuel' (set ps number.0 o)) (sym b.is) (record {
        flow = stands.flow;
        rest = b.rest;
        leaves = leaves b.rest b.polls.left;
        polls = b.polls;
      })

  pub polls_task : (view : View) (fuel : ℕ) (given : Given) (turned : Turned) (fuel' : ℕ) (x y : Option F) → x ≡ get_or ps number.0 x
      → Polls m view fuel x given turned fuel' y → PollsTask m view fuel v number given turned fuel' (set ps number.0 y)
  polls_task view fuel given turned fuel' x y e h =
      polls_by view fuel given turned fuel' y (polled_by m view fuel given turned fuel' x y stands.flow (here x e) h)

  -- ---- its end

  pub ends_whole : (y : Option F) → y ≡ None → IsWhole m.task (set ps number.0 y) (count - 1)
  ends_whole y e =
      subst (λ (o : Option F). IsWhole m.task (set ps number.0 o) (count - 1)) (sym e) (record {
        placed = stands.place.emptied;
        counted = omega (arith, whole.counted, stands.place.one_less);
        limit = omega (arith, whole.limit, length-set ps number.0 None);
      })

  pub ends : (y : Option F) → y ≡ None → set ps number.0 y ≡ set v number.0 None
  ends y e = ap (λ (o : Option F). set ps number.0 o) e ∙ ap (λ (fs : List (Option F)). set fs number.0 None) is

  pub ends_tasks : (y : Option F) → y ≡ None → tasks_of m.task (set ps number.0 y) ≡ without number (tasks_of m.task v)
  ends_tasks y e =
      ap (λ (o : Option F). tasks_of m.task (set ps number.0 o)) e ∙ stands.place.drops ∙ ap (λ (fs : List (Option F)). without number (tasks_of m.task fs)) is

  pub ends_of : (y : Option F) → y ≡ None → (file : List Function) → AreOf m.functions file v → AreOf m.functions file (set ps number.0 y)
  ends_of y e file h =
      subst (λ (o : Option F). AreOf m.functions file (set ps number.0 o)) (sym e)
      (of_emptied m.functions file ps number.0 (subst (λ (fs : List (Option F)). AreOf m.functions file fs) (sym is) h))

-- ---- a start

module _ {F : Type 0} (task : F → Task) (ps new : List (Option F)) (count : ℕ) (v : List (Option F)) (p : Option F) (flow : F) (is : ps ≡ v)
    (whole : IsWhole task ps count) (items : new ≡ ps ++ p ∷ []) (placed : p ≡ Some flow) (number : (task flow).number ≡ record { 0 = length v })
    (room : length v < start_limit) where
  behind : new ≡ ps ++ Some flow ∷ []
  behind = items ∙ ap (λ (o : Option F). ps ++ o ∷ []) placed

  long : length ps ≡ length v
  long = ap (λ (fs : List (Option F)). length fs) is

  longer : length new ≡ length ps + 1
  longer = ap (λ (fs : List (Option F)). length fs) behind ∙ length-append ps (Some flow ∷ [])

  tasks_longer : tasks_of task new ≡ tasks_of task ps ++ task flow ∷ []
  tasks_longer = ap (λ (fs : List (Option F)). tasks_of task fs) behind ∙ tasks_more task ps flow

  pub starts_whole : IsWhole task new (count + 1)
  starts_whole =
      record {
        placed = subst (λ (fs : List (Option F)). ArePlaced task 0 fs) (sym behind)
            (placed_more task 0 ps flow whole.placed (omega (arith, ap (λ (n : TaskNo). n.0) number, long)));
        counted = omega (arith, whole.counted, ap (λ (ts : List Task). length ts) tasks_longer, length-append (tasks_of task ps) (task flow ∷ []));
        limit = omega (arith, longer, long, room);
      }

  pub starts : new ≡ v ++ Some flow ∷ []
  starts = behind ∙ ap (λ (fs : List (Option F)). fs ++ Some flow ∷ []) is

  pub starts_tasks : tasks_of task new ≡ tasks_of task v ++ task flow ∷ []
  starts_tasks = tasks_longer ∙ ap (λ (fs : List (Option F)). tasks_of task fs ++ task flow ∷ []) is

  pub starts_of : (functions : F → List Function) (file : List Function) → functions flow ≡ file → AreOf functions file v → AreOf functions file new
  starts_of functions file e h = subst (λ (fs : List (Option F)). AreOf functions file fs) (sym starts) (of_more functions file v flow e h)
