-- A step of a task whose innermost call doesn't begin the rest is the same with the other rest.
use Rattle.std.proofs.Common.{◌≡◌, inl, inr, ℕ, suc, Bool, true, false, List, [], ◌∷◌, ◌++◌, length, refl, ap, sym, subst, ◌∙◌, Option}
use Rattle.std.specs.Prelude.{nat_lt}
use Rattle.py_value.specs.declared.value.Value.{Value}
use Rattle.py_evaluate.specs.Attribute.Look.{View}
use Rattle.await_tree.specs.declared.cause.Given.{Given}
use Rattle.test_meaning.specs.Body.BodyTrees.{Block, NoItem, Then, Function}
use Rattle.rig_model.specs.Task.Frame.{Todo, Do, Again, Each, Uses, Assigns, Writes, Returns, Times, Limited, Enters, Handles, Bound, Holds, Jump, Throw, Course, On, Has, Leaves, Frame, Task, items, entered, function_at}
use Rattle.rig_model.specs.Task.Moves.{Wish, Nothing, Asks, Calls, Ends, Move, At, moved}
use Rattle.rig_model.specs.Task.Leaving.{drop_mark}
use Rattle.rig_model.specs.Task.Step.{Next, given_to, at, step, step_on, step_with, frame_move, call, frame_limit, result_course, returned, settled, next_of, next}
use Rattle.rig_model.specs.Task.Cost.{course_cost, frames_cost, next_cost}
use Rattle.py_syntax.specs.declared.fault_kind.FaultKind.TheVariants.{RuntimeError}
use Rattle.py_value.specs.Answer.{plain_fault}
use Rattle.run_laws.specs.Remainder.Rests.{joined, continued, FunctionAlike, with_rest, FrameAlike, FramesAlike, TaskAlike, GoesOn, BeginsIn}
use Rattle.run_laws.proofs.RemainderLemmas.Walk.{deepened, first_deep, use_deep, handlers_deep, loop_deep, limit_deep}

-- ---- functions

items_joined : (a b : Block) → items (joined a b) ≡ items a ++ items b
items_joined NoItem b = refl
items_joined (Then i a) b = ap (λ (ts : List Todo). Do i ∷ ts) (items_joined a b)

module _ (one other : Block) where
  -- a call of either function
  pub entered_alike : (f g : Function) (args : List Value) → FunctionAlike one other f g → FrameAlike one other (entered f args) (entered g args)
  entered_alike f g args (inl e) = inl (ap (λ (h : Function). entered h args) e)
  entered_alike f g args (inr e) =
      let front : Frame = entered e.front args in
      inr (record { front = front; first = half one f e.first; second = half other g e.second })
    where
      half : (rest : Block) (h : Function) → h ≡ continued rest e.front → entered h args ≡ with_rest rest (entered e.front args)
      half rest h k = ap (λ (x : Function). entered x args) k ∙ ap (λ (ts : List Todo). record (entered e.front args) { todo = ts }) (items_joined e.front.body rest)

  -- ---- the step of a call

  -- the steps want the same, and leave calls that are alike
  record MoveAlike (x y : Move) : Type 0 where
    next : y.next ≡ x.next
    wish : y.wish ≡ x.wish
    frame : FrameAlike one other x.frame y.frame

  same_move : (m : Move) → MoveAlike m m
  same_move m = record { next = refl; wish = refl; frame = inl refl }

  rests_move : (m x y : Move) → x ≡ deepened (items one) m → y ≡ deepened (items other) m → MoveAlike x y
  rests_move m x y e f = record {
    next = ap (λ (z : Move). z.next) f ∙ sym (ap (λ (z : Move). z.next) e);
    wish = ap (λ (z : Move). z.wish) f ∙ sym (ap (λ (z : Move). z.wish) e);
    frame = inr (record { front = m.frame; first = ap (λ (z : Move). z.frame) e; second = ap (λ (z : Move). z.frame) f });
  }

  -- statements alone have no mark
  drop_items : (b : Block) (jump : Jump) (a : At) → drop_mark jump (items b) a ≡ moved (record a { rest = [] }) On (Ends jump)
  drop_items NoItem jump a = refl
  drop_items (Then i b) jump a = drop_items b jump a

  drop_alike : (jump : Jump) (todo : List Todo) (a : At) → MoveAlike (drop_mark jump (todo ++ items one) a) (drop_mark jump (todo ++ items other) a)
  drop_alike jump [] a =
      let m : Move = moved (record a { rest = [] }) On (Ends jump) in
      subst (λ (x : Move). MoveAlike x (drop_mark jump (items other) a)) (sym (drop_items one jump a))
      (subst (λ (y : Move). MoveAlike m y) (sym (drop_items other jump a)) (same_move m))
  drop_alike jump (Do i ∷ ts) a = drop_alike jump ts a
  drop_alike jump (Again e b ∷ ts) a =
      rests_move (drop_mark jump (Again e b ∷ ts) a) (drop_mark jump ((Again e b ∷ ts) ++ items one) a) (drop_mark jump ((Again e b ∷ ts) ++ items other) a)
      (loop_deep (items one) jump (Again e b) (record a { rest = ts })) (loop_deep (items other) jump (Again e b) (record a { rest = ts }))
  drop_alike jump (Each n left b ∷ ts) a =
      rests_move (drop_mark jump (Each n left b ∷ ts) a) (drop_mark jump ((Each n left b ∷ ts) ++ items one) a) (drop_mark jump ((Each n left b ∷ ts) ++ items other) a)
      (loop_deep (items one) jump (Each n left b) (record a { rest = ts })) (loop_deep (items other) jump (Each n left b) (record a { rest = ts }))
  drop_alike jump (Uses (Limited t) ∷ ts) a =
      rests_move (drop_mark jump (Uses (Limited t) ∷ ts) a) (drop_mark jump ((Uses (Limited t) ∷ ts) ++ items one) a) (drop_mark jump ((Uses (Limited t) ∷ ts) ++ items other) a)
      (limit_deep (items one) jump t (record a { rest = ts })) (limit_deep (items other) jump t (record a { rest = ts }))
  drop_alike jump (Uses (Assigns n) ∷ ts) a = drop_alike jump ts a
  drop_alike jump (Uses (Writes e) ∷ ts) a = drop_alike jump ts a
  drop_alike jump (Uses Returns ∷ ts) a = drop_alike jump ts a
  drop_alike jump (Uses (Times n) ∷ ts) a = drop_alike jump ts a
  drop_alike jump (Uses (Enters l b) ∷ ts) a = drop_alike jump ts a
  drop_alike jump (Handles hs ∷ ts) a =
      rests_move (drop_mark jump (Handles hs ∷ ts) a) (drop_mark jump ((Handles hs ∷ ts) ++ items one) a) (drop_mark jump ((Handles hs ∷ ts) ++ items other) a)
      (handlers_deep (items one) jump hs (record a { rest = ts })) (handlers_deep (items other) jump hs (record a { rest = ts }))
  drop_alike jump (Bound n ∷ ts) a =
      rests_move (drop_mark jump (Bound n ∷ ts) a) (drop_mark jump ((Bound n ∷ ts) ++ items one) a) (drop_mark jump ((Bound n ∷ ts) ++ items other) a) refl refl
  drop_alike jump (Holds l ∷ ts) a =
      rests_move (drop_mark jump (Holds l ∷ ts) a) (drop_mark jump ((Holds l ∷ ts) ++ items one) a) (drop_mark jump ((Holds l ∷ ts) ++ items other) a) refl refl

  on_alike : (t : Todo) (ts : List Todo) (a : At) → MoveAlike (step_on ((t ∷ ts) ++ items one) a) (step_on ((t ∷ ts) ++ items other) a)
  on_alike t ts a =
      let b : At = record a { rest = ts } in
      rests_move (step_on (t ∷ ts) a) (step_on ((t ∷ ts) ++ items one) a) (step_on ((t ∷ ts) ++ items other) a) (first_deep (items one) t b) (first_deep (items other) t b)

  with_alike : (v : Value) (t : Todo) (ts : List Todo) (a : At) → MoveAlike (step_with v ((t ∷ ts) ++ items one) a) (step_with v ((t ∷ ts) ++ items other) a)
  with_alike v (Uses u) ts a =
      let b : At = record a { rest = ts } in
      rests_move (step_with v (Uses u ∷ ts) a) (step_with v ((Uses u ∷ ts) ++ items one) a) (step_with v ((Uses u ∷ ts) ++ items other) a)
      (use_deep (items one) u v b) (use_deep (items other) u v b)
  with_alike v (Do i) ts a = on_alike (Do i) ts a
  with_alike v (Again e b) ts a = on_alike (Again e b) ts a
  with_alike v (Each n left b) ts a = on_alike (Each n left b) ts a
  with_alike v (Handles hs) ts a = on_alike (Handles hs) ts a
  with_alike v (Bound n) ts a = on_alike (Bound n) ts a
  with_alike v (Holds l) ts a = on_alike (Holds l) ts a

  -- it leaves blocks, or something stands in front of the rest
  step_alike : (course : Course) (todo : List Todo) (a : At) → (GoesOn course → todo ≡ [] → ⊥) → MoveAlike (step course (todo ++ items one) a) (step course (todo ++ items other) a)
  step_alike (Leaves jump) todo a h = drop_alike jump todo a
  step_alike On [] a h = absurd (h tt refl)
  step_alike (Has v) [] a h = absurd (h tt refl)
  step_alike On (t ∷ ts) a h = on_alike t ts a
  step_alike (Has v) (t ∷ ts) a h = with_alike v t ts a

  cost_alike : (course : Course) (todo : List Todo) → (GoesOn course → todo ≡ [] → ⊥) → course_cost course (todo ++ items other) ≡ course_cost course (todo ++ items one)
  cost_alike (Leaves jump) todo h = refl
  cost_alike On [] h = absurd (h tt refl)
  cost_alike (Has v) [] h = absurd (h tt refl)
  cost_alike On (t ∷ ts) h = refl
  cost_alike (Has v) (t ∷ ts) h = refl

  -- the step of a call and of one that is alike
  move_alike : (f f' : Frame) (g : Option Given) (task : Task) (view : View) → FrameAlike one other f f' → (GoesOn (given_to g f.course) → f.todo ≡ items one → ⊥)
      → MoveAlike (frame_move f g task view) (frame_move f' g task view)
  move_alike f f' g task view (inl e) h = subst (λ (x : Frame). MoveAlike (frame_move f g task view) (frame_move x g task view)) (sym e) (same_move (frame_move f g task view))
  move_alike f f' g task view (inr e) h =
      let course : Course = given_to g e.front.course in
      let a : At = at task.number task.triggers e.front.names view in
      let goes : GoesOn course → e.front.todo ≡ [] → ⊥ =
      λ on none. h (subst (λ (x : Frame). GoesOn (given_to g x.course)) (sym e.first) on)
      (ap (λ (x : Frame). x.todo) e.first ∙ ap (λ (ts : List Todo). ts ++ items one) none) in
      subst (λ (x : Frame). MoveAlike (frame_move x g task view) (frame_move f' g task view)) (sym e.first)
      (subst (λ (y : Frame). MoveAlike (frame_move (with_rest one e.front) g task view) (frame_move y g task view)) (sym e.second)
      (step_alike course e.front.todo a goes))

  -- ---- the step of a task

  frames_length : (fs gs : List Frame) → FramesAlike one other fs gs → length gs ≡ length fs
  frames_length [] [] h = refl
  frames_length [] (g ∷ gs) h = elim h [ ]
  frames_length (f ∷ fs) [] h = elim h [ ]
  frames_length (f ∷ fs) (g ∷ gs) h = ap suc (frames_length fs gs h.1)

  course_changed : (course : Course) (f g : Frame) → FrameAlike one other f g → FrameAlike one other (record f { course = course }) (record g { course = course })
  course_changed course f g (inl e) = inl (ap (λ (x : Frame). record x { course = course }) e)
  course_changed course f g (inr e) =
      inr (record {
        front = record e.front { course = course };
        first = ap (λ (x : Frame). record x { course = course }) e.first;
        second = ap (λ (x : Frame). record x { course = course }) e.second;
      })

  -- the tasks that are left are alike, and want the same
  pub record NextAlike (x y : Next) : Type 0 where
    pub task : TaskAlike one other x.task y.task
    pub turned : y.turned ≡ x.turned

  -- the same task with calls that are alike
  frames_changed : (t u : Task) (fs gs : List Frame) → TaskAlike one other t u → FramesAlike one other fs gs
      → TaskAlike one other (record t { frames = fs }) (record u { frames = gs })
  frames_changed t u fs gs h k = record { same = ap (λ (x : Task). record x { frames = gs }) h.same; frames = k }

  returned_alike : (jump : Jump) (fs gs : List Frame) (t u : Task) → FramesAlike one other fs gs → TaskAlike one other t u → NextAlike (returned jump fs t) (returned jump gs u)
  returned_alike jump [] [] t u h k = record { task = frames_changed t u [] [] k tt; turned = refl }
  returned_alike jump [] (g ∷ gs) t u h k = elim h [ ]
  returned_alike jump (f ∷ fs) [] t u h k = elim h [ ]
  returned_alike jump (f ∷ fs) (g ∷ gs) t u h k = record {
    task = frames_changed t u (record f { course = result_course jump } ∷ fs) (record g { course = result_course jump } ∷ gs) k (course_changed (result_course jump) f g h.0, h.1);
    turned = refl;
  }

  module _ (functions functions' : List Function) (known : (n : ℕ) → FunctionAlike one other (function_at functions n) (function_at functions' n)) where
    call_alike : (b : Bool) (n : ℕ) (args : List Value) (f g : Frame) (fs gs : List Frame) → FrameAlike one other f g → FramesAlike one other fs gs
        → FramesAlike one other (call b (function_at functions n) args f fs) (call b (function_at functions' n) args g gs)
    call_alike true n args f g fs gs h k = (entered_alike (function_at functions n) (function_at functions' n) args (known n), (h, k))
    call_alike false n args f g fs gs h k = (course_changed (Leaves (Throw (plain_fault RuntimeError))) f g h, k)

    settled_alike : (w : Wish) (f g : Frame) (fs gs : List Frame) (t u : Task) → FrameAlike one other f g → FramesAlike one other fs gs → TaskAlike one other t u
        → NextAlike (settled functions w f fs t) (settled functions' w g gs u)
    settled_alike Nothing f g fs gs t u h k l = record { task = frames_changed t u (f ∷ fs) (g ∷ gs) l (h, k); turned = refl }
    settled_alike (Asks x) f g fs gs t u h k l = record { task = frames_changed t u (f ∷ fs) (g ∷ gs) l (h, k); turned = refl }
    settled_alike (Calls n args) f g fs gs t u h k l =
        let b : Bool = nat_lt (suc (length fs)) frame_limit in
        let b' : Bool = nat_lt (suc (length gs)) frame_limit in
        let same : b' ≡ b = ap (λ (m : ℕ). nat_lt (suc m) frame_limit) (frames_length fs gs k) in
        let calls : FramesAlike one other (call b (function_at functions n) args f fs) (call b' (function_at functions' n) args g gs) =
        subst (λ (c : Bool). FramesAlike one other (call b (function_at functions n) args f fs) (call c (function_at functions' n) args g gs)) (sym same)
        (call_alike b n args f g fs gs h k) in
        record {
          task = frames_changed t u (call b (function_at functions n) args f fs) (call b' (function_at functions' n) args g gs) l calls;
          turned = refl;
        }
    settled_alike (Ends jump) f g fs gs t u h k l = returned_alike jump fs gs t u k l

    frames_alike : (fs gs : List Frame) (t u : Task) (g : Option Given) (view : View) → FramesAlike one other fs gs → TaskAlike one other t u → (BeginsIn one g fs → ⊥)
        → NextAlike (next_of functions fs t g view) (next_of functions' gs u g view)
    frames_alike [] [] t u g view h k b = record { task = k; turned = refl }
    frames_alike [] (y ∷ ys) t u g view h k b = elim h [ ]
    frames_alike (x ∷ xs) [] t u g view h k b = elim h [ ]
    frames_alike (x ∷ xs) (y ∷ ys) t u g view h k b =
        let m : Move = frame_move x g t view in
        let n : Move = frame_move y g t view in
        let moves : MoveAlike m n = move_alike x y g t view h.0 (λ on rest. b (on, rest)) in
        let t' : Task = record t { triggers = m.next } in
        let u' : Task = record u { triggers = n.next } in
        let tasks : TaskAlike one other t' u' = record {
          same = ap (λ (z : Task). record z { triggers = n.next }) k.same ∙ ap (λ (i : ℕ). record t { frames = u.frames; triggers = i }) moves.next;
          frames = k.frames;
        } in
        let wishes : NextAlike (settled functions m.wish m.frame xs t') (settled functions' m.wish n.frame ys u') =
        settled_alike m.wish m.frame n.frame xs ys t' u' moves.frame h.1 tasks in
        let own : NextAlike (settled functions m.wish m.frame xs t') (settled functions' n.wish n.frame ys u') =
        subst (λ (w : Wish). NextAlike (settled functions m.wish m.frame xs t') (settled functions' w n.frame ys u')) (sym moves.wish) wishes in
        let its : frame_move y g u view ≡ n = ap (λ (z : Task). frame_move y g z view) k.same in
        subst (λ (z : Move). NextAlike (settled functions m.wish m.frame xs t') (settled functions' z.wish z.frame ys (record u { triggers = z.next }))) (sym its) own

    -- a step of a task, and of one that is alike
    pub next_alike : (t u : Task) (g : Option Given) (view : View) → TaskAlike one other t u → (BeginsIn one g t.frames → ⊥)
        → NextAlike (next functions t g view) (next functions' u g view)
    next_alike t u g view k b = frames_alike t.frames u.frames t u g view k.frames k b

  frames_cost_alike : (fs gs : List Frame) (g : Option Given) → FramesAlike one other fs gs → (BeginsIn one g fs → ⊥) → frames_cost gs g ≡ frames_cost fs g
  frames_cost_alike [] [] g h b = refl
  frames_cost_alike [] (y ∷ ys) g h b = elim h [ ]
  frames_cost_alike (x ∷ xs) [] g h b = elim h [ ]
  frames_cost_alike (x ∷ xs) (y ∷ ys) g h b = by_frame x y h.0 (λ on rest. b (on, rest))
    where
      by_frame : (x y : Frame) → FrameAlike one other x y → (GoesOn (given_to g x.course) → x.todo ≡ items one → ⊥)
          → course_cost (given_to g y.course) y.todo ≡ course_cost (given_to g x.course) x.todo
      by_frame x y (inl e) b = ap (λ (f : Frame). course_cost (given_to g f.course) f.todo) e
      by_frame x y (inr e) b =
          let course : Course = given_to g e.front.course in
          let goes : GoesOn course → e.front.todo ≡ [] → ⊥ =
          λ on none. b (subst (λ (z : Frame). GoesOn (given_to g z.course)) (sym e.first) on)
          (ap (λ (z : Frame). z.todo) e.first ∙ ap (λ (ts : List Todo). ts ++ items one) none) in
          ap (λ (f : Frame). course_cost (given_to g f.course) f.todo) e.second ∙ cost_alike course e.front.todo goes
          ∙ sym (ap (λ (f : Frame). course_cost (given_to g f.course) f.todo) e.first)

  -- it costs the same
  pub next_cost_alike : (t u : Task) (g : Option Given) → TaskAlike one other t u → (BeginsIn one g t.frames → ⊥) → next_cost u g ≡ next_cost t g
  next_cost_alike t u g k b = frames_cost_alike t.frames u.frames g k.frames b
