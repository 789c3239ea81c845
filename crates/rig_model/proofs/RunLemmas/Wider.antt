-- What a view knows, another knows too that is of the same design, and in which as many events, locks, queues and tasks were made, or more.
use Rattle.std.proofs.Common.{◌≡◌, ℕ, zero, suc, ◌≤◌, List, [], ◌∷◌, length, Option, None, Some, refl, ap, sym, ◌∙◌, subst, arith}
use Rattle.std.specs.Prelude.{slice_index_or, IfSome}
use Rattle.four_value.specs.declared.Digit.{Digit}
use Rattle.gpi.specs.Terms.{widths_of}
use Rattle.gpi.specs.declared.design.Spot.{Spot}
use Rattle.gpi.specs.declared.design.Spot.TheVariants as spot
use Rattle.gpi.specs.declared.types.SigId.{SigId}
use Rattle.gpi.specs.declared.types.Write.{Write}
use Rattle.gpi.specs.declared.types.Write.TheVariants as write
use Rattle.gpi.specs.declared.types.Key.{Key}
use Rattle.gpi.specs.declared.types.Key.TheVariants as key
use Rattle.py_value.specs.Trigger.{Trig, Made, Form, Trigs, NoTrig, Then}
use Rattle.py_value.specs.Trigger as trigger
use Rattle.py_value.specs.Places.{Places}
use Rattle.py_value.specs.declared.value.Value.{Value}
use Rattle.py_value.specs.declared.value.Value.TheVariants as value
use Rattle.py_evaluate.specs.Attribute.Look.{View, Names, width, child, local, spot_value}
use Rattle.py_evaluate.specs.Attribute.Knows.{KnowsSignal, KnowsNode, KnowsWords, KnowsClock, KnowsTrig, KnowsForm, KnowsTrigs, Knows, KnowsAll, KnowsNames, KnowsDesign}
use Rattle.await_tree.specs.declared.cause.Awaited.{Awaited}
use Rattle.await_tree.specs.declared.cause.Awaited.TheVariants as awaited
use Rattle.await_tree.specs.declared.cause.Given.{Given}
use Rattle.await_tree.specs.declared.cause.Given.TheVariants as given
use Rattle.await_tree.specs.declared.finish.Finish.{Finish}
use Rattle.await_tree.specs.declared.finish.Finish.TheVariants.{Reached, Ended, TimedOut}
use Rattle.await_tree.specs.Tree as tree
use Rattle.await_tree.specs.Tree.{Tree, Trees}
use Rattle.task_queue.specs.Queues.{TaskQueue}
use Rattle.run_view.specs.declared.signal_port.staged.Staged.{Staged}
use Rattle.test_meaning.specs.Body.BodyTrees.{Function}
use Rattle.rig_model.specs.Task.Frame.{Use, Assigns, Writes, Returns, Times, Limited, Enters, Todo, Do, Again, Each, Uses, Handles, Bound, Holds, Jump, Throw, Return, Break, Continue, Course, On, Has, Leaves, Frame, Task}
use Rattle.rig_model.specs.Task.Known.{KnowsUse, KnowsTodo, KnowsTodos, KnowsJump, KnowsCourse, KnowsFrames, KnowsWhole, KnowsGiven, HasDigits, KnowsWrite, KnowsTurned}
use Rattle.rig_model.specs.declared.task.task.Turned.{Turned}
use Rattle.rig_model.specs.declared.task.task.Turned.TheVariants as turned
use Rattle.await_tree.specs.declared.wait_list.ready.Entry.{Entry}
use Rattle.await_tree.specs.WaitList.Waiting.{Waiting}
use Rattle.await_tree.specs.declared.ended_tasks.ending.Ending.{Ending}
use Rattle.await_tree.specs.declared.ended_tasks.ending.Ending.TheVariants.{Returned, Failed, Killed}
use Rattle.rig_model.specs.Run.Rig.{Rig, Running}
use Rattle.rig_model.specs.Run.Known.{KnowsTrigger, KnowsKey, KnowsAwaited, KnowsFinish, KnowsTree, KnowsTrees, KnowsTasks, KnowsRunning, KnowsReady, KnowsWaiting, KnowsEnding, KnowsEndings, KnowsStaged, KnowsQueue, KnowsQueues, KnowsParts}

-- the views are of the same design, and of signals of the same widths
pub record SameDesign (v w : View) : Type 0 where
  pub places : w.places ≡ v.places
  pub nodes : w.nodes ≡ v.nodes
  pub widths : widths_of w.signals ≡ widths_of v.signals

pub record Wider (v w : View) : Type 0 where
  pub design : SameDesign v w
  pub events : length v.events ≤ length w.events
  pub locks : length v.locks ≤ length w.locks
  pub ended : length v.ended ≤ length w.ended
  pub queues : length v.queues ≤ length w.queues

-- ---- the design

widths_length : (m : List (List Digit)) → length (widths_of m) ≡ length m
widths_length [] = refl
widths_length (ds ∷ m) = ap suc (widths_length m)

width_is : (m : List (List Digit)) (n : ℕ) → length (slice_index_or m n []) ≡ slice_index_or (widths_of m) n 0
width_is [] n = refl
width_is (ds ∷ m) zero = refl
width_is (ds ∷ m) (suc n) = width_is m n

module _ (v w : View) (s : SameDesign v w) where
  signals_same : length w.signals ≡ length v.signals
  signals_same = sym (widths_length w.signals) ∙ ap length s.widths ∙ widths_length v.signals

  paths_same : length w.places.signals ≡ length v.places.signals
  paths_same = ap (λ (p : Places). length p.signals) s.places

  nodes_same : length w.nodes ≡ length v.nodes
  nodes_same = ap length s.nodes

  node_paths_same : length w.places.nodes ≡ length v.places.nodes
  node_paths_same = ap (λ (p : Places). length p.nodes) s.places

  width_same : (sig : SigId) → width w sig ≡ width v sig
  width_same sig = width_is w.signals sig.0 ∙ ap (λ (ws : List ℕ). slice_index_or ws sig.0 0) s.widths ∙ sym (width_is v.signals sig.0)

  signal_wider : (n : ℕ) → KnowsSignal v n → KnowsSignal w n
  signal_wider n h = (omega (arith, h.0, signals_same), omega (arith, h.1, paths_same))

  pub node_wider : (n : ℕ) → KnowsNode v n → KnowsNode w n
  node_wider n h = (omega (arith, h.0, nodes_same), omega (arith, h.1, node_paths_same))

  words_wider : (first count : ℕ) → KnowsWords v first count → KnowsWords w first count
  words_wider first count h = record {
    signals = omega (arith, h.signals, signals_same);
    places = omega (arith, h.places, paths_same);
    numbers = h.numbers;
  }

  clock_wider : (sig : SigId) (half : ℕ) → KnowsClock v sig half → KnowsClock w sig half
  clock_wider sig half h = record { signal = signal_wider sig.0 h.signal; bit = width_same sig ∙ h.bit; steps = h.steps }

  digits_wider : (m n : ℕ) (act : Write) → m ≡ n → HasDigits m act → HasDigits n act
  digits_wider m n (write.Plain bits) e h = h ∙ e
  digits_wider m n (write.Force bits) e h = h ∙ e
  digits_wider m n write.Freeze e h = tt
  digits_wider m n write.Release e h = tt

  write_wider : (sig : SigId) (act : Write) → KnowsWrite v sig act → KnowsWrite w sig act
  write_wider sig act h = record { signal = signal_wider sig.0 h.signal; digits = digits_wider (width v sig) (width w sig) act (sym (width_same sig)) h.digits }

  key_wider : (k : Key) → KnowsKey v k → KnowsKey w k
  key_wider (key.Rise sig) h = signal_wider sig.0 h
  key_wider (key.Fall sig) h = signal_wider sig.0 h
  key_wider (key.Change sig) h = signal_wider sig.0 h
  key_wider (key.At time) h = tt
  key_wider key.ReadWrite h = tt
  key_wider key.ReadOnly h = tt
  key_wider key.NextStep h = tt

  spot_wider : (x : Spot) → Knows v (spot_value x) → Knows w (spot_value x)
  spot_wider (spot.Inner n) h = node_wider n h
  spot_wider (spot.Sig sig) h = signal_wider sig.0 h
  spot_wider (spot.Words first low count) h = words_wider first.0 count h

  spots_wider : (o : Option Spot) → IfSome o (λ x. Knows v (spot_value x)) → IfSome o (λ x. Knows w (spot_value x))
  spots_wider None h = tt
  spots_wider (Some x) h = spot_wider x h

  child_same : (node : ℕ) (name : List ℕ) → child v node name ≡ child w node name
  child_same node name = ap (λ (nodes : List (List (List ℕ × Spot))). child (record w { nodes = nodes }) node name) (sym s.nodes)

  pub design_wider : KnowsDesign v → KnowsDesign w
  design_wider d = λ node name. spots_wider (child w node name) (subst (λ (o : Option Spot). IfSome o (λ x. Knows v (spot_value x))) (child_same node name) (d node name))

  staged_wider : (ws : List Staged) → KnowsStaged v ws → KnowsStaged w ws
  staged_wider [] h = tt
  staged_wider (x ∷ xs) h = (write_wider x.sig x.act h.0, staged_wider xs h.1)

-- ---- values

module _ (functions : List Function) (v w : View) (s : Wider v w) where
  mutual
    trig_wider : (t : Trig) → KnowsTrig v t → KnowsTrig w t
    trig_wider (Made id form) h = form_wider form h

    form_wider : (f : Form) → KnowsForm v f → KnowsForm w f
    form_wider (trigger.Time n) h = tt
    form_wider (trigger.Rise sig) h = signal_wider v w s.design sig.0 h
    form_wider (trigger.Fall sig) h = signal_wider v w s.design sig.0 h
    form_wider (trigger.Change sig) h = signal_wider v w s.design sig.0 h
    form_wider trigger.ReadWrite h = tt
    form_wider trigger.ReadOnly h = tt
    form_wider trigger.NextStep h = tt
    form_wider (trigger.Cycles sig n b) h = signal_wider v w s.design sig.0 h
    form_wider (trigger.Event e) h = omega (arith, h, s.events)
    form_wider (trigger.Lock l) h = omega (arith, h, s.locks)
    form_wider (trigger.Join t) h = omega (arith, h, s.ended)
    form_wider (trigger.First ts) h = trigs_wider ts h
    form_wider (trigger.Combine ts) h = trigs_wider ts h
    form_wider (trigger.Limit ts n) h = trigs_wider ts h

    trigs_wider : (ts : Trigs) → KnowsTrigs v ts → KnowsTrigs w ts
    trigs_wider NoTrig h = tt
    trigs_wider (Then t ts) h = (trig_wider t h.0, trigs_wider ts h.1)

  value_wider : (x : Value) → Knows v x → Knows w x
  value_wider value.Absent h = tt
  value_wider (value.Truth b) h = tt
  value_wider (value.Whole z) h = tt
  value_wider (value.Text bs) h = tt
  value_wider (value.Vector ds) h = tt
  value_wider (value.Place n) h = node_wider v w s.design n h
  value_wider (value.Words first low count) h = words_wider v w s.design first.0 count h
  value_wider (value.Signal sig) h = signal_wider v w s.design sig.0 h
  value_wider (value.Trigger t) h = (trig_wider t h.0, h.1)
  value_wider (value.Task t) h = omega (arith, h, s.ended)
  value_wider (value.Event e) h = omega (arith, h, s.events)
  value_wider (value.Lock l) h = omega (arith, h, s.locks)
  value_wider (value.Queue q) h = omega (arith, h, s.queues)
  value_wider (value.Clock sig half) h = clock_wider v w s.design sig half h
  value_wider (value.Caught fault) h = tt

  all_wider : (xs : List Value) → KnowsAll v xs → KnowsAll w xs
  all_wider [] h = tt
  all_wider (x ∷ xs) h = (value_wider x h.0, all_wider xs h.1)

  some_wider : (o : Option Value) → IfSome o (Knows v) → IfSome o (Knows w)
  some_wider None h = tt
  some_wider (Some x) h = value_wider x h

  names_wider : (names : Names) → KnowsNames v names → KnowsNames w names
  names_wider names h = λ n. some_wider (local names n) (h n)

  -- ---- tasks

  use_wider : (u : Use) → KnowsUse functions v u → KnowsUse functions w u
  use_wider (Assigns n) h = tt
  use_wider (Writes e) h = tt
  use_wider Returns h = tt
  use_wider (Times steps) h = h
  use_wider (Limited t) h = omega (arith, h, s.ended)
  use_wider (Enters l b) h = (omega (arith, h.0, s.locks), h.1)

  todo_wider : (t : Todo) → KnowsTodo functions v t → KnowsTodo functions w t
  todo_wider (Do item) h = h
  todo_wider (Again e b) h = h
  todo_wider (Each n left b) h = h
  todo_wider (Uses u) h = use_wider u h
  todo_wider (Handles hs) h = h
  todo_wider (Bound n) h = tt
  todo_wider (Holds l) h = omega (arith, h, s.locks)

  todos_wider : (ts : List Todo) → KnowsTodos functions v ts → KnowsTodos functions w ts
  todos_wider [] h = tt
  todos_wider (t ∷ ts) h = (todo_wider t h.0, todos_wider ts h.1)

  jump_wider : (j : Jump) → KnowsJump v j → KnowsJump w j
  jump_wider (Throw fault) h = tt
  jump_wider (Return x) h = value_wider x h
  jump_wider Break h = tt
  jump_wider Continue h = tt

  course_wider : (c : Course) → KnowsCourse v c → KnowsCourse w c
  course_wider On h = tt
  course_wider (Has x) h = value_wider x h
  course_wider (Leaves j) h = jump_wider j h

  frames_wider : (fs : List Frame) → KnowsFrames functions v fs → KnowsFrames functions w fs
  frames_wider [] h = tt
  frames_wider (f ∷ fs) h =
      (record { names = names_wider f.names h.0.names; course = course_wider f.course h.0.course; todo = todos_wider f.todo h.0.todo }, frames_wider fs h.1)

  pub whole_wider : (t : Task) → KnowsWhole functions v t → KnowsWhole functions w t
  whole_wider t h = record { sound = h.sound; frames = frames_wider t.frames h.frames }

  given_wider : (g : Given) → KnowsGiven v g → KnowsGiven w g
  given_wider given.Begin h = tt
  given_wider (given.Value x) h = value_wider x h
  given_wider (given.Fault fault) h = tt
  given_wider (given.Joined t) h = omega (arith, h, s.ended)

  pub turned_wider : (t : Turned) → KnowsTurned functions v t → KnowsTurned functions w t
  turned_wider (turned.Await t) h = (trig_wider t h.0, h.1)
  turned_wider (turned.Stage sig act) h = write_wider v w s.design sig act h
  turned_wider (turned.Put sig act) h = write_wider v w s.design sig act h
  turned_wider (turned.Start n args give_way) h = (h.0, all_wider args h.1)
  turned_wider (turned.Kill t) h = omega (arith, h, s.ended)
  turned_wider turned.NewEvent h = tt
  turned_wider (turned.SetEvent e) h = omega (arith, h, s.events)
  turned_wider (turned.ClearEvent e) h = omega (arith, h, s.events)
  turned_wider turned.NewLock h = tt
  turned_wider (turned.Release l) h = omega (arith, h, s.locks)
  turned_wider (turned.NewQueue bound) h = h
  turned_wider (turned.PutNow q x) h = (omega (arith, h.0, s.queues), value_wider x h.1)
  turned_wider (turned.GetNow q) h = omega (arith, h, s.queues)
  turned_wider (turned.Draw low span) h = h
  turned_wider (turned.Log level text) h = h
  turned_wider (turned.Done x) h = value_wider x h
  turned_wider (turned.Raised fault) h = tt
  turned_wider turned.Spent h = tt

  -- ---- trees

  trigger_wider : (t : Trig) → KnowsTrigger v t → KnowsTrigger w t
  trigger_wider t h = (trig_wider t h.0, h.1)

  awaited_wider : (a : Awaited) → KnowsAwaited v a → KnowsAwaited w a
  awaited_wider (awaited.Key k) h = key_wider v w s.design k h
  awaited_wider (awaited.Event e) h = omega (arith, h, s.events)
  awaited_wider (awaited.Lock l) h = omega (arith, h, s.locks)
  awaited_wider (awaited.Join t) h = omega (arith, h, s.ended)

  finish_wider : (f : Finish) → KnowsFinish v f → KnowsFinish w f
  finish_wider (Reached t) h = trigger_wider t h
  finish_wider (Ended t failed) h = omega (arith, h, s.ended)
  finish_wider TimedOut h = tt

  mutual
    tree_wider : (t : Tree) → KnowsTree v t → KnowsTree w t
    tree_wider (tree.Over f) h = finish_wider f h
    tree_wider (tree.Leaf on t) h = (awaited_wider on h.0, trigger_wider t h.1)
    tree_wider (tree.Cycles k left t) h = (key_wider v w s.design k h.0, trigger_wider t h.1)
    tree_wider (tree.First ts) h = trees_wider ts h
    tree_wider (tree.Combine t ts) h = (trigger_wider t h.0, trees_wider ts h.1)
    tree_wider (tree.Limit due t) h = tree_wider t h

    trees_wider : (ts : Trees) → KnowsTrees v ts → KnowsTrees w ts
    trees_wider tree.NoTree h = tt
    trees_wider (tree.Then t ts) h = (tree_wider t h.0, trees_wider ts h.1)

  -- ---- configurations

  tasks_wider : (ts : List Task) → KnowsTasks functions v ts → KnowsTasks functions w ts
  tasks_wider [] h = tt
  tasks_wider (t ∷ ts) h = (whole_wider t h.0, tasks_wider ts h.1)

  pub answer_wider : (g : Option Given) → IfSome g (KnowsGiven v) → IfSome g (KnowsGiven w)
  answer_wider None h = tt
  answer_wider (Some g) h = given_wider g h

  running_wider : (o : Option Running) → IfSome o (KnowsRunning v) → IfSome o (KnowsRunning w)
  running_wider None h = tt
  running_wider (Some r) h = answer_wider r.given h

  ready_wider : (es : List Entry) → KnowsReady v es → KnowsReady w es
  ready_wider [] h = tt
  ready_wider (e ∷ es) h = (given_wider e.given h.0, ready_wider es h.1)

  waiting_wider : (ws : List Waiting) → KnowsWaiting v ws → KnowsWaiting w ws
  waiting_wider [] h = tt
  waiting_wider (x ∷ xs) h = (tree_wider x.tree h.0, waiting_wider xs h.1)

  ending_wider : (o : Option Ending) → IfSome o (KnowsEnding v) → IfSome o (KnowsEnding w)
  ending_wider None h = tt
  ending_wider (Some (Returned x)) h = value_wider x h
  ending_wider (Some (Failed fault)) h = tt
  ending_wider (Some Killed) h = tt

  endings_wider : (es : List (Option Ending)) → KnowsEndings v es → KnowsEndings w es
  endings_wider [] h = tt
  endings_wider (e ∷ es) h = (ending_wider e h.0, endings_wider es h.1)

  queue_wider : (q : TaskQueue) → KnowsQueue v q → KnowsQueue w q
  queue_wider q h = (all_wider q.items h.0, (omega (arith, h.1.0, s.events), omega (arith, h.1.1, s.events)))

  queues_wider : (qs : List TaskQueue) → KnowsQueues v qs → KnowsQueues w qs
  queues_wider [] h = tt
  queues_wider (q ∷ qs) h = (queue_wider q h.0, queues_wider qs h.1)

  pub parts_wider : (c : Rig) → KnowsParts functions v c → KnowsParts functions w c
  parts_wider c h = record {
    tasks_known = tasks_wider c.tasks h.tasks_known;
    running_known = running_wider c.running h.running_known;
    ready_known = ready_wider c.ready h.ready_known;
    waiting_known = waiting_wider c.waiting h.waiting_known;
    endings_known = endings_wider c.endings h.endings_known;
    staged_known = staged_wider v w s.design c.staged h.staged_known;
    queues_known = queues_wider c.queues h.queues_known;
    queues_few = omega (arith, h.queues_few, s.events);
  }
