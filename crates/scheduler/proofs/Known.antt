-- What is known of configurations: of one in which nothing of a test is left, and of those that differ from a known one in little.
use Rattle.std.proofs.Common.{◌≡◌, ◌<◌, List, ◌∷◌, Option, None, Some, IfSome, subst, arith, length}
use Rattle.std.proofs.lemmas.List.{length-map}
use Rattle.std.specs.Prelude.{ℕ}
use Rattle.gpi.specs.State.{State}
use Rattle.gpi.specs.declared.design.Flat.{Flat}
use Rattle.gpi.specs.declared.design.Node.{Node}
use Rattle.gpi.specs.declared.types.Counts.{Counts}
use Rattle.py_evaluate.specs.Attribute.Look.{View}
use Rattle.py_evaluate.specs.Attribute.Knows.{KnowsAll, KnowsNode}
use Rattle.py_value.specs.declared.trigger.TaskNo.{TaskNo}
use Rattle.py_value.specs.declared.value.Value.{Value}
use Rattle.await_tree.specs.declared.cause.Given.{Given}
use Rattle.await_tree.specs.declared.cause.Given.TheVariants as given
use Rattle.await_tree.specs.SyncObjects.States.{States}
use Rattle.run_view.specs.RandomStream.Generator.{Generator}
use Rattle.task_queue.specs.Queues.{TaskQueue}
use Rattle.await_tree.specs.EndedTasks.Endings.{Endings, told_given, joined_given, ending_of}
use Rattle.await_tree.specs.declared.ended_tasks.ending.Ending.{Ending}
use Rattle.await_tree.specs.declared.ended_tasks.ending.Ending.TheVariants.{Returned, Failed, Killed}
use Rattle.rig_model.specs.Task.Frame.{Task, function_at}
use Rattle.rig_model.specs.Task.Known.{AreSoundFunctions, KnowsGiven, KnowsWhole}
use Rattle.await_tree.specs.declared.wait_list.ready.Entry.{Entry}
use Rattle.rig_model.specs.Run.Case.{emptied}
use Rattle.rig_model.specs.Run.Effect.{goes_on, with_new_task}
use Rattle.rig_model.specs.Run.Known.{IsKnown, KnowsParts, KnowsReady, KnowsEnding}
use Rattle.rig_model.specs.Run.Rig.{Rig, Setup, view_of}
use Rattle.rig_model.specs.Run.Step.{kept}
use Rattle.rig_model.specs.declared.run.outcome.Outcome.{Outcome}
use Rattle.rig_model.proofs.RunLemmas.Known.{new_parts}
use Rattle.rig_model.proofs.RunLemmas.Lists.{ending_known, tasks_stored}
use Rattle.run_view.specs.View as view
use Rattle.run_view.specs.View.{IsOf}
use Rattle.run_view.proofs.Known.{names_known}

-- ---- the names of the design

-- node 0 is one of the nodes
top_known : (flat : Flat) (nodes : List Node) (state : State) (objects : States) (queues : List TaskQueue) (endings : Endings) → IsOf flat nodes state
    → KnowsNode (view.view_of flat state objects queues endings) 0
top_known flat nodes state objects queues endings h =
    let root : 0 < length flat.nodes = h.sound.tree.root in
    (omega (arith, length-map flat.nodes (λ (n : Node). n.children)), omega (arith, length-map flat.nodes (λ (n : Node). n.path)))

module _ (setup : Setup) where
  -- where a simulator of the design has a value for each of its signals
  pub known_of : (nodes : List Node) (c : Rig) → IsOf setup.flat nodes c.sim → AreSoundFunctions setup.functions → KnowsParts setup.functions (view_of setup c) c → IsKnown setup c
  known_of nodes c h s p = record {
    design = names_known setup.flat nodes c.sim c.objects c.queues c.endings h;
    top = top_known setup.flat nodes c.sim c.objects c.queues c.endings h;
    sound = s;
    parts = p;
  }

  -- nothing of a test is left
  pub bare_known : (nodes : List Node) (state : State) (random : Generator) (counts : Counts) → IsOf setup.flat nodes state → AreSoundFunctions setup.functions
      → IsKnown setup (emptied state random counts)
  bare_known nodes state random counts h s =
      known_of nodes (emptied state random counts) h s
      (record { tasks_known = tt; running_known = tt; ready_known = tt; waiting_known = tt; endings_known = tt; staged_known = tt; queues_known = tt; queues_few = omega arith })

  -- a test's own task is there
  pub first_task_known : (nodes : List Node) (state : State) (random : Generator) (counts : Counts) (n : ℕ) (args : List Value) → IsOf setup.flat nodes state → AreSoundFunctions setup.functions
      → ((v : View) → KnowsNode v 0 → KnowsAll v args) → IsKnown setup (with_new_task (function_at setup.functions n) args (emptied state random counts))
  first_task_known nodes state random counts n args h s k =
      let d : Rig = with_new_task (function_at setup.functions n) args (emptied state random counts) in
      let v : View = view_of setup d in
      known_of nodes d h s
      (new_parts setup.functions v n args (emptied state random counts) s (k v (top_known setup.flat nodes d.sim d.objects d.queues d.endings h))
      (record { tasks_known = tt; running_known = tt; ready_known = tt; waiting_known = tt; endings_known = tt; staged_known = tt; queues_known = tt; queues_few = omega arith }))

  -- ---- other parts

  -- what is known depends neither on times and counts nor on random numbers and the outcome
  pub known_but : (c : Rig) (deadline planned : Option ℕ) (random : Generator) (counts : Counts) (outcome : Option Outcome) → IsKnown setup c
      → IsKnown setup (record c { deadline = deadline; planned = planned; random = random; counts = counts; outcome = outcome })
  known_but c deadline planned random counts outcome k = record {
    design = k.design;
    top = k.top;
    sound = k.sound;
    parts = record {
      tasks_known = k.parts.tasks_known;
      running_known = k.parts.running_known;
      ready_known = k.parts.ready_known;
      waiting_known = k.parts.waiting_known;
      endings_known = k.parts.endings_known;
      staged_known = k.parts.staged_known;
      queues_known = k.parts.queues_known;
      queues_few = k.parts.queues_few;
    };
  }

  -- an outcome is told apart
  pub known_over : (e : Rig) (o : Option Outcome) → IsKnown setup (record e { outcome = o }) → IsKnown setup e
  known_over e o k = known_but (record e { outcome = o }) e.deadline e.planned e.random e.counts e.outcome k

  -- the turn is taken from its task
  pub known_stopped : (task : TaskNo) (g : Option Given) (e : Rig) → e.running ≡ None → IsKnown setup (goes_on task g e) → IsKnown setup e
  known_stopped task g e r k = record {
    design = k.design;
    top = k.top;
    sound = k.sound;
    parts = record {
      tasks_known = k.parts.tasks_known;
      running_known = rw r tt;
      ready_known = k.parts.ready_known;
      waiting_known = k.parts.waiting_known;
      endings_known = k.parts.endings_known;
      staged_known = k.parts.staged_known;
      queues_known = k.parts.queues_known;
      queues_few = k.parts.queues_few;
    };
  }

  -- what is left of a task is kept
  pub kept_known : (number : TaskNo) (rest : Task) (c : Rig) → KnowsWhole setup.functions (view_of setup c) rest → IsKnown setup c → IsKnown setup (kept number rest c)
  kept_known number rest c w k = record {
    design = k.design;
    top = k.top;
    sound = k.sound;
    parts = record {
      tasks_known = tasks_stored setup.functions (view_of setup c) number rest c.tasks w k.parts.tasks_known;
      running_known = tt;
      ready_known = k.parts.ready_known;
      waiting_known = k.parts.waiting_known;
      endings_known = k.parts.endings_known;
      staged_known = k.parts.staged_known;
      queues_known = k.parts.queues_known;
      queues_few = k.parts.queues_few;
    };
  }

  -- ---- the first that is ready

  first_ready : (c : Rig) (e : Entry) (es : List Entry) → c.ready ≡ e ∷ es → IsKnown setup c → KnowsReady (view_of setup c) (e ∷ es)
  first_ready c e es is k = subst (KnowsReady (view_of setup c)) is k.parts.ready_known

  pub first_given : (c : Rig) (e : Entry) (es : List Entry) → c.ready ≡ e ∷ es → IsKnown setup c → KnowsGiven (view_of setup c) e.given
  first_given c e es is k = let r : KnowsReady (view_of setup c) (e ∷ es) = first_ready c e es is k in r.0

  -- the result of a join is known
  joined_known : (v : View) (o : Option Ending) → IfSome o (KnowsEnding v) → KnowsGiven v (joined_given o)
  joined_known v None h = tt
  joined_known v (Some (Returned x)) h = h
  joined_known v (Some (Failed f)) h = tt
  joined_known v (Some Killed) h = tt

  pub told_known : (c : Rig) (g : Given) → IsKnown setup c → KnowsGiven (view_of setup c) g → KnowsGiven (view_of setup c) (told_given g c.endings)
  told_known c given.Begin h k = tt
  told_known c (given.Value v) h k = k
  told_known c (given.Fault f) h k = tt
  told_known c (given.Joined t) h k = joined_known (view_of setup c) (ending_of t c.endings) (ending_known (view_of setup c) c.endings t.0 h.parts.endings_known)
