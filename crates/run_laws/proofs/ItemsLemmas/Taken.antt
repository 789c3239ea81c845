-- What a get takes out of a queue its task is given.
use Rattle.std.proofs.Common.{◌≡◌, List, [], ◌∷◌, Option, None, Some, ap, ◌∙◌}
use Rattle.py_value.specs.declared.trigger.QueueNo.{QueueNo}
use Rattle.py_value.specs.declared.value.Value.{Value}
use Rattle.task_queue.specs.Queues.{queue_at}
use Rattle.await_tree.specs.declared.wait_list.ready.Entry.{Entry}
use Rattle.rig_model.specs.Task.Frame.{Task}
use Rattle.rig_model.specs.Task.Step.{next}
use Rattle.rig_model.specs.declared.task.task.Turned.{Turned}
use Rattle.rig_model.specs.declared.task.task.Turned.TheVariants as turned
use Rattle.rig_model.specs.Run.Effect.{effect_of, gets_item}
use Rattle.rig_model.specs.Run.Rig.{Rig, Setup, Running, view_of}
use Rattle.rig_model.specs.Run.Step.{chosen, kept, resumed, rig_step, stepped, taken, task_at}
use Rattle.run_laws.specs.Items.Account.{goes_on_with_value, wanted_by, wanted_in, wish}
use Rattle.run_laws.specs.Remainder.Alike.{turn_of}

module _ (setup : Setup) (queue : QueueNo) (item : Value) (items : List Value) where
  abbrev Gets : Option Turned → Type 0
  Gets wanted = wanted ≡ Some (turned.GetNow queue)

  abbrev IsFirst : Rig → Type 0
  IsFirst c = (queue_at queue c.queues).items ≡ item ∷ items

  wish_given : (r : Running) (o : Option Turned) (c : Rig) → Gets o → IsFirst c → (effect_of setup r.task o c).rig.running ≡ goes_on_with_value item (Some r)
  wish_given r o c w e =
      ap (λ (t : Option Turned). (effect_of setup r.task t c).rig.running) w ∙ ap (λ (xs : List Value). (gets_item r.task queue xs c).rig.running) e

  stepped_given : (r : Running) (o : Option Task) (c : Rig) → Gets (wanted_by setup r o c) → IsFirst c → (stepped setup r o c).rig.running ≡ goes_on_with_value item (Some r)
  stepped_given r None c w e = cc
  stepped_given r (Some task) c w e =
      let n = next setup.functions task r.given (view_of setup c) in wish_given r n.turned (kept r.task n.task c) w e

  resumed_given : (x : Entry) (xs : List Entry) (c : Rig) (o : Option Task) → Gets (wanted_by setup (taken c x) o c) → IsFirst c
      → (stepped setup (taken c x) o (resumed x xs c)).rig.running ≡ goes_on_with_value item (Some (taken c x))
  resumed_given x xs c None w e = cc
  resumed_given x xs c (Some task) w e =
      let n = next setup.functions task (taken c x).given (view_of setup c) in wish_given (taken c x) n.turned (kept x.task n.task (resumed x xs c)) w e

  chosen_given : (running : Option Running) (ready : List Entry) (c : Rig) → Gets (wanted_in setup (turn_of running ready c) c) → IsFirst c
      → (chosen setup running ready c).rig.running ≡ goes_on_with_value item (turn_of running ready c)
  chosen_given (Some r) ready c w e = stepped_given r (task_at r.task c.tasks) c w e
  chosen_given None (x ∷ xs) c w e = resumed_given x xs c (task_at (taken c x).task c.tasks) w e
  chosen_given None [] c w e = cc

pub item_given : (setup : Setup) (c : Rig) (queue : QueueNo) (item : Value) (items : List Value) → wish setup c ≡ Some (turned.GetNow queue)
    → (queue_at queue c.queues).items ≡ item ∷ items → (rig_step setup c).rig.running ≡ goes_on_with_value item (turn_of c.running c.ready c)
item_given setup c queue item items w e = chosen_given setup queue item items c.running c.ready c w e
