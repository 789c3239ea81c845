-- The event of a queue's room is seen, and was made.
use Rattle.std.proofs.Common.{◌<◌, length, arith, ap, sym, subst, ◌∙◌}
use Rattle.std.proofs.lemmas.List.{length-map}
use Rattle.py_evaluate.specs.Attribute.Look.{View, SeenQueue, queue}
use Rattle.py_value.specs.declared.trigger.EventNo.{EventNo}
use Rattle.task_queue.specs.Queues.{queue_at}
use Rattle.run_view.specs.View.{seen}
use Rattle.run_view.proofs.SeenQueues.{seen_at, space_made}
use Rattle.run_view.proofs.view.RunViewLook.queue_space.Goals as goal

pub space_event-requires : goal.space_event-requires
space_event-requires g c = omega (arith, length-map c.self.inside.queues.now seen, ap (λ (v : View). length v.queues) c.self.view_is)

pub returns : goal.returns
returns g c =
    let inside : c.args.q.0 < length c.self.inside.queues.now = omega (arith, c.requires, length-map c.self.inside.queues.now seen, ap (λ (v : View). length v.queues) c.self.view_is) in
    record {
      is = c.space_event.ensures ∙ ap (λ (s : SeenQueue). s.space_event) (sym (seen_at c.self.inside.queues.now c.args.q) ∙ ap (λ (v : View). queue v c.args.q) c.self.view_is);
      made = subst (λ (e : EventNo). e.0 < length c.args.self.now.events) (sym c.space_event.ensures)
          (subst (λ (v : View). (queue_at c.args.q c.self.inside.queues.now).space_event.0 < length v.events) c.self.view_is
          (space_made c.self.inside.objects.now c.self.inside.queues.now c.args.q c.self.invariant.2 inside));
    }
