-- What is seen of a queue is full where the queue is.
use Rattle.std.proofs.Common.{length, arith, ap, sym, ◌∙◌}
use Rattle.std.proofs.lemmas.List.{length-map}
use Rattle.py_evaluate.specs.Attribute.Look.{View, SeenQueue, queue}
use Rattle.run_view.specs.View.{seen}
use Rattle.run_view.proofs.SeenQueues.{seen_at}
use Rattle.run_view.proofs.view.RunViewLook.queue_full.Goals as goal

pub is_full-requires : goal.is_full-requires
is_full-requires g c = omega (arith, length-map c.self.inside.queues.now seen, ap (λ (v : View). length v.queues) c.self.view_is)

pub returns : goal.returns
returns g c = c.is_full.ensures ∙ ap (λ (s : SeenQueue). s.is_full) (sym (seen_at c.self.inside.queues.now c.args.q) ∙ ap (λ (v : View). queue v c.args.q) c.self.view_is)
