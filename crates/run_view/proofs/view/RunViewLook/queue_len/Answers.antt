-- What is seen of a queue holds as many items as the queue.
use Rattle.std.proofs.Common.{length, arith, ap, sym, ◌∙◌}
use Rattle.std.proofs.lemmas.List.{length-map}
use Rattle.py_evaluate.specs.Attribute.Look.{View, SeenQueue, queue}
use Rattle.run_view.specs.View.{seen}
use Rattle.run_view.proofs.SeenQueues.{seen_at}
use Rattle.run_view.proofs.view.RunViewLook.queue_len.Goals as goal

pub len-requires : goal.len-requires
len-requires g c = omega (arith, length-map c.self.inside.queues.now seen, ap (λ (v : View). length v.queues) c.self.view_is)

pub returns : goal.returns
returns g c = c.len.ensures ∙ ap (λ (s : SeenQueue). s.held) (sym (seen_at c.self.inside.queues.now c.args.q) ∙ ap (λ (v : View). queue v c.args.q) c.self.view_is)
