-- Both events of each queue were made.
use Rattle.std.proofs.Common.{subst}
use Rattle.py_evaluate.specs.Attribute.Knows.{KnowsEvents}
use Rattle.py_evaluate.specs.Attribute.Look.{View}
use Rattle.run_view.proofs.SeenQueues.{events_known}
use Rattle.run_view.proofs.view.RunViewLook.queues_are_known.Goals as goal

pub returns : goal.returns
returns g c =
    subst (λ (v : View). KnowsEvents v) c.self.view_is
    (events_known c.self.inside.flat.now (g.K.Gpi.content c.self.inside.kernel.now).state c.self.inside.objects.now c.self.inside.queues.now c.self.inside.ended.now c.self.invariant.2)
