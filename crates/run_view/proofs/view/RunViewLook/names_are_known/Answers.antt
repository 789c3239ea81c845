-- The design is sound.
use Rattle.std.proofs.Common.{subst}
use Rattle.py_evaluate.specs.Attribute.Knows.{KnowsDesign}
use Rattle.py_evaluate.specs.Attribute.Look.{View}
use Rattle.run_view.proofs.Known.{names_known}
use Rattle.run_view.proofs.view.RunViewLook.names_are_known.Goals as goal

pub returns : goal.returns
returns g c =
    subst (λ (v : View). KnowsDesign v) c.self.view_is
    (names_known c.self.inside.flat.now c.self.inside.names.now (g.K.Gpi.content c.self.inside.kernel.now).state c.self.inside.objects.now c.self.inside.queues.now c.self.inside.ended.now c.self.invariant.1)
