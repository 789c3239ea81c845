use Rattle.std.proofs.Common.{Option, OnErr, subst, sym, ◌∙◌}
use Rattle.edge_tests.specs.Kernel.Shown.{LeavesCall}
use Rattle.edge_tests.specs.declared.kernel.calls.Call.{Call}
use Rattle.edge_tests.proofs.kernel.rows.asked_text.Goals as goal

pub returns-in-Some-clause-leaves : goal.returns-in-Some-clause-leaves
returns-in-Some-clause-leaves g c =
    let leaves = λ (call : Option Call). OnErr c.call_text.result
    (LeavesCall (g.K.Gpi.content c.args.kernel.now) call (g.K.Gpi.content c.call_text.new.kernel)) in
    subst leaves (sym c.in-Some.is ∙ c.call_of.ensures) c.call_text.ensures.leaves
