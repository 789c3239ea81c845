use Rattle.edge_tests.proofs.KernelLemmas.RowLaws.{called}
use Rattle.edge_tests.proofs.kernel.rows.call_text.Goals as goal

pub returns-in_err-answered-clause-leaves : goal.returns-in_err-answered-clause-leaves
returns-in_err-answered-clause-leaves g c =
    called (g.K.Gpi.content c.args.kernel.now) (g.K.Gpi.content c.asked.new.kernel) c.args.call c.in_ok-answer.answer
    c.from_residual-in_err-answered.result c.in_ok-answer.ensures.is

pub returns-in_err-shown-clause-leaves : goal.returns-in_err-shown-clause-leaves
returns-in_err-shown-clause-leaves g c =
    called (g.K.Gpi.content c.args.kernel.now) (g.K.Gpi.content c.asked.new.kernel) c.args.call c.in_ok-answer.answer
    c.from_residual-in_err-shown.result c.in_ok-answer.ensures.is
