use Rattle.std.proofs.Common.{ap, ◌∙◌}
use Rattle.v_syntax.specs.ExpressionTrees.{view, views}
use Rattle.v_expression.specs.Lists.{and_last}
use Rattle.v_expression.proofs.Rows.{views_push}
use Rattle.v_expression.proofs.measured.MeasuredParts.with.Goals as goal

pub returns-clause-parts : goal.returns-clause-parts
returns-clause-parts c = ap views c.in_ok-push.ensures.items ∙ (views_push c.args.self.parts.items c.into_inner.result ∙ ap (λ e. and_last (views c.args.self.parts.items) (view e)) c.into_inner.ensures)
