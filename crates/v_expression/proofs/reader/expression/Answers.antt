use Rattle.v_syntax.specs.ExpressionTrees.{view}
use Rattle.v_expression.proofs.Laws.{expression_laws, found, only, refused}
use Rattle.v_expression.proofs.reader.expression.Goals as goal

pub returns-clause-found : goal.returns-clause-found
returns-clause-found c = found _ _ _ _ _ (expression_laws c.args.total) c.args.room c.args.tokens.now (λ x. (view x.0.value, x.1.now)) c.read_expression.result c.read_expression.ensures

pub returns-clause-only : goal.returns-clause-only
returns-clause-only c = only _ _ _ _ _ (expression_laws c.args.total) c.args.room c.args.tokens.now (λ x. (view x.0.value, x.1.now)) c.read_expression.result c.read_expression.ensures

pub returns-clause-refused : goal.returns-clause-refused
returns-clause-refused c = refused _ _ _ _ _ (expression_laws c.args.total) c.args.room c.args.tokens.now (λ x. (view x.0.value, x.1.now)) c.read_expression.result c.read_expression.ensures
