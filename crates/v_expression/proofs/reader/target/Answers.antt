use Rattle.v_syntax.specs.ExpressionTrees.{view_target}
use Rattle.v_expression.proofs.Laws.{target_laws, found, only, refused}
use Rattle.v_expression.proofs.reader.target.Goals as goal

pub returns-clause-found : goal.returns-clause-found
returns-clause-found c = found _ _ _ _ _ (target_laws c.args.total) c.args.room c.args.tokens.now (λ x. (view_target x.0.value, x.1.now)) c.target_at.result c.target_at.ensures

pub returns-clause-only : goal.returns-clause-only
returns-clause-only c = only _ _ _ _ _ (target_laws c.args.total) c.args.room c.args.tokens.now (λ x. (view_target x.0.value, x.1.now)) c.target_at.result c.target_at.ensures

pub returns-clause-refused : goal.returns-clause-refused
returns-clause-refused c = refused _ _ _ _ _ (target_laws c.args.total) c.args.room c.args.tokens.now (λ x. (view_target x.0.value, x.1.now)) c.target_at.result c.target_at.ensures
