use Rattle.v_syntax.specs.StatementTrees.{view}
use Rattle.v_statement.proofs.CallerLaws.{statement_found, statement_only, statement_refused}
use Rattle.v_statement.proofs.reader.statement.Goals as goal

pub returns-clause-found : goal.returns-clause-found
returns-clause-found c = statement_found c.args.total c.args.room c.args.place c.args.tokens.now (λ x. (view x.0.value, x.1.now)) c.statement_at.result c.statement_at.ensures

pub returns-clause-only : goal.returns-clause-only
returns-clause-only c = statement_only c.args.total c.args.room c.args.place c.args.tokens.now (λ x. (view x.0.value, x.1.now)) c.statement_at.result c.statement_at.ensures

pub returns-clause-refused : goal.returns-clause-refused
returns-clause-refused c = statement_refused c.args.total c.args.room c.args.place c.args.tokens.now (λ x. (view x.0.value, x.1.now)) c.statement_at.result c.statement_at.ensures
