use Rattle.v_syntax.specs.SourceTrees.{view_item}
use Rattle.v_parse.proofs.ItemLemmas.Callers.{item_found, item_only, item_refused}
use Rattle.v_parse.proofs.item.items.item.Goals as goal

pub returns-clause-found : goal.returns-clause-found
returns-clause-found c = item_found c.args.total c.args.room c.args.tokens.now (λ x. (view_item x.0.value, x.1.now)) c.item_at.result c.item_at.ensures

pub returns-clause-only : goal.returns-clause-only
returns-clause-only c = item_only c.args.total c.args.room c.args.tokens.now (λ x. (view_item x.0.value, x.1.now)) c.item_at.result c.item_at.ensures

pub returns-clause-refused : goal.returns-clause-refused
returns-clause-refused c = item_refused c.args.total c.args.room c.args.tokens.now (λ x. (view_item x.0.value, x.1.now)) c.item_at.result c.item_at.ensures
