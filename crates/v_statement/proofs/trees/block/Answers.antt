use Rattle.std.proofs.Common.{rules}
use Rattle.v_syntax.specs.declared.statement.CaseItem.TheViews.{the_lemmas}
use Rattle.v_statement.proofs.Rows.{row_statements}
use Rattle.v_statement.proofs.trees.block.Goals as goal

pub returns : goal.returns
returns c = search (rules, the_lemmas, row_statements)
