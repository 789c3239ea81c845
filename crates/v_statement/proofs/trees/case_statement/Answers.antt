use Rattle.std.proofs.Common.{rules}
use Rattle.v_syntax.specs.declared.statement.CaseItem.TheViews.{the_lemmas}
use Rattle.v_statement.proofs.Rows.{row_cases}
use Rattle.v_statement.proofs.trees.case_statement.Goals as goal

pub returns : goal.returns
returns c = search (rules, the_lemmas, row_cases)
