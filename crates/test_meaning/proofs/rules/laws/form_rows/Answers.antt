use Rattle.test_meaning.proofs.RulesLemmas.Rows.{form_rows}
use Rattle.test_meaning.proofs.rules.laws.form_rows.Goals as goal

pub returns : goal.returns
returns c = form_rows
