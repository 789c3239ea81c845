use Rattle.test_meaning.proofs.RulesLemmas.Rows.{refused_rows}
use Rattle.test_meaning.proofs.rules.laws.refused_rows.Goals as goal

pub returns : goal.returns
returns c = refused_rows
