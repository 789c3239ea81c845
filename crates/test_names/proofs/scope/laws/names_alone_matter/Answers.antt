use Rattle.test_names.proofs.ScopeLemmas.Agreeing.{same_block}
use Rattle.test_names.proofs.scope.laws.names_alone_matter.Goals as goal

pub returns : goal.returns
returns c = same_block
