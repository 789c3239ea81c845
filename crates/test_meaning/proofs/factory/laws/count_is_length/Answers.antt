use Rattle.test_meaning.proofs.FactoryLemmas.Product.{count_is_length}
use Rattle.test_meaning.proofs.factory.laws.count_is_length.Goals as goal

pub returns : goal.returns
returns c = count_is_length
