use Rattle.test_meaning.proofs.FactoryLemmas.Product.{is_element}
use Rattle.test_meaning.proofs.factory.laws.case_is_element.Goals as goal

pub returns : goal.returns
returns c = is_element
