use Rattle.test_refusal.proofs.ItemsLemmas.Functions.{decorated_by_last}
use Rattle.test_refusal.proofs.items.laws.decorated_by_last.Goals as goal

pub returns : goal.returns
returns c = decorated_by_last
