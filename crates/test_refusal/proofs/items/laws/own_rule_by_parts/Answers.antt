use Rattle.test_refusal.proofs.ItemsLemmas.Lines.{by_parts}
use Rattle.test_refusal.proofs.items.laws.own_rule_by_parts.Goals as goal

pub returns : goal.returns
returns c = by_parts
