-- All parts.
use Rattle.test_refusal.proofs.ItemsLemmas.Dotted.{all_parts}
use Rattle.test_refusal.proofs.items.imports.joined.Goals as goal

pub returns : goal.returns
returns c = all_parts c.args.first.now c.args.others.now _ _ c.loop-part-test.false c.loop-part.invariant
