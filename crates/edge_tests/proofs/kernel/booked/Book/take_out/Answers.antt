use Rattle.std.proofs.Common.{rules, not}
use Rattle.std.proofs.lemmas.Fn.{filter_same}
use Rattle.gpi.specs.Keys.{same_key}
use Rattle.gpi.specs.declared.types.Key.{Key}
use Rattle.edge_tests.proofs.kernel.booked.Book.take_out.Goals as goal

pub returns-clause-keys : goal.returns-clause-keys
returns-clause-keys c = filter_same _ (λ (own : Key). not (same_key own c.args.key)) _ (λ x b f h. search rules) _ _ c.retain.ensures.filtered
