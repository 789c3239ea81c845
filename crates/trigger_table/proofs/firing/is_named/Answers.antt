use Rattle.std.proofs.Common.{sym, ◌∙◌}
use Rattle.trigger_table.specs.Keys.{record_keys}
use Rattle.trigger_table.specs.Records.{causes_in}
use Rattle.trigger_table.proofs.FireLemmas.{found_named, unnamed}
use Rattle.trigger_table.proofs.firing.is_named.Goals as goal

pub returns-clause-value : goal.returns-clause-value
returns-clause-value g c = c.is_some.ensures ∙ found_named c.args.key (causes_in c.args.records.now) c.find.result c.find.ensures.some c.find.ensures.none

pub returns-then-not-is_edge-clause-value : goal.returns-then-not-is_edge-clause-value
returns-then-not-is_edge-clause-value g c = unnamed c.args.key (record_keys (causes_in c.args.records.now)) c.requires.edges (sym c.is_edge.ensures ∙ c.if-not-is_edge.true)
