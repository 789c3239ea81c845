use Rattle.std.proofs.Common.{refl, ◌∙◌}
use Rattle.await_tree.specs.declared.cause.Awaited.TheVariants as awaited
use Rattle.await_tree.proofs.WaitListLemmas.Rekeys.{joins_there}
use Rattle.trigger_table.specs.Records.{causes_in}
use Rattle.trigger_table.proofs.AwaitLemmas.{joined_there}
use Rattle.trigger_table.proofs.GoneLemmas.{key_named}
use Rattle.trigger_table.proofs.HoldLemmas.{not_named}
use Rattle.trigger_table.proofs.holding.find_or_make.Goals as goal

pub returns-in-Some-clause-found : goal.returns-in-Some-clause-found
returns-in-Some-clause-found g c = joined_there (awaited.Key c.args.key) c.in-Some.number (causes_in c.args.records.now) (causes_in c.args.records.now) (λ n. refl) c.in-Some.ensures.some

pub returns-in-Some-clause-joins : goal.returns-in-Some-clause-joins
returns-in-Some-clause-joins g c = joins_there (g.K.Gpi.content c.args.kernel.now) c.args.key (c.requires.there ∙ key_named c.args.key (causes_in c.args.records.now) c.in-Some.number c.in-Some.ensures.some)

pub make_key-requires-clause-out : goal.make_key-requires-clause-out
make_key-requires-clause-out g c = c.requires.there ∙ not_named c.args.key (causes_in c.args.records.now) c.in-None.ensures.none

pub make_key-requires-clause-asked : goal.make_key-requires-clause-asked
make_key-requires-clause-asked g c = c.requires.asked (c.requires.there ∙ not_named c.args.key (causes_in c.args.records.now) c.in-None.ensures.none)
