-- One name more.
use Rattle.std.proofs.Common.{◌∷◌, [], List, Option, subst}
use Rattle.test_meaning.specs.Rules.Names.{Name}
use Rattle.test_names.specs.Duplicates.Twice.{Table, AreNames, IsWith}
use Rattle.test_names.proofs.DuplicatesLemmas.Twofold.{went_on, stopped, all_new}
use Rattle.test_names.proofs.duplicates.names.with_all.Goals as goal

pub returns-in-None : goal.returns-in-None
returns-in-None g c =
    stopped g.T.Named.name _ _ _ _ _ _ c.loop-one-test.true c.one-item.is c.name.ensures
    (subst (λ (o : Option Table). (ns : List Name) → AreNames ns c.loop-one.names → IsWith ns (c.name.result.now ∷ []) o) c.in-None.is c.in_ok-more.ensures) c.loop-one.invariant

pub loop-one-preserved : goal.loop-one-preserved
loop-one-preserved g c =
    went_on g.T.Named.name _ _ _ _ _ _ _ c.loop-one-test.true c.one-item.is c.name.ensures
    (subst (λ (o : Option Table). (ns : List Name) → AreNames ns c.loop-one.names → IsWith ns (c.name.result.now ∷ []) o) c.in-Some.is c.in_ok-more.ensures) c.loop-one.invariant

pub returns : goal.returns
returns g c = all_new g.T.Named.name _ _ _ _ c.loop-one-test.false c.loop-one.invariant
