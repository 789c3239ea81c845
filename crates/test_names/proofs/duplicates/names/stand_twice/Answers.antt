-- There is a table, or none.
use Rattle.test_names.proofs.DuplicatesLemmas.Twofold.{answered}
use Rattle.test_names.proofs.duplicates.names.stand_twice.Goals as goal

pub returns : goal.returns
returns g c = answered _ c.new.result _ _ c.new.ensures c.in_ok-names.ensures c.is_none.ensures
