-- No name has a number.
use Rattle.test_refusal.proofs.MakersLemmas.Numbers.{no_numbers}
use Rattle.test_file.proofs.ListLemmas.Numbers.{no_value}
use Rattle.test_file.proofs.list.table.Table.new.Goals as goal

pub invariant_of-result : goal.invariant_of-result
invariant_of-result g c = record { are_numbers = no_numbers _ _ c.new.ensures }

pub returns : goal.returns
returns g c = λ n. no_value _ _ n c.new.ensures
