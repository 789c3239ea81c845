-- No item yet, and all of them.
use Rattle.std.proofs.Common.{ap, arith}
use Rattle.std.specs.List.{position_from}
use Rattle.std.specs.Option.{option_or}
use Rattle.std.specs.Str.{bytes_eq}
use Rattle.name_table.specs.Places.{Places}
use Rattle.test_functions.proofs.Ordered.{names_from, all_numbered}
use Rattle.test_functions.proofs.numbers.function_numbers.Goals as goal

pub loop-item-init : goal.loop-item-init
loop-item-init c = record {
  counted = omega arith;
  count = omega arith;
  numbers = λ n. ap (λ (t : Places). option_or (t n) (position_from (bytes_eq n) 0 (names_from 0 c.args.items.now))) c.new-numbers.ensures;
}

pub returns : goal.returns
returns c =
    all_numbered c.args.items.now c.loop-item.item-index _ c.loop-item-test.false c.loop-item.invariant.count c.loop-item.invariant.numbers
