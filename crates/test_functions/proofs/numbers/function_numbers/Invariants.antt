-- What is known of the items so far, and what those behind them define.
use Rattle.std.proofs.Common.{◌≡◌, ◌≤◌, ◌+◌, length}
use Rattle.std.specs.List.{position_from}
use Rattle.std.specs.Option.{option_or}
use Rattle.std.specs.Str.{bytes_eq}
use Rattle.name_table.specs.Places.{first_place}
use Rattle.test_meaning.specs.Rules.Names.{Name}
use Rattle.test_functions.proofs.Ordered.{names_from}
use Rattle.test_functions.proofs.numbers.function_numbers.Given as goal

abbrev pub invariant-loop-item : goal.invariant-loop-item
invariant-loop-item l = record {
  counted : l.count ≤ l.item-index;
  count : l.count + length (names_from l.item-index l.items) ≡ length (names_from 0 l.items);
  numbers : (n : Name) → option_or (first_place l.numbers n) (position_from (bytes_eq n) l.count (names_from l.item-index l.items))
      ≡ position_from (bytes_eq n) 0 (names_from 0 l.items);
}
