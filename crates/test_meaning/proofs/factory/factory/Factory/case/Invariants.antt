use Rattle.std.proofs.Common.{◌≡◌, ◌<◌, ◌++◌, drop, map}
use Rattle.test_meaning.specs.Factory.Product.{case_count, case_at}
use Rattle.test_meaning.specs.Factory.Options.{choices, chosen}
use Rattle.test_meaning.proofs.factory.factory.Factory.case.Given as goal

abbrev pub invariant-loop-option : goal.invariant-loop-option
invariant-loop-option l = record {
  rest_is : l.rest ≡ case_count (drop l.option-index (choices l.option-items));
  below : l.number < l.rest;
  digits : map chosen l.values.items ++ case_at (drop l.option-index (choices l.option-items)) l.number ≡ case_at (choices l.option-items) l.fn.i;
}
