use Rattle.std.proofs.Common.{◌≡◌, ◌≤◌, ◌*◌, ◌-◌, ◌^◌, min, drop}
use Rattle.test_meaning.specs.Factory.Product.{case_count, case_limit}
use Rattle.test_meaning.specs.Factory.Options.{choices}
use Rattle.test_meaning.proofs.factory.factory.Factory.case_count.Given as goal

abbrev pub invariant-loop-option : goal.invariant-loop-option
invariant-loop-option l = record {
  counted : min (l.count * case_count (drop l.option-index (choices l.option-items))) (2 ^ 64 - 1) ≡ case_count (choices l.option-items);
  few : case_count (choices l.option-items) ≤ case_limit;
}
