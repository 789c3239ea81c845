-- The functions so far, and those of the items behind them.
use Rattle.std.proofs.Common.{◌≡◌, ◌++◌, map}
use Rattle.test_meaning.specs.Body.Views.{view_function}
use Rattle.test_functions.specs.Inside.{file_of_whole}
use Rattle.test_functions.proofs.Ordered.{made_from}
use Rattle.test_functions.proofs.file.functions_of.Given as goal

abbrev pub invariant-loop-item : goal.invariant-loop-item
invariant-loop-item l =
    map view_function l.made ++ made_from (file_of_whole l.whole) l.item-index l.whole.values.now.items.now ≡ made_from (file_of_whole l.whole) 0 l.whole.values.now.items.now
