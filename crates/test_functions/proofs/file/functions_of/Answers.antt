-- The functions of all items, and those of the library.
use Rattle.std.proofs.Common.{refl}
use Rattle.test_functions.specs.Inside.{file_of_whole}
use Rattle.test_functions.proofs.Ordered.{if_others}
use Rattle.test_functions.proofs.file.functions_of.Goals as goal

pub returns : goal.returns
returns c =
    if_others (file_of_whole c.args.whole.now) c.args.whole.now.values.now.items.now c.loop-item.item-index c.loop-item.made _ refl
    c.loop-item-test.false c.loop-item.invariant c.with_library.ensures
