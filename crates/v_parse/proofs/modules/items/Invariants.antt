use Rattle.std.proofs.Common.{◌≡◌, ◌-◌, map}
use Rattle.v_syntax.specs.SourceTrees.{view_item}
use Rattle.v_parse.specs.Item.Firsts.{starts_item}
use Rattle.v_parse.specs.Item.Reading.{item_of}
use Rattle.v_parse.specs.Reading.{items_of}
use Rattle.v_expression.specs.Phrase.Readers.{many_by, with_front}
use Rattle.v_parse.proofs.modules.items.Given as goal

abbrev pub invariant-loop : goal.invariant-loop
invariant-loop l =
    with_front (map view_item l.all.items) (many_by (starts_item) (item_of l.total l.room) (l.end - l.counter) l.rest) ≡ items_of l.total l.room l.fn.tokens
