use Rattle.std.proofs.Common.{◌≡◌, ◌-◌}
use Rattle.v_syntax.specs.TokenMeanings.{event_separator}
use Rattle.v_parse.specs.Item.Firsts.{starts_separator}
use Rattle.v_parse.specs.Item.Reading.{event_reader, event_list_of}
use Rattle.v_expression.specs.Phrase.Readers.{many_by, with_front, token_of, ◌▹◌}
use Rattle.v_parse.proofs.item.processes.event_list.Given as goal

abbrev pub invariant-loop : goal.invariant-loop
invariant-loop l =
    with_front l.all.items (many_by (starts_separator) (token_of event_separator ▹ event_reader l.total) (l.end - l.counter) l.rest) ≡ event_list_of l.total l.fn.tokens
