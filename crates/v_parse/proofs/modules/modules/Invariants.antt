use Rattle.std.proofs.Common.{◌≡◌, ◌-◌, map}
use Rattle.v_syntax.specs.declared.word.Keyword.TheVariants as word
use Rattle.v_syntax.specs.SourceTrees.{view_module}
use Rattle.v_parse.specs.Reading.{module_of, modules_of}
use Rattle.v_expression.specs.Phrase.Readers.{many_by, with_front, starts_word}
use Rattle.v_parse.proofs.modules.modules.Given as goal

abbrev pub invariant-loop : goal.invariant-loop
invariant-loop l =
    with_front (map view_module l.all.items) (many_by (starts_word word.Module) (module_of l.total l.room) (l.end - l.counter) l.rest) ≡ modules_of l.total l.room l.fn.tokens
