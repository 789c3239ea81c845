use Rattle.std.proofs.Common.{◌++◌, ◌∙◌, ap, option_to_list}
use Rattle.command.proofs.FirstSteps.{where_none}
use Rattle.command.proofs.process.behind_name.Goals as goal

pub returns : goal.returns
returns c = record {
  program = c.next-program.result;
  only_empty = where_none _ _ _ c.next-program.result c.next-program.ensures.cases;
  left = c.next.new.self;
  all = c.next-program.ensures.items ∙ ap (λ rest. option_to_list c.next-program.result ++ rest) (c.loop-word.invariant ∙ ap (λ rest. c.loop-word.words.items ++ rest) c.in_default.ensures.items);
  none_left = c.in_default.ensures.cases.1;
}
