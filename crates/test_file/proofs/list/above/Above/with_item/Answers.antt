-- Each table goes on.
use Rattle.std.proofs.Common.{ap, sym, ◌∙◌}
use Rattle.std.specs.Prelude.{option_copied}
use Rattle.py_syntax.specs.BlockTrees.{view_module_item}
use Rattle.test_meaning.specs.Rules.File.{file_of}
use Rattle.test_file.specs.List.SoFar.{function_at, number_behind}
use Rattle.test_file.proofs.ListLemmas.Behind.{count_more, settings_more}
use Rattle.test_file.proofs.ListLemmas.Steps.{functions_of_more}
use Rattle.test_file.proofs.list.above.Above.with_item.Goals as goal

pub returns : goal.returns
returns c = λ f xs is.
    let x = view_module_item c.args.item.now in
    record {
      functions = functions_of_more f xs x c.args.self c.in_ok-functions.functions is
          (c.in_ok-functions.ensures (file_of xs).functions (function_at c.args.self.count (option_copied c.args.self.settings) x) is.functions c.function_at-function.ensures);
      factories = c.in_ok-factories.ensures xs is.factories;
      options = c.in_ok-options.ensures f xs is.options;
      count = c.in_ok-count.ensures ∙ ap (λ k. number_behind k x) is.count ∙ count_more xs x;
      settings = c.settings_at.ensures ∙ sym (settings_more _ xs x);
    }
