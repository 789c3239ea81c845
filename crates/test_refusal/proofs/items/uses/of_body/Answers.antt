-- The names of the function's own are those that were numbered.
use Rattle.std.proofs.Common.{◌≡◌, Option, IfOk, subst, take}
use Rattle.py_syntax.specs.BlockTrees.{block_of, view_module}
use Rattle.test_meaning.specs.Rules.File.{file_of}
use Rattle.test_meaning.specs.declared.rules.rule.Refusal.{Refusal}
use Rattle.test_names.specs.Scope.Around.{file_in}
use Rattle.test_refusal.proofs.ItemsLemmas.Lines.{numbered_block}
use Rattle.test_refusal.proofs.items.uses.of_body.Goals as goal

pub returns : goal.returns
returns c =
    subst (λ (r : Option Refusal). IfOk c.of_block.result (λ refusal. refusal ≡ r))
    (numbered_block (file_in c.args.scope.now) (file_of (take c.args.scope.now.above (view_module c.args.scope.now.whole.now))) c.in_ok-own.own _ (block_of c.args.body.now) c.in_ok-own.ensures)
    c.of_block.ensures
