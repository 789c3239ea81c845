-- A function, which is the next.
use Rattle.std.proofs.Common.{List, Some, subst, sym}
use Rattle.std.specs.Prelude.{option_copied}
use Rattle.py_syntax.specs.BlockTrees.{block_of, view_module_item}
use Rattle.py_syntax.specs.declared.module.Parameter.{Parameter}
use Rattle.py_syntax.specs.declared.tree.ModuleItem as code
use Rattle.test_file.specs.Cases.Tested.{IsTested}
use Rattle.test_meaning.specs.Rules.Names.{Name}
use Rattle.test_file.specs.List.SoFar.{AreOne, function_at}
use Rattle.test_file.proofs.list.above.Above.function_at.Goals as goal

pub returns-in-Function : goal.returns-in-Function
returns-in-Function c =
    let l = c.in-Function.number.0 in
    let b = block_of c.in-Function.body.items in
    let k = c.args.self.now.count in
    let s = option_copied c.args.self.now.settings in
    subst (λ (i : code.ModuleItem). AreOne (function_at k s (view_module_item i)) (Some c.next.result)) (sym c.in-Function.is)
    (subst (λ (n : Name). IsTested (record { number = k; line = l; name = n; parameters = c.in-Function.parameters.items; body = b; options = s }) c.next.result) c.bytes.ensures
    (subst (λ (ps : List Parameter). IsTested (record { number = k; line = l; name = c.bytes.result.now; parameters = ps; body = b; options = s }) c.next.result) c.deref.ensures.value
    (c.next.ensures l b)))
