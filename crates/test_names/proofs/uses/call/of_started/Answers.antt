-- The uses of a call, from those of its arguments.
use Rattle.std.proofs.Common.{◌≡◌, ◌∙◌, List, sym, ap, subst, IfOk}
use Rattle.test_meaning.specs.Rules.Uses.{Use, call_uses}
use Rattle.py_syntax.specs.StatementTrees.{view_started}
use Rattle.py_syntax.specs.declared.call.StartedCall.{StartedCall}
use Rattle.test_names.specs.Uses.Answer.{answer}
use Rattle.test_names.proofs.UsesLemmas.Answers.{both}
use Rattle.test_names.proofs.UsesLemmas.Rows.{function_uses, values_of}
use Rattle.test_names.proofs.uses.call.of_started.Goals as goal

pub returns-in-Function : goal.returns-in-Function
returns-in-Function g c =
    let f = g.S.Scope.file c.args.scope.now in
    let a = g.S.Scope.around c.args.scope.now in
    subst (λ (s : StartedCall). IfOk c.of_function_call.result (λ rule. rule ≡ answer f a (call_uses (view_started s)))) (sym c.in-Function.is)
    (subst (λ (us : List Use). IfOk c.of_function_call.result (λ rule. rule ≡ answer f a us)) (function_uses _ _ _ _ c.bytes.ensures c.deref.ensures.value)
    c.of_function_call.ensures)

pub returns-in-Clock : goal.returns-in-Clock
returns-in-Clock g c =
    let f = g.S.Scope.file c.args.scope.now in
    let a = g.S.Scope.around c.args.scope.now in
    subst (λ (s : StartedCall). c.first_of.result ≡ answer f a (call_uses (view_started s))) (sym c.in-Clock.is)
    (both f a _ _ _ _ _ c.first_of.ensures c.of_tree.ensures (c.of_arguments.ensures ∙ ap (λ us. answer f a us) (values_of _ _ c.deref-in-Clock.ensures.value)))
