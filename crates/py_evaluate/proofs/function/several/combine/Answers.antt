use Rattle.std.proofs.Common.{◌≤◌, arith}
use Rattle.std.proofs.lemmas.Result.{err_from_is_err_and}
use Rattle.py_value.specs.Trigger as trigger
use Rattle.py_evaluate.proofs.AttributeLemmas.Want.{want_on}
use Rattle.std.specs.Prelude.{IsTrue}
use Rattle.std.specs.List.{list_all}
use Rattle.py_evaluate.specs.Function.Making.{is_waitable, parts, several}
use Rattle.py_evaluate.proofs.FunctionLemmas.Onward.{several_behind}
use Rattle.py_evaluate.proofs.function.several.combine.Goals as goal

pub returns-in_err-parts-clause-want : goal.returns-in_err-parts-clause-want
returns-in_err-parts-clause-want c =
    let p = err_from_is_err_and c.from_residual.result c.from_residual.ensures.1 in
    let behind = several_behind c.args.task trigger.Combine c.args.values.now c.args.next.now in
    rw (p.1, p.2)
    (want_on c.in_err-parts.field-0.0 (IsTrue (list_all is_waitable c.args.values.now) × (c.parts.new.next ≤ (parts c.args.task c.args.values.now c.args.next.now).next))
    (IsTrue (list_all is_waitable c.args.values.now) × (c.parts.new.next ≤ (several c.args.task trigger.Combine c.args.values.now c.args.next.now).next))
    (λ w. let h = w.1 in (w.0, omega (arith, h, behind))) c.in_err-parts.ensures.want)
