use Rattle.std.proofs.Common.{◌≤◌, arith}
use Rattle.std.proofs.lemmas.Result.{err_from_is_err_and}
use Rattle.std.specs.Prelude.{◌+◌, ◌++◌, ◌∷◌, [], drop}
use Rattle.py_evaluate.proofs.AttributeLemmas.Want.{wants, want_on}
use Rattle.py_evaluate.specs.Function.Making.{as_trigger, as_triggers}
use Rattle.py_evaluate.proofs.FunctionLemmas.Rows.{behind_begin, triggers_step, triggers_fault, triggers_end, rest_within, one_within}
use Rattle.py_evaluate.proofs.function.several.as_triggers.Goals as goal

pub loop-v-init : goal.loop-v-init
loop-v-init c = rw c.new-trigs.ensures (behind_begin (as_triggers c.args.task c.args.values.now c.args.next.now), omega arith)

pub returns-in_err-as_trigger-clause-ends : goal.returns-in_err-as_trigger-clause-ends
returns-in_err-as_trigger-clause-ends c =
    let p = err_from_is_err_and c.from_residual.result c.from_residual.ensures.1 in
    rw (p.1, p.2)
    (triggers_fault c.args.task c.loop-v.trigs.list.items c.args.values.now c.loop-v.v-index c.v-item.result c.loop-v.next c.as_trigger.new.next c.in_err-as_trigger.field-0.0
    (as_triggers c.args.task c.args.values.now c.args.next.now) c.loop-v-test.true c.v-item.is c.loop-v.invariant.0 c.in_err-as_trigger.ensures.ends)

pub returns-in_err-as_trigger-clause-want : goal.returns-in_err-as_trigger-clause-want
returns-in_err-as_trigger-clause-want c =
    let whole = as_triggers c.args.task c.args.values.now c.args.next.now in
    let o = as_trigger c.args.task c.v-item.result c.loop-v.next in
    let p = err_from_is_err_and c.from_residual.result c.from_residual.ensures.1 in
    let within = one_within c.args.task c.loop-v.trigs.list.items c.args.values.now c.loop-v.v-index c.v-item.result c.loop-v.next whole
    c.loop-v-test.true c.v-item.is c.loop-v.invariant.0 in
    rw (p.1, p.2)
    (want_on c.in_err-as_trigger.field-0.0 (c.as_trigger.new.next ≤ o.next) (c.as_trigger.new.next ≤ whole.next) (λ h. omega (arith, h, within)) c.in_err-as_trigger.ensures.want)

pub returns-in_err-push-clause-want : goal.returns-in_err-push-clause-want
returns-in_err-push-clause-want c =
    let whole = as_triggers c.args.task c.args.values.now c.args.next.now in
    let step = triggers_step c.args.task c.loop-v.trigs.list.items c.args.values.now c.loop-v.v-index c.v-item.result c.loop-v.next c.as_trigger.new.next c.in_ok-as_trigger.field-0
    whole c.loop-v-test.true c.v-item.is c.loop-v.invariant.0 c.in_ok-as_trigger.ensures.ends in
    wants _ (c.as_trigger.new.next ≤ whole.next)
    (rest_within c.args.task (c.loop-v.trigs.list.items ++ c.in_ok-as_trigger.field-0 ∷ []) (drop (c.loop-v.v-index + 1) c.args.values.now) c.as_trigger.new.next whole step)

pub loop-v-preserved : goal.loop-v-preserved
loop-v-preserved c =
    let before = c.loop-v.invariant.1 in
    let rises = c.in_ok-as_trigger.ensures.rises in
    let risen : c.args.next.now ≤ c.as_trigger.new.next = omega (arith, before, rises) in
    rw c.in_ok-push.ensures.ok (
      triggers_step c.args.task c.loop-v.trigs.list.items c.args.values.now c.loop-v.v-index c.v-item.result c.loop-v.next c.as_trigger.new.next c.in_ok-as_trigger.field-0
          (as_triggers c.args.task c.args.values.now c.args.next.now) c.loop-v-test.true c.v-item.is c.loop-v.invariant.0 c.in_ok-as_trigger.ensures.ends,
      risen,
    )

pub returns-clause-ends : goal.returns-clause-ends
returns-clause-ends c =
    triggers_end c.args.task c.loop-v.trigs.list.items c.args.values.now c.loop-v.v-index c.loop-v.next (as_triggers c.args.task c.args.values.now c.args.next.now)
    c.loop-v-test.false c.loop-v.invariant.0
