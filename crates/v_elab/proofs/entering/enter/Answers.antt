-- The module, what it is given, and all of it.
use Rattle.std.proofs.Common.{◌≡◌, length, subst, arith}
use Rattle.v_header.specs.Names.{texts}
use Rattle.v_header.specs.Top.Found.{modules_of}
use Rattle.v_elab.specs.InnerSteps.{IsThere}
use Rattle.v_elab.proofs.InnerMade.{enters_ok, not_there, unchecked}
use Rattle.v_elab.proofs.entering.enter.Goals as goal

pub returns-in-Ok-2 : goal.returns-in-Ok-2
returns-in-Ok-2 c =
    let l = c.args.level.now in
    let i = c.args.inner.now in
    let e : c.len-instances.result ≡ length c.args.walked.state.parts.nodes.items = let k = c.args.walked.state.parts.nodes.ok in let n = c.len-instances.ensures in omega (arith, n, k.0) in
    enters_ok l i c.args.walked c.module_there.result c.in-Ok.module c.in_ok-outside-in-Ok.field-0 c.in-Ok-2.outside c.in-Ok-2.walked c.in_ok-made-in-Ok-2.field-0
    (subst (λ n. IsThere i.module.now l.room (modules_of l.modules.now) (texts l.above.now) n c.module_there.result) e c.module_there.ensures) c.in-Ok.is c.in_ok-outside-in-Ok.ensures c.in-Ok-2.is
    c.in_ok-made-in-Ok-2.ensures

pub returns-in-Ok : goal.returns-in-Ok
returns-in-Ok c =
    let l = c.args.level.now in
    let i = c.args.inner.now in
    let e : c.len-instances.result ≡ length c.args.walked.state.parts.nodes.items = let k = c.args.walked.state.parts.nodes.ok in let n = c.len-instances.ensures in omega (arith, n, k.0) in
    unchecked l i c.args.walked c.module_there.result c.in-Ok.module c.in_ok-outside-in-Ok.field-0 c.in-Err-2.fault
    (subst (λ n. IsThere i.module.now l.room (modules_of l.modules.now) (texts l.above.now) n c.module_there.result) e c.module_there.ensures) c.in-Ok.is c.in_ok-outside-in-Ok.ensures c.in-Err-2.is

pub returns : goal.returns
returns c =
    let l = c.args.level.now in
    let i = c.args.inner.now in
    let e : c.len-instances.result ≡ length c.args.walked.state.parts.nodes.items = let k = c.args.walked.state.parts.nodes.ok in let n = c.len-instances.ensures in omega (arith, n, k.0) in
    not_there l i c.args.walked c.module_there.result c.in-Err.fault
    (subst (λ n. IsThere i.module.now l.room (modules_of l.modules.now) (texts l.above.now) n c.module_there.result) e c.module_there.ensures) c.in-Err.is
