-- An instance from its beginning to its end, its items one after the other, and one that is an instance.
use Rattle.std.proofs.Common.{◌≡◌, List, length, map, refl, ap, subst, arith}
use Rattle.v_syntax.specs.declared.item.Item.{Item}
use Rattle.v_syntax.specs.SourceTrees.{view_item, view_module}
use Rattle.v_header.specs.Names.{texts}
use Rattle.v_elab.specs.Enters.{Leaves}
use Rattle.v_elab.specs.Closes.{Closes}
use Rattle.v_elab.specs.WalkSteps.{Passes, over_items}
use Rattle.v_elab.proofs.WalkInner.{inner_broken, inner_passed, not_entered}
use Rattle.v_elab.proofs.Passed.{item_broken, item_passed, items_passed, none_left}
use Rattle.v_elab.proofs.WalkWhole.{beginning_broken, instance_walked, items_broken}
use Rattle.v_elab.proofs.walk.+instances.Goals as goal

pub instance-returns-in_ok-closed-in-Ok-2 : goal.instance-returns-in_ok-closed-in-Ok-2
instance-returns-in_ok-closed-in-Ok-2 t c =
    let l = c.args.level.now in
    let e : c.len-node.result ≡ length c.args.parts.nodes.items = let k = c.args.parts.nodes.ok in let n = c.len-node.ensures in omega (arith, n, k.0) in
    instance_walked l (view_module c.args.module.now) c.args.outside c.args.parts c.in_ok-state.field-0 c.in-Ok.state c.of.result c.in_ok-walked-in-Ok.field-0 c.in_ok-state.ensures c.in-Ok.is
    c.of.ensures.is c.of.ensures.none
    (subst (λ (is : List Item). Passes l (over_items l (map view_item is)) c.of.result c.in_ok-walked-in-Ok.field-0) c.deref.ensures.value c.in_ok-walked-in-Ok.ensures)
    c.in-Ok-2.walked c.in_ok-closed-in-Ok-2.field-0 c.in-Ok-2.is (subst (λ n. Closes l.path.now n c.in-Ok-2.walked.state c.in_ok-closed-in-Ok-2.field-0) e c.in_ok-closed-in-Ok-2.ensures)

pub instance-returns-in-Err-2 : goal.instance-returns-in-Err-2
instance-returns-in-Err-2 t c =
    let l = c.args.level.now in
    items_broken l (view_module c.args.module.now) c.args.outside c.args.parts c.in_ok-state.field-0 c.in-Ok.state c.of.result c.in_ok-walked-in-Ok.field-0 c.in_ok-state.ensures c.in-Ok.is
    c.of.ensures.is c.of.ensures.none
    (subst (λ (is : List Item). Passes l (over_items l (map view_item is)) c.of.result c.in_ok-walked-in-Ok.field-0) c.deref.ensures.value c.in_ok-walked-in-Ok.ensures)
    c.in-Err-2.fault c.in-Err-2.is

pub instance-returns-in-Err : goal.instance-returns-in-Err
instance-returns-in-Err t c =
    beginning_broken c.args.level.now (view_module c.args.module.now) c.args.outside c.args.parts c.in_ok-state.field-0 c.in-Err.fault c.in_ok-state.ensures c.in-Err.is

pub items-loop-item-init : goal.items-loop-item-init
items-loop-item-init t c = none_left c.args.level.now (map view_item c.args.items.now) c.args.walked c.requires

pub items-returns-in-Err : goal.items-returns-in-Err
items-returns-in-Err t c =
    item_broken c.args.level.now c.args.items.now c.loop-item.item-index c.item-item.result c.args.walked c.loop-item.walked c.in_ok-more.field-0 c.in-Err.fault c.loop-item-test.true
    c.item-item.is c.loop-item.invariant c.in_ok-more.ensures c.in-Err.is

pub items-loop-item-preserved : goal.items-loop-item-preserved
items-loop-item-preserved t c =
    item_passed c.args.level.now c.args.items.now c.loop-item.item-index c.item-item.result c.args.walked c.loop-item.walked c.in-Ok.more c.in_ok-more.field-0 c.loop-item-test.true
    c.item-item.is c.loop-item.invariant c.in_ok-more.ensures c.in-Ok.is

pub items-returns : goal.items-returns
items-returns t c = items_passed c.args.level.now c.args.items.now c.loop-item.item-index c.args.walked c.loop-item.walked c.loop-item-test.false c.loop-item.invariant

pub one_item-returns-in-Ok-2 : goal.one_item-returns-in-Ok-2
one_item-returns-in-Ok-2 t c =
    inner_passed c.args.level.now _ c.in-Some.inner c.args.walked c.in_ok-entered-in-Some.field-0 c.in-Ok.entered c.in_ok-parts-in-Ok.field-0 c.requires c.in_ok-entered-in-Some.ensures c.in-Ok.is
    (record { modules = refl; above = ap texts c.deref.ensures.value; room = refl; path = c.deref-in-Ok.ensures.value; timing = c.timing_in-timing.ensures }) c.in_ok-parts-in-Ok.ensures (view_item c.args.item.now)
    c.in-Ok-2.parts c.in_ok-leave-in-Ok-2.field-0 c.in-Some.ensures c.in-Ok-2.is
    (subst (λ n. Leaves n c.in-Ok.entered.waiting c.in-Ok-2.parts c.in_ok-leave-in-Ok-2.field-0) c.bytes.ensures c.in_ok-leave-in-Ok-2.ensures)

pub one_item-returns-in-Ok : goal.one_item-returns-in-Ok
one_item-returns-in-Ok t c =
    inner_broken c.args.level.now _ c.in-Some.inner c.args.walked c.in_ok-entered-in-Some.field-0 c.in-Ok.entered c.in_ok-parts-in-Ok.field-0 c.requires c.in_ok-entered-in-Some.ensures c.in-Ok.is
    (record { modules = refl; above = ap texts c.deref.ensures.value; room = refl; path = c.deref-in-Ok.ensures.value; timing = c.timing_in-timing.ensures }) c.in_ok-parts-in-Ok.ensures (view_item c.args.item.now)
    c.in-Err-2.fault c.in-Some.ensures c.in-Err-2.is

pub one_item-returns-in-Some : goal.one_item-returns-in-Some
one_item-returns-in-Some t c =
    not_entered c.args.level.now c.in-Some.inner c.args.walked c.in_ok-entered-in-Some.field-0 (view_item c.args.item.now) c.in-Err.fault c.in_ok-entered-in-Some.ensures c.in-Some.ensures
    c.in-Err.is
