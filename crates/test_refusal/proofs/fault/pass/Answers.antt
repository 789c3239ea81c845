-- From an item to the next.
use Rattle.std.proofs.Common.{arith, subst}
use Rattle.std.proofs.lemmas.List.{length-map}
use Rattle.py_syntax.specs.BlockTrees.{view_module, view_module_item}
use Rattle.test_refusal.specs.Pass.{IsStepTo, first_of_item}
use Rattle.test_refusal.specs.Places.{file_of_whole, items_to, place_of}
use Rattle.test_refusal.specs.declared.seen.Step as code
use Rattle.test_refusal.proofs.Scopes.{passed_on, seen_above, stopped_there}
use Rattle.test_refusal.proofs.Steps.{begun, ended}
use Rattle.test_refusal.proofs.fault.pass.Goals as goal

pub loop-above-init : goal.loop-above-init
loop-above-init c = begun _ _ _ (c.nothing-seen.ensures _)

pub step-requires : goal.step-requires
step-requires c = record {
  stands = c.of.ensures.stands;
  seen = seen_above c.args.whole.now c.of.result c.loop-above.above c.loop-above.seen c.of.ensures.whole c.of.ensures.above c.loop-above.invariant;
}

pub returns-in-Refused : goal.returns-in-Refused
returns-in-Refused c =
    stopped_there c.args.whole.now c.of.result c.loop-above.above c.loop-above.seen c.in-Refused.refusal c.of.ensures.stands c.of.ensures.whole c.of.ensures.above c.loop-above.invariant
    (subst (λ (s : code.Step). IsStepTo (file_of_whole c.of.result.whole.now) (items_to c.of.result) (first_of_item (file_of_whole c.of.result.whole.now) (place_of c.of.result)) s) c.in-Refused.is c.in_ok-next.ensures)

pub loop-above-preserved : goal.loop-above-preserved
loop-above-preserved c =
    passed_on c.args.whole.now c.of.result c.loop-above.above c.loop-above.seen c.in-On.more c.of.ensures.stands c.of.ensures.whole c.of.ensures.above c.loop-above.invariant
    (subst (λ (s : code.Step). IsStepTo (file_of_whole c.of.result.whole.now) (items_to c.of.result) (first_of_item (file_of_whole c.of.result.whole.now) (place_of c.of.result)) s) c.in-On.is c.in_ok-next.ensures)

pub returns : goal.returns
returns c =
    ended _ (view_module c.args.whole.now.file.now) c.loop-above.above c.loop-above.seen
    (let e = length-map c.args.whole.now.file.now.items.items view_module_item in
    let d = c.len-above-end.ensures in let o = c.args.whole.now.file.now.items.ok.0 in let t = c.loop-above-test.false in omega (arith, e, d, o, t))
    c.loop-above.invariant
