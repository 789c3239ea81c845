use Rattle.test_meaning.proofs.FactoryLemmas.Product.{turn_at, digits_more, chosen_all, Turn}
use Rattle.test_meaning.specs.Factory.Options.{choices, chosen}
use Rattle.std.proofs.Common.{◌∙◌, ap}
use Rattle.test_meaning.proofs.factory.factory.Factory.case.Goals as goal
use Rattle.test_meaning.proofs.factory.factory.Factory.case.Goals.{After-value_count}

turn : (c : After-value_count) → Turn c.deref-option-items.result.now c.loop-option.option-index c.loop-option.rest c.loop-option.number c.value_count.result c.option-item.result
turn c = turn_at c.deref-option-items.result.now c.loop-option.option-index c.loop-option.rest c.loop-option.number c.value_count.result
    c.option-item.result c.loop-option-test.true c.option-item.is c.value_count.ensures c.loop-option.invariant.rest_is c.loop-option.invariant.below

pub nonzero_div-rest : goal.nonzero_div-rest
nonzero_div-rest c = (turn c).some

pub nonzero_div-number : goal.nonzero_div-number
nonzero_div-number c = (turn (goal.at.nonzero_div-number c).After-value_count).positive

pub chosen_value-requires : goal.chosen_value-requires
chosen_value-requires c = (turn (goal.at.chosen_value-requires c).After-value_count).within

pub nonzero_rem-number : goal.nonzero_rem-number
nonzero_rem-number c = (turn (goal.at.nonzero_rem-number c).After-value_count).positive

pub loop-option-preserved : goal.loop-option-preserved
loop-option-preserved c =
    let t = turn (goal.at.loop-option-preserved c).After-value_count in
    record {
      rest_is = t.left;
      below = t.below;
      digits = digits_more chosen _ _ _ _ _ _ _ c.in_ok-push.ensures.items c.in_ok-chosen_value.ensures t.digits c.loop-option.invariant.digits;
    }

pub returns : goal.returns
returns c = chosen_all c.deref-option-items.result.now _ c.loop-option.option-index c.loop-option.number c.args.i _ c.loop-option-test.false
    (ap choices c.deref-option-items.ensures.value ∙ c.self.view_is) c.requires c.loop-option.invariant.digits
