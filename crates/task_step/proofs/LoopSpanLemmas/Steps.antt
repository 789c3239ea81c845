-- Whether a number that lies one step behind another stands before a bound.
use Rattle.std.proofs.Common.{◌≡◌, ◌-◌, ◌^◌, Bool, true, false, Some, None, refl, arith, sym, ◌⊎◌, inl, inr, ◌∙◌}
use Rattle.std.specs.Prelude.{ℤ, pos, negsuc, ◌+ℤ◌, ◌-ℤ◌, ◌<ℤ◌, ◌≤ℤ◌, int_lt, if◌then◌else◌, FitsSigned}
use Rattle.std.specs.Int.{w128}
use Rattle.std.proofs.lemmas.Int.{ints}
use Rattle.py_value.specs.Integer.Integer.{held, is_whole}
use Rattle.rig_model.specs.Task.Blocks.{is_before}

falling : (z stop step : ℤ) → int_lt step (pos 0) ≡ true → is_before z stop step ≡ int_lt stop z
falling z stop (pos n) h = absurd (grind (arith, ints))
falling z stop (negsuc n) h = refl

rising : (z stop step : ℤ) → int_lt step (pos 0) ≡ false → is_before z stop step ≡ int_lt z stop
rising z stop (pos n) h = refl
rising z stop (negsuc n) h = absurd (cc)

chosen : (b : Bool) (z w : ℤ) → (if b then Some z else None) ≡ Some w → z ≡ w
chosen true z w e = cc
chosen false z w e = absurd (cc)

-- a number that a value can hold is held as it is
pub held_is : (z w : ℤ) → held z ≡ Some w → z ≡ w
unfolding held
held_is z w e = chosen (is_whole z) z w e

not_chosen : (b : Bool) (z : ℤ) → (if b then Some z else None) ≡ None → b ≡ false
not_chosen true z e = absurd (cc)
not_chosen false z e = refl

far : (z : ℤ) → is_whole z ≡ false → (pos (2 ^ 127 - 1) <ℤ z) ⊎ (z <ℤ negsuc (2 ^ 127 - 1))
far z e = grind (arith, ints)

held_far : (z : ℤ) → held z ≡ None → (pos (2 ^ 127 - 1) <ℤ z) ⊎ (z <ℤ negsuc (2 ^ 127 - 1))
unfolding held
held_far z e = far z (not_chosen (is_whole z) z e)

near_below : (z stop step bound : ℤ) → stop -ℤ step ≡ bound → int_lt bound z ≡ int_lt stop (z +ℤ step)
near_below z stop step bound e = grind (arith, ints)

near_above : (z stop step bound : ℤ) → stop -ℤ step ≡ bound → int_lt z bound ≡ int_lt (z +ℤ step) stop
near_above z stop step bound e = grind (arith, ints)

far_below : (z stop step : ℤ) → (pos (2 ^ 127 - 1) <ℤ (stop -ℤ step)) ⊎ ((stop -ℤ step) <ℤ negsuc (2 ^ 127 - 1))
    → negsuc (2 ^ 127 - 1) ≤ℤ z → z ≤ℤ pos (2 ^ 127 - 1) → int_lt stop step ≡ int_lt stop (z +ℤ step)
far_below z stop step (inl h) low high = grind (arith, ints)
far_below z stop step (inr h) low high = grind (arith, ints)

far_above : (z stop step : ℤ) → (pos (2 ^ 127 - 1) <ℤ (stop -ℤ step)) ⊎ ((stop -ℤ step) <ℤ negsuc (2 ^ 127 - 1))
    → negsuc (2 ^ 127 - 1) ≤ℤ z → z ≤ℤ pos (2 ^ 127 - 1) → int_lt step stop ≡ int_lt (z +ℤ step) stop
far_above z stop step (inl h) low high = grind (arith, ints)
far_above z stop step (inr h) low high = grind (arith, ints)

lowest : (z : ℤ) → FitsSigned w128 z → negsuc (2 ^ 127 - 1) ≤ℤ z
lowest z h = grind (arith, ints)

highest : (z : ℤ) → FitsSigned w128 z → z ≤ℤ pos (2 ^ 127 - 1)
highest z h = grind (arith, ints)

-- the bound a step before, where a value can hold it

pub bound_falling : (z stop step bound : ℤ) → int_lt step (pos 0) ≡ true → held (stop -ℤ step) ≡ Some bound
    → int_lt bound z ≡ is_before (z +ℤ step) stop step
bound_falling z stop step bound s e = near_below z stop step bound (held_is (stop -ℤ step) bound e) ∙ sym (falling (z +ℤ step) stop step s)

pub bound_rising : (z stop step bound : ℤ) → int_lt step (pos 0) ≡ false → held (stop -ℤ step) ≡ Some bound
    → int_lt z bound ≡ is_before (z +ℤ step) stop step
bound_rising z stop step bound s e = near_above z stop step bound (held_is (stop -ℤ step) bound e) ∙ sym (rising (z +ℤ step) stop step s)

-- and where none can

pub far_falling : (z stop step : ℤ) → int_lt step (pos 0) ≡ true → held (stop -ℤ step) ≡ None → FitsSigned w128 z
    → int_lt stop step ≡ is_before (z +ℤ step) stop step
far_falling z stop step s e h = far_below z stop step (held_far (stop -ℤ step) e) (lowest z h) (highest z h) ∙ sym (falling (z +ℤ step) stop step s)

pub far_rising : (z stop step : ℤ) → int_lt step (pos 0) ≡ false → held (stop -ℤ step) ≡ None → FitsSigned w128 z
    → int_lt step stop ≡ is_before (z +ℤ step) stop step
far_rising z stop step s e h = far_above z stop step (held_far (stop -ℤ step) e) (lowest z h) (highest z h) ∙ sym (rising (z +ℤ step) stop step s)

pub ruleset falls = (bound_falling, far_falling)

pub ruleset rises = (bound_rising, far_rising)
