-- The question of a `for` is what it finds.
use Rattle.std.proofs.Common.{◌≡◌, ℕ, Bool, true, false, List, [], ◌∷◌, refl, sym, Option, Some, None, Ok, Err, if◌then◌else◌}
use Rattle.std.specs.Prelude.{ℤ, ◌+ℤ◌}
use Rattle.py_value.specs.Integer.Integer.{held}
use Rattle.py_value.specs.Operator.Number.{whole}
use Rattle.test_meaning.specs.Body.BodyTrees.{Block}
use Rattle.rig_model.specs.Task.Frame.{Left, Numbers, Listed}
use Rattle.rig_model.specs.Task.Moves.{At}
use Rattle.rig_model.specs.Task.Blocks.{is_before, ask_number, ask_next}
use Rattle.py_syntax.specs.declared.fault_kind.FaultKind.TheVariants.{OverflowError}
use Rattle.py_value.specs.Answer.{Answer}
use Rattle.py_value.specs.declared.value.Value.{Value}
use Rattle.py_value.specs.declared.value.Value.TheVariants.{Whole}
use Rattle.task_step.specs.LoopSpan.Question.{Found, found, asked}
use Rattle.task_step.proofs.LoopSpanLemmas.Steps.{held_is}

number_asked : (b : Bool) (n : List ℕ) (z stop step : ℤ) (block : Block) (a : At)
    → ask_number b n z stop step block a ≡ asked n (if b then Some (record { element = whole (held z); left = Numbers (z +ℤ step) stop step }) else None) block a
number_asked true n z stop step block a = refl
number_asked false n z stop step block a = refl

pub asks_found : (n : List ℕ) (left : Left) (block : Block) (a : At) → ask_next n left block a ≡ asked n (found left) block a
asks_found n (Numbers z stop step) block a = number_asked (is_before z stop step) n z stop step block a
asks_found n (Listed []) block a = refl
asks_found n (Listed (c ∷ cs)) block a = refl

-- ---- the next number of a range

abbrev pub finding : Answer Value → Left → Option Found
finding element left = Some (record { element = element; left = left })

abbrev pub number_or_none : Bool → ℤ → ℤ → ℤ → Option Found
number_or_none b z stop step = if b then finding (whole (held z)) (Numbers (z +ℤ step) stop step) else None

found_at : (o : Option ℤ) (z stop step w : ℤ) → o ≡ Some w → z ≡ w
    → finding (whole o) (Numbers (z +ℤ step) stop step) ≡ finding (Ok (Whole w)) (Numbers (w +ℤ step) stop step)
found_at None z stop step w e h = absurd (cc)
found_at (Some y) z stop step w e h = cc

-- one that a value can hold
pub number_found : (b : Bool) (z stop step w : ℤ) → b ≡ true → Some w ≡ held z
    → number_or_none b z stop step ≡ finding (Ok (Whole w)) (Numbers (w +ℤ step) stop step)
number_found true z stop step w t e = found_at (held z) z stop step w (sym e) (held_is z w (sym e))
number_found false z stop step w t e = absurd (cc)

lost_at : (o : Option ℤ) (left : Left) → o ≡ None → finding (whole o) left ≡ finding (Err OverflowError) left
lost_at None left e = refl
lost_at (Some y) left e = absurd (cc)

-- and one that none can
pub number_lost : (b : Bool) (z stop step : ℤ) → b ≡ true → None ≡ held z
    → (left : Left) × (number_or_none b z stop step ≡ finding (Err OverflowError) left)
number_lost true z stop step t e = (Numbers (z +ℤ step) stop step, lost_at (held z) (Numbers (z +ℤ step) stop step) (sym e))
number_lost false z stop step t e = absurd (cc)
