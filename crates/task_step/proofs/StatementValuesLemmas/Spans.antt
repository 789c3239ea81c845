-- How many numbers may be drawn, and how many items a queue may hold.
use Rattle.std.proofs.Common.{◌≡◌, ℕ, suc, zero, ◌+◌, ◌-◌, ◌^◌, ◌<◌, ◌≤◌, Bool, true, false, Some, None, Ok, Err, refl, arith, sym, ap, ◌⊎◌, inl, inr, subst, add-one}
use Rattle.std.specs.Prelude.{ℤ, pos, negsuc, ◌+ℤ◌, ◌-ℤ◌, ◌<ℤ◌, ◌≤ℤ◌, if◌then◌else◌, Result, IfOk, IsTrue}
use Rattle.std.specs.Int.{w128, cast_unsigned}
use Rattle.std.proofs.lemmas.Bool.{le-leb, lt-leb}
use Rattle.std.proofs.lemmas.Int.{ints}
use Rattle.py_value.specs.Integer.Integer.{held, is_whole}
use Rattle.py_syntax.specs.declared.fault_kind.FaultKind.{FaultKind}
use Rattle.py_syntax.specs.declared.fault_kind.FaultKind.TheVariants.{ValueError}
use Rattle.py_value.specs.Answer.{Answer, answer_map}
use Rattle.py_value.specs.declared.value.Value.{Value}
use Rattle.rig_model.specs.Task.Values as values
use Rattle.rig_model.specs.Task.Values.{bound_of, span_limit, span_of}
use Rattle.rig_model.proofs.TaskLemmas.PartsKnown.{KnownDraw, drawn_known}
use Rattle.task_step.specs.StatementValues.Kept.{draw_in}
use Rattle.task_step.specs.declared.statement_values.draws.Draw.{Draw}

small : (y : ℤ) → y ≤ℤ pos 0 → span_of y ≡ Err ValueError
small (pos zero) h = refl
small (pos (suc n)) h = absurd (omega (arith, ints))
small (negsuc n) h = refl

large : (y : ℤ) → pos (2 ^ 32) <ℤ y → span_of y ≡ Err ValueError
large (pos zero) h = refl
large (pos (suc n)) h = rw (lt-leb (suc n) (2 ^ 32) (omega (arith, ints))) refl
large (negsuc n) h = refl

middle : (n : ℕ) → n < 2 ^ 32 → span_of (pos (n + 1)) ≡ Ok (n + 1)
middle n h = rw (add-one, le-leb (suc n) (2 ^ 32) (omega arith)) refl

pub count_none : (z : ℤ) → z <ℤ pos 0 → span_of (z +ℤ pos 1) ≡ Err ValueError
count_none z h = small (z +ℤ pos 1) (omega (arith, ints))

pub count_many : (z : ℤ) → pos (2 ^ 32) ≤ℤ z → span_of (z +ℤ pos 1) ≡ Err ValueError
count_many z h = large (z +ℤ pos 1) (omega (arith, ints))

pub count_some : (z : ℤ) → pos 0 ≤ℤ z → z <ℤ pos (2 ^ 32) → span_of (z +ℤ pos 1) ≡ Ok (cast_unsigned w128 z + 1)
count_some (pos n) l h = middle n (omega (arith, ints))
count_some (negsuc n) l h = absurd (omega (arith, ints))

pub ruleset counts = (count_none, count_many, count_some)

pub bound_none : (z : ℤ) → z <ℤ pos 0 → bound_of z ≡ Ok 0
bound_none (pos n) h = absurd (omega (arith, ints))
bound_none (negsuc n) h = refl

pub bound_many : (z : ℤ) → pos 65536 <ℤ z → bound_of z ≡ Err ValueError
bound_many (pos n) h = rw (lt-leb n 65536 (omega (arith, ints))) refl
bound_many (negsuc n) h = absurd (omega (arith, ints))

pub bound_some : (z : ℤ) → pos 0 ≤ℤ z → z ≤ℤ pos 65536 → bound_of z ≡ Ok (cast_unsigned w128 z)
bound_some (pos n) l h = rw (le-leb n 65536 (omega (arith, ints))) refl
bound_some (negsuc n) l h = absurd (omega (arith, ints))

pub ruleset bounds = (bound_none, bound_many, bound_some)

-- ---- differences that no value can hold

not_chosen : (b : Bool) (z : ℤ) → None ≡ (if b then Some z else None) → b ≡ false
not_chosen true z e = absurd (cc)
not_chosen false z e = refl

far : (z : ℤ) → is_whole z ≡ false → (pos (2 ^ 127 - 1) <ℤ z) ⊎ (z <ℤ negsuc (2 ^ 127 - 1))
far z e = grind (arith, ints)

far_span : (z : ℤ) → (pos (2 ^ 127 - 1) <ℤ z) ⊎ (z <ℤ negsuc (2 ^ 127 - 1)) → span_of (z +ℤ pos 1) ≡ Err ValueError
far_span z (inl h) = count_many z (omega (arith, ints))
far_span z (inr h) = count_none z (omega (arith, ints))

pub span_lost : (z : ℤ) → None ≡ held z → span_of (z +ℤ pos 1) ≡ Err ValueError
unfolding held
span_lost z e = far_span z (far z (not_chosen (is_whole z) z e))

chosen : (b : Bool) (z w : ℤ) → Some w ≡ (if b then Some z else None) → w ≡ z
chosen true z w e = cc
chosen false z w e = absurd (cc)

pub span_held : (z w : ℤ) → Some w ≡ held z → span_of (w +ℤ pos 1) ≡ span_of (z +ℤ pos 1)
unfolding held
span_held z w e = ap (λ (y : ℤ). span_of (y +ℤ pos 1)) (chosen (is_whole z) z w e)

-- ---- what is drawn is known

pub kept_known : (x y : Value) (r : Result Draw FaultKind) → answer_map draw_in r ≡ values.drawn x y
    → IfOk r (λ d. (1 ≤ d.span) × IsTrue (is_whole d.low) × IsTrue (is_whole (d.low +ℤ pos d.span -ℤ pos 1)))
kept_known x y (Ok d) e = subst (λ (a : Answer values.Draw). IfOk a KnownDraw) (sym e) (drawn_known x y)
kept_known x y (Err kind) e = tt
