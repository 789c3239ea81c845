-- Products, divided and halved, and the answers for them.
use Rattle.std.proofs.Common.{◌≡◌, ℕ, zero, suc, ◌+◌, ◌*◌, ◌^◌, ◌<◌, ◌≤◌, nat_eq, Bool, true, false, Ok, Err, Some, None, if◌then◌else◌, refl, sym, ap, ◌∙◌, arith}
use Rattle.std.specs.Prelude.{◌/◌, ◌%◌, Option}
use Rattle.std.proofs.lemmas.Bool.{lt-ltb}
use Rattle.py_syntax.specs.declared.fault_kind.FaultKind.TheVariants.{ValueError}
use Rattle.py_value.specs.Answer.{Answer, answer_map}
use Rattle.py_value.specs.declared.time.steps.Steps.{Steps}
use Rattle.py_value.specs.Limits.{step_limit}
use Rattle.py_value.specs.Time.Times.{whole_steps}
use Rattle.py_value.specs.Time.Counts.{few, kept, some_steps}
use Rattle.std.proofs.Math.Nat.{div-add-mod, mul-add-div}
use Rattle.std.proofs.lemmas.Nat.{mul-mod_first, mul-mod}

split : (m q r f : ℕ) → (m * q + r) * f ≡ m * (q * f) + r * f
split m q r f = omega arith

pub divided : (n f m : ℕ) → 1 ≤ m → (n * f) / m ≡ n / m * f + (n % m * f) / m
divided n f m h =
    ap (λ (k : ℕ). (k * f) / m) (sym (div-add-mod n m))
    ∙ (ap (λ (k : ℕ). k / m) (split m (n / m) (n % m) f) ∙ mul-add-div h (n / m * f) (n % m * f))

pub rest : (n f m : ℕ) → (n * f) % m ≡ (n % m * f) % m
rest n f m = sym (mul-mod_first n f m)

halves : (p c : ℕ) → (p + c) % 2 ≡ (p % 2 + c % 2) % 2
halves p c = omega arith

half : (p d : ℕ) → (p % 2 + d) % 2 ≡ (p + d) % 2
half p d = omega arith

pub parity : (a b c : ℕ) → (a * b + c) % 2 ≡ (a % 2 * (b % 2) + c % 2) % 2
parity a b c = halves (a * b) c ∙ (ap (λ (k : ℕ). (k + c % 2) % 2) (mul-mod a b 2) ∙ half (a % 2 * (b % 2)) (c % 2))

-- ---- the answers

abbrev made : Option ℕ → Bool → Answer Steps
made f b = Ok (record { few = f; odd = b })

positive : (n : ℕ) → (n ≡ 0 → ⊥) → 0 < n
positive zero h = absurd (h refl)
positive (suc k) h = omega arith

some_are : (n : ℕ) → 0 < n → made (few n) (nat_eq (n % 2) 1) ≡ answer_map kept (some_steps n)
some_are n h = rw (lt-ltb 0 n h) refl

pub few_known : (n : ℕ) (odd : Bool) → (n ≡ 0 → ⊥) → odd ≡ nat_eq (n % 2) 1 → Ok (record { few = few n; odd = odd }) ≡ answer_map kept (some_steps n)
few_known n odd h e = ap (made (few n)) e ∙ some_are n (positive n h)

pub none_known : (n : ℕ) → n ≡ 0 → Err ValueError ≡ answer_map kept (some_steps n)
none_known zero h = refl
none_known (suc k) h = absurd (omega arith)

pub is_total : (t : Bool) (n m : ℕ) → Some n ≡ (if t then Some m else None) → n ≡ m
is_total true n m e = cc
is_total false n m e = absurd (cc)

pub is_far : (t : Bool) (m : ℕ) → None ≡ (if t then Some m else None) → t ≡ false
is_far true m e = absurd (cc)
is_far false m e = refl

far_few : (n : ℕ) → step_limit < n → few n ≡ None
far_few n h = rw (lt-ltb step_limit n h) refl

pub far_known : (n odd : ℕ) → 2 ^ 128 ≤ n → n % 2 ≡ odd → Ok (record { few = None; odd = nat_eq odd 1 }) ≡ answer_map kept (some_steps n)
far_known n odd h e =
    ap (λ (f : Option ℕ). made f (nat_eq odd 1)) (sym (far_few n (omega (arith, h))))
    ∙ (ap (λ (k : ℕ). made (few n) (nat_eq k 1)) (sym e) ∙ some_are n (omega (arith, h)))

differs : (x : ℕ) → (x ≡ 0 → ⊥) → nat_eq x 0 ≡ false
differs zero h = absurd (h refl)
differs (suc x) h = grind arith

refused_at : (t : Bool) (a : Answer ℕ) → t ≡ false → Err ValueError ≡ answer_map kept (if t then a else Err ValueError)
refused_at true a e = absurd (cc)
refused_at false a e = refl

pub refused : (n f m : ℕ) → ((n % m * f) % m ≡ 0 → ⊥) → Err ValueError ≡ answer_map kept (whole_steps m (n * f))
refused n f m h = refused_at (nat_eq ((n * f) % m) 0) _ (differs ((n * f) % m) (λ e. h (sym (rest n f m) ∙ e)))
