-- A means of proof: the value of an expression in a context of w digits (IEEE 1364-2005, clause 5.4), where what stands by itself is
-- settled, for the proofs of elaboration.
use Rattle.std.specs.Prelude.{◌≡◌, ℕ, List}
use Rattle.four_value.specs.declared.Digit.{Digit}
use Rattle.four_value.specs.Vector.{resize}
use Rattle.gpi.specs.declared.operators.Unary.{Unary}
use Rattle.gpi.specs.declared.operators.Arith.{Arith}
use Rattle.gpi.specs.declared.operators.Shift.{Shift}
use Rattle.gpi.specs.declared.terms.Term.{Term}
use Rattle.gpi.specs.Operators.{truth, unary_value, arith_value, shift_value, choose}
use Rattle.gpi.specs.Terms.{value, IsWidth}
use Rattle.gpi.specs.Terms as term
use Rattle.gpi.specs.Made.{Makes}
use Rattle.v_check.specs.declared.contextual.contextual.Contextual.{Contextual}
use Rattle.v_check.specs.declared.contextual.contextual.Contextual.TheVariants.{Settled, Unary', Arith', Shift', Conditional'}

abbrev pub value_in : Contextual → ℕ → (ℕ → List Digit) → List Digit
value_in (Settled t) w m = resize (value t m) w
value_in (Unary' op p a) w m = unary_value op (value_in a w m)
value_in (Arith' op p a q b) w m = arith_value op (value_in a w m) (value_in b w m)
value_in (Shift' op p a t) w m = shift_value op (value_in a w m) (value t m)
value_in (Conditional' t p a q b) w m = choose (truth (value t m)) (value_in a w m) (value_in b w m)

-- each settled part is sound; ws are the widths of the signals
abbrev pub IsSound : Contextual → List ℕ → Type 0
IsSound (Settled t) ws = term.IsSound t ws
IsSound (Unary' op p a) ws = IsSound a ws
IsSound (Arith' op p a q b) ws = IsSound a ws × IsSound b ws
IsSound (Shift' op p a t) ws = IsSound a ws × term.IsSound t ws
IsSound (Conditional' t p a q b) ws = term.IsSound t ws × (IsSound a ws × IsSound b ws)

-- c has this value in each context, and is sound where this holds
pub record MakesIn (c : Contextual) (v : ℕ → (ℕ → List Digit) → List Digit) (Sound : List ℕ → Type 0) : Type 0 where
  pub value_is : (w : ℕ) (m : ℕ → List Digit) → value_in c w m ≡ v w m
  pub sound : (ws : List ℕ) → Sound ws → IsSound c ws

abbrev pub MakesUnary : Unary → Contextual → Contextual → Type 0
MakesUnary op a c = MakesIn c (λ w m. unary_value op (value_in a w m)) (IsSound a)

abbrev pub MakesArith : Arith → Contextual → Contextual → Contextual → Type 0
MakesArith op a b c = MakesIn c (λ w m. arith_value op (value_in a w m) (value_in b w m)) (λ ws. IsSound a ws × IsSound b ws)

abbrev pub MakesShift : Shift → Contextual → Term → Contextual → Type 0
MakesShift op a t c = MakesIn c (λ w m. shift_value op (value_in a w m) (value t m)) (λ ws. IsSound a ws × term.IsSound t ws)

abbrev pub MakesConditional : Term → Contextual → Contextual → Contextual → Type 0
MakesConditional t a b c = MakesIn c (λ w m. choose (truth (value t m)) (value_in a w m) (value_in b w m)) (λ ws. term.IsSound t ws × (IsSound a ws × IsSound b ws))

-- t is c in a context of w digits
abbrev pub IsLowered : Contextual → ℕ → Term → Type 0
IsLowered c w t = Makes t (value_in c w) w (λ ws. IsSound c ws × IsWidth w)
