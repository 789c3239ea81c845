-- A means of proof: what is made of operands, by their widths and their values in a context.
use Rattle.std.specs.Prelude.{◌≡◌, ℕ, max, List}
use Rattle.four_value.specs.declared.Digit.{Digit}
use Rattle.gpi.specs.declared.terms.Term.{Term}
use Rattle.gpi.specs.Operators.{truth, choose}
use Rattle.gpi.specs.Terms.{IsWidth}
use Rattle.v_flat.specs.declared.scope.found.Found.{Found}
pub use Rattle.v_flat.specs.Scope.Found.{EachIs}
use Rattle.v_check.specs.declared.contextual.contextual.Contextual.{Contextual}
use Rattle.v_check.specs.Contextual.Contexts.{value_in, IsSound, IsLowered}
use Rattle.v_flat.specs.declared.operators.UnaryClass.{UnaryClass}
use Rattle.v_flat.specs.declared.operators.BinaryClass.{BinaryClass}
use Rattle.v_flat.specs.Expressions.{unary_width, binary_width, operand_width, left_width, right_width, of_one, of_two}
use Rattle.v_check.specs.declared.constants.checked.Checked.{Checked}

-- c has this width by itself, this value in each context, and is sound where this holds
pub record Makes (c : Checked) (n : ℕ) (v : ℕ → (ℕ → List Digit) → List Digit) (Sound : List ℕ → Type 0) : Type 0 where
  pub width_is : c.width ≡ n
  pub value_is : (w : ℕ) (m : ℕ → List Digit) → value_in c.form w m ≡ v w m
  pub sound : (ws : List ℕ) → Sound ws → IsSound c.form ws

-- it is sound, and its width is that of a vector
abbrev pub IsOperand : Checked → List ℕ → Type 0
IsOperand a ws = IsWidth a.width × IsSound a.form ws

abbrev pub MakesUnary : UnaryClass → Checked → Checked → Type 0
MakesUnary o a c = Makes c (unary_width o a.width) (λ w m. of_one o (value_in a.form (operand_width o w a.width) m) w) (IsOperand a)

abbrev pub MakesBinary : BinaryClass → Checked → Checked → Checked → Type 0
MakesBinary o a b c = Makes c (binary_width o a.width b.width)
    (λ w m. of_two o (value_in a.form (left_width o w a.width b.width) m) (value_in b.form (right_width o w a.width b.width) m) w)
    (λ ws. IsOperand a ws × IsOperand b ws)

abbrev pub MakesConditional : Checked → Checked → Checked → Checked → Type 0
MakesConditional t a b c = Makes c (max a.width b.width)
    (λ w m. choose (truth (value_in t.form t.width m)) (value_in a.form w m) (value_in b.form w m))
    (λ ws. IsOperand t ws × (IsOperand a ws × IsOperand b ws))

abbrev pub AreLowered : Contextual → ℕ → Contextual → ℕ → Term × Term → Type 0
AreLowered a v b w x = IsLowered a v x.0 × IsLowered b w x.1

abbrev pub AreUnary : UnaryClass → Found Checked → Found Checked → Type 0
AreUnary o x f = EachIs (λ (a c : Checked). MakesUnary o a c) x f

abbrev pub AreBinary : BinaryClass → Found (Checked × Checked) → Found Checked → Type 0
AreBinary o x f = EachIs (λ (p : Checked × Checked) (c : Checked). MakesBinary o p.0 p.1 c) x f

abbrev pub AreConditional : Found (Checked × (Checked × Checked)) → Found Checked → Type 0
AreConditional x f = EachIs (λ (p : Checked × (Checked × Checked)) (c : Checked). MakesConditional p.0 p.1.0 p.1.1 c) x f
