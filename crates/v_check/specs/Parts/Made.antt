-- A means of proof: what is made of parts, by their terms.
use Rattle.std.specs.Prelude.{◌≡◌, ℕ, ◌+◌, ◌*◌, ◌≤◌, List, [], ◌∷◌, ◌++◌, length, nat_lt}
use Rattle.four_value.specs.Vector.{resize}
use Rattle.gpi.specs.declared.terms.Term.{Term}
use Rattle.gpi.specs.Terms.{copies}
use Rattle.v_flat.specs.declared.scope.rule.ElabRule.TheVariants as rule
use Rattle.v_flat.specs.declared.scope.found.Found.{Found}
use Rattle.v_flat.specs.declared.scope.found.Found.TheVariants.{Sound}
use Rattle.v_flat.specs.Scope.Found.{and_then, needs}
use Rattle.v_flat.specs.Scope.Limits.{counted_width, most_digits}
use Rattle.v_check.specs.Contextual.Contexts.{IsLowered}
use Rattle.v_check.specs.Contextual.Concatenations.{values, widths, AreSound, MakesConcatenation}
use Rattle.v_check.specs.declared.constants.checked.Checked.{Checked}
use Rattle.v_check.specs.Constants.Made.{Makes, EachIs}
use Rattle.v_check.specs.declared.parts.parts.Parts.{Parts}

-- y is x with the part a above it
pub record MakesMore (a : Checked) (x y : Parts) : Type 0 where
  pub width_is : y.width ≡ counted_width (a.width + x.width)
  pub part : Term
  pub terms_are : y.terms.items ≡ x.terms.items ++ (part ∷ [])
  pub lowered : IsLowered a.form a.width part

abbrev pub AreMore : Found (Checked × Parts) → Found Parts → Type 0
AreMore x f = EachIs (λ (p : Checked × Parts) (y : Parts). MakesMore p.0 p.1 y) x f

-- something stands in the braces
abbrev pub filled_at : ℕ → Found Parts → Found Parts
filled_at p f = and_then f (λ (x : Parts). needs (nat_lt 0 x.width) rule.BadRange p (Sound x))

-- c is n copies of the parts, where there are any
pub record MakesCopies (n : ℕ) (x : Parts) (c : Checked) : Type 0 where
  pub width_is : c.width ≡ counted_width (n * x.width)
  pub made : 1 ≤ length x.terms.items → Makes c c.width (λ w m. resize (copies n (values x.terms.items m)) w)
      (λ ws. AreSound x.terms.items ws × (widths x.terms.items ≤ most_digits) × (1 ≤ n) × (n * widths x.terms.items ≤ most_digits))

abbrev pub AreCopies : Found (ℕ × Parts) → Found Checked → Type 0
AreCopies x f = EachIs (λ (p : ℕ × Parts) (c : Checked). MakesCopies p.0 p.1 c) x f

-- c is all of the parts together, where there are any
pub record MakesOnce (x : Parts) (c : Checked) : Type 0 where
  pub width_is : c.width ≡ x.width
  pub made : 1 ≤ length x.terms.items → Makes c x.width (λ w m. resize (values x.terms.items m) w)
      (λ ws. AreSound x.terms.items ws × (widths x.terms.items ≤ most_digits))

abbrev pub AreOnce : Found Parts → Found Checked → Type 0
AreOnce x f = EachIs MakesOnce x f

-- t is the concatenation of the parts, where there are any
abbrev pub MakesAll : List Term → Term → Type 0
MakesAll ts t = 1 ≤ length ts → MakesConcatenation ts t
