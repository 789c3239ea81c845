-- A means of proof: what is made of parts, by their targets.
use Rattle.std.specs.Prelude.{◌≡◌, ℕ, ◌+◌, ◌≤◌, List, ◌∷◌, [], ◌++◌, length, Bool, true, false}
use Rattle.gpi.specs.declared.targets.Target.{Target}
use Rattle.v_flat.specs.declared.scope.found.Found.{Found}
use Rattle.v_flat.specs.declared.scope.rule.ElabRule.TheVariants as rule
use Rattle.v_flat.specs.declared.scope.found.Found.TheVariants.{Sound, Noted, Lost}
use Rattle.v_flat.specs.Scope.Found.{each, broken, Holds}
use Rattle.v_flat.specs.declared.scope.meaning.DataObject.{DataObject}
use Rattle.v_flat.specs.Scope.Limits.{counted_width, most_digits}
use Rattle.v_flat.specs.Checks.{filled, sized}
use Rattle.v_flat.specs.Targets.{Drive, is_driven}
use Rattle.v_process.specs.declared.drive.digits.DrivenDigits.{DrivenDigits}
use Rattle.v_process.specs.Drive.Digits.{Keeps, KeepsSame}
use Rattle.v_process.specs.Target.Digits.{IsFixedTarget, digits_of}
use Rattle.v_check.specs.Constants.Made.{EachIs}
use Rattle.v_process.specs.declared.target.checked.CheckedTarget.{CheckedTarget}
use Rattle.v_process.specs.declared.assign.parts.TargetParts.{TargetParts}
use Rattle.v_process.specs.Assign.Braces.{MakesAll}

-- y is x with the part a above it
pub record HasPart (a : CheckedTarget) (x y : TargetParts) : Type 0 where
  pub width_is : y.width ≡ counted_width (a.width + x.width)
  pub targets_are : y.targets.items ≡ x.targets.items ++ (a.target ∷ [])

abbrev pub AreMoreTargets : Found (CheckedTarget × TargetParts) → Found TargetParts → Type 0
AreMoreTargets x f = EachIs (λ (p : CheckedTarget × TargetParts) (y : TargetParts). HasPart p.0 p.1 y) x f

-- t is all of them, where there are any
abbrev pub IsOne : List Target → Target → Type 0
IsOne ts t = 1 ≤ length ts → MakesAll ts t

-- c is all of the parts, which have a digit and not too many
pub record IsWhole (x : TargetParts) (c : CheckedTarget) : Type 0 where
  pub width_is : c.width ≡ x.width
  pub some : 1 ≤ x.width
  pub fits : x.width ≤ most_digits
  pub all : IsOne x.targets.items c.target

pub record IsClosed (p : ℕ) (x : TargetParts) (f : Found CheckedTarget) : Type 0 where
  pub finds : each (λ (c : CheckedTarget). c.width) f ≡ sized p (filled p (Sound x.width))
  pub holds : Holds (λ (c : CheckedTarget). IsWhole x c) f

-- ---- nets

-- no rule is noted with a value, and where none is broken the target's digits are fixed
abbrev pub AreFixed : Found CheckedTarget → Type 0
AreFixed (Sound c) = IsFixedTarget c.target
AreFixed (Noted b c) = ⊥
AreFixed (Lost b) = Unit {0}

-- the digits d of a net, where they are driven before or not
abbrev pub OnceMore : Bool → ℕ → Drive → List Drive → CheckedTarget → Found CheckedTarget → DrivenDigits → Type 0
OnceMore true p d ds c f y = (f ≡ broken rule.TwoDrivers p) × Keeps y ds
OnceMore false p d ds c f y = (f ≡ Sound c) × Keeps y (ds ++ (d ∷ []))

abbrev pub IsNet : DataObject → ℕ → Found CheckedTarget → DrivenDigits → Found CheckedTarget → DrivenDigits → Type 0
IsNet o p (Sound c) x f y = (ds : List Drive) → Keeps x ds → OnceMore (is_driven (digits_of o c.target) ds) p (digits_of o c.target) ds c f y
IsNet o p (Noted b c) x f y = Unit {0}
IsNet o p (Lost b) x f y = (f ≡ Lost b) × KeepsSame x y
