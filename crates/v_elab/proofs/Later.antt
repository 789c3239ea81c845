-- Where constants alone are known, no declared name is one.
use Rattle.std.proofs.Common.{◌≡◌, ℕ, List, Option, Some, None, Bool, true, false, if◌then◌else◌, bytes_eq, refl, sym, subst}
use Rattle.std.specs.List.{list_any}
use Rattle.v_flat.specs.declared.scope.meaning.Meaning.TheVariants.{Later}
use Rattle.v_flat.specs.Scope.Scope.{Scope}
use Rattle.v_flat.specs.Checks.{is_constant}
use Rattle.v_flat.specs.Headers.{later}
use Rattle.v_check.specs.Names.Proper.{AreProper, IsProper}
use Rattle.v_header.specs.Parameter.Constants.{HasNoConstants}

proper_by : (b : Bool) → IsProper (if b then Some Later else None)
proper_by true = tt
proper_by false = tt

later_proper : (ns : List (List ℕ)) → AreProper (later ns)
later_proper ns n = proper_by (list_any (bytes_eq n) ns)

none_by : (b : Bool) → is_constant (if b then Some Later else None) ≡ false
none_by true = refl
none_by false = refl

later_none : (ns : List (List ℕ)) → HasNoConstants (later ns)
later_none ns n = none_by (list_any (bytes_eq n) ns)

-- by the scope of the code
pub is_proper : (s : Scope) (ns : List (List ℕ)) → s ≡ later ns → AreProper s
is_proper s ns e = subst AreProper (sym e) (later_proper ns)

pub has_none : (s : Scope) (ns : List (List ℕ)) → s ≡ later ns → HasNoConstants s
has_none s ns e = subst HasNoConstants (sym e) (later_none ns)
