-- The range that is found with a value is one of 1 to 128 digits.
use Rattle.std.proofs.Common.{◌≡◌, ℕ, List, Bool, true, false, Ok, sym, ap, ◌∙◌, subst}
use Rattle.four_value.specs.declared.Digit.{Digit}
use Rattle.gpi.specs.Terms.{IsWidth}
use Rattle.v_flat.specs.declared.scope.rule.ElabRule.{ElabRule}
use Rattle.v_flat.specs.declared.scope.found.Found.{Found}
use Rattle.v_flat.specs.declared.scope.found.Found.TheVariants.{Sound, Noted, Lost}
use Rattle.v_flat.specs.Scope.Found.{both, wants, ended}
use Rattle.v_flat.specs.declared.scope.meaning.Bounds.{Bounds}
use Rattle.v_flat.specs.Scope.Scope.{width_of}
use Rattle.v_header.specs.Range.Narrow.{IsVectorRange}
use Rattle.v_header.specs.Parameter.Found.{HasVectorRange}

narrow_both : (x : Found Bounds) (y : Found (List Digit)) → IsVectorRange x → HasVectorRange (both x y)
narrow_both (Sound b) (Sound ds) h = h
narrow_both (Sound b) (Noted c ds) h = h
narrow_both (Sound b) (Lost c) h = tt
narrow_both (Noted a b) (Sound ds) h = h
narrow_both (Noted a b) (Noted c ds) h = h
narrow_both (Noted a b) (Lost c) h = tt
narrow_both (Lost a) (Sound ds) h = tt
narrow_both (Lost a) (Noted c ds) h = tt
narrow_both (Lost a) (Lost c) h = tt

narrow_wants : (ok : Bool) (r : ElabRule) (p : ℕ) (x : Found (Bounds × List Digit)) → HasVectorRange x → HasVectorRange (wants ok r p x)
narrow_wants true r p x h = h
narrow_wants false r p (Sound a) h = h
narrow_wants false r p (Noted b a) h = h
narrow_wants false r p (Lost b) h = tt

wanted_widths : (ok : Bool) (r : ElabRule) (p : ℕ) (x : Found Bounds) (y : Found (List Digit)) → IsVectorRange x → HasVectorRange (wants ok r p (both x y))
wanted_widths ok r p x y h = narrow_wants ok r p (both x y) (narrow_both x y h)

pub widths_wanted : (ok : Bool) (r : ElabRule) (p : ℕ) (x : Found Bounds) (y : Found (List Digit)) (z w : Found (Bounds × List Digit)) → IsVectorRange x → z ≡ both x y → w ≡ wants ok r p z
    → HasVectorRange w
widths_wanted ok r p x y z w h e k =
    subst (λ (u : Found (Bounds × List Digit)). HasVectorRange u) (sym (k ∙ ap (λ (u : Found (Bounds × List Digit)). wants ok r p u) e)) (wanted_widths ok r p x y h)

pub ended_width : (x : Found (Bounds × List Digit)) (z : Bounds × List Digit) → HasVectorRange x → ended x ≡ Ok z → IsWidth (width_of z.0)
ended_width (Sound a) z h e = let k : a ≡ z = cc in subst (λ (p : Bounds × List Digit). IsWidth (width_of p.0)) k h
ended_width (Noted b a) z h e = absurd (cc)
ended_width (Lost b) z h e = absurd (cc)
