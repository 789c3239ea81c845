-- The digits that are driven, before and after one more drive.
use Rattle.std.proofs.Common.{◌≡◌, ℕ, ◌<◌, ◌==◌, Bool, true, false, nat_eq, cond, bit_or, List, [], ◌∷◌, ◌++◌, Some, Option, unwrap_or, refl, sym, ap, ◌∙◌, arith}
use Rattle.std.proofs.lemmas.Bool.Decides.{nat_tests}
use Rattle.std.proofs.lemmas.Nat.Bits.{bit_at-zero}
use Rattle.std.specs.HashMap.{get}
use Rattle.std.specs.Int.{bit_at, from_bool}
use Rattle.std.specs.Map.{lookup}
use Rattle.four_value.specs.Limits.{most_digits}
use Rattle.v_flat.specs.Targets.{Drive, is_driven}
use Rattle.v_process.specs.declared.drive.digits.DrivenDigits.{DrivenDigits}
use Rattle.v_process.specs.Drive.Digits.{Keeps, digit}
use Rattle.v_process.specs.Drive.Masks.{mask, mask_at}
use Rattle.v_process.proofs.DriveLemmas.Meets.{own_bit, other_bit}

pub none_kept : (x : DrivenDigits) → x.masks.entries ≡ [] → Keeps x []
none_kept x e = record {
  digits = λ q i h. ap (λ (es : List (ℕ × ℕ)). bit_at (unwrap_or (lookup (nat_eq q) es) 0) i) e ∙ bit_at-zero i;
}

pub same_kept : (x y : DrivenDigits) (ds : List Drive) → y.masks.entries ≡ x.masks.entries → Keeps x ds → Keeps y ds
same_kept x y ds e k = record {
  digits = λ q i h. ap (λ (es : List (ℕ × ℕ)). bit_at (unwrap_or (lookup (nat_eq q) es) 0) i) e ∙ k.digits q i h;
}

added_bit : (x : DrivenDigits) (d : Drive) (ds : List Drive) (q i : ℕ) (b : Bool) → nat_eq d.signal q ≡ b → i < most_digits → Keeps x ds
    → bit_at (unwrap_or (cond b (Some (bit_or (mask_at x d.signal) (mask d))) (get nat_eq x.masks q)) 0) i ≡ from_bool (is_driven (digit q i) (ds ++ (d ∷ [])))
added_bit x d ds q i true e h k =
    let same : q ≡ d.signal = grind (arith, nat_tests) in
    own_bit d ds (mask_at x d.signal) q i same (k.digits d.signal i h ∙ ap (λ (p : ℕ). from_bool (is_driven (digit p i) ds)) (sym same))
added_bit x d ds q i false e h k = other_bit d ds (mask_at x q) q i (let f : (q == d.signal) ≡ false = grind (arith, nat_tests) in f) (k.digits q i h)

pub added : (x y : DrivenDigits) (d : Drive) (n : ℕ) (ds : List Drive) → n ≡ bit_or (mask_at x d.signal) (mask d)
    → ((q : ℕ) → get nat_eq y.masks q ≡ cond (nat_eq d.signal q) (Some n) (get nat_eq x.masks q)) → Keeps x ds → Keeps y (ds ++ (d ∷ []))
added x y d n ds e u k = record {
  digits = λ q i h. ap (λ (o : Option ℕ). bit_at (unwrap_or o 0) i) (u q)
      ∙ ap (λ (v : ℕ). bit_at (unwrap_or (cond (nat_eq d.signal q) (Some v) (get nat_eq x.masks q)) 0) i) e
      ∙ added_bit x d ds q i (nat_eq d.signal q) refl h k;
}
