-- Codes of signals, digit by digit.
use Rattle.std.specs.Prelude.{◌≡◌, ◌<◌, ◌≤◌, ℕ, zero, suc, ◌+◌, ◌/◌, ◌%◌, nat_lt, Bool, true, false, List, [], ◌∷◌, ◌++◌, if◌then◌else◌, refl}
use Rattle.std.proofs.Common.{ap, sym, ◌∙◌, append_assoc, arith}
use Rattle.std.proofs.lemmas.Bool.Decides.{nat_tests}
use Rattle.vcd_text.specs.Spelling.{code, code_digits}

-- the digits behind the first
abbrev higher : Bool → ℕ → ℕ → List ℕ
higher last digits number = if last then [] else code_digits digits (number / 94)

-- the digits behind the first are the same, where they are if there are any
same_behind : (k m n : ℕ) (last : Bool) → nat_lt n 94 ≡ last → (nat_lt n 94 ≡ false → code_digits k (n / 94) ≡ code_digits m (n / 94))
    → higher last k n ≡ higher last m n
same_behind k m n true is same = refl
same_behind k m n false is same = same is

-- room for more digits than suffice makes no difference
same_digits : (k m n : ℕ) → n < k → n < m → code_digits k n ≡ code_digits m n
same_digits zero m n few more = absurd (omega arith)
same_digits (suc k) zero n few more = absurd (omega arith)
same_digits (suc k) (suc m) n few more =
    ap (λ (digits : List ℕ). (33 + n % 94) ∷ digits) (same_behind k m n (nat_lt n 94) refl (λ is. same_digits k m (n / 94) (grind (arith, nat_tests)) (grind (arith, nat_tests))))

-- a code of one digit
code_last : (n : ℕ) (last : Bool) → n < 94 → nat_lt n 94 ≡ last → (33 + n % 94) ∷ higher last n n ≡ (33 + n) ∷ []
code_last n true small is = ap (λ (digit : ℕ). (33 + digit) ∷ []) (omega arith)
code_last n false small is = absurd (grind (arith, nat_tests))

-- a code of more digits
code_step : (n : ℕ) (last : Bool) → 94 ≤ n → nat_lt n 94 ≡ last → (33 + n % 94) ∷ higher last n n ≡ (33 + n % 94) ∷ code (n / 94)
code_step n true large is = absurd (grind (arith, nat_tests))
code_step n false large is = ap (λ (digits : List ℕ). (33 + n % 94) ∷ digits) (same_digits n (suc (n / 94)) (n / 94) (omega arith) (omega arith))

-- a whole code, of which one digit more is written
pub code_more : (text whole : List ℕ) (n : ℕ) → 94 ≤ n → text ++ code n ≡ whole → (text ++ (33 + n % 94) ∷ []) ++ code (n / 94) ≡ whole
code_more text whole n large is =
    append_assoc text ((33 + n % 94) ∷ []) (code (n / 94)) ∙ ap (λ (digits : List ℕ). text ++ digits) (sym (code_step n (nat_lt n 94) large refl)) ∙ is

-- and of which the last is
pub code_done : (text whole : List ℕ) (n : ℕ) → n < 94 → text ++ code n ≡ whole → text ++ (33 + n) ∷ [] ≡ whole
code_done text whole n small is = ap (λ (digits : List ℕ). text ++ digits) (sym (code_last n (nat_lt n 94) small refl)) ∙ is
