-- A number of 64 bits that is read digit by digit.
use Rattle.std.proofs.Common.{ℕ, suc, ◌≡◌, ◌+◌, ◌*◌, ◌-◌, ◌^◌, ◌<◌, min, List, [], ◌∷◌, fold, refl, arith, ◌∙◌, sym, ap, length, drop, slice_index_or}
use Rattle.std.proofs.Math.Seq.{drop-cons}
use Rattle.table_rows.specs.Rows.{largest, with_digit}

-- cutting before a digit is cutting behind it
pub cut_once : (n d : ℕ) → min (min n largest * 10 + d) largest ≡ min (n * 10 + d) largest
cut_once n d = omega arith

-- cutting before digits is cutting behind them
pub cut_before : (n m : ℕ) (digits : List ℕ) → min n largest ≡ min m largest → min (fold with_digit n digits) largest ≡ min (fold with_digit m digits) largest
cut_before n m [] e = e
cut_before n m (d ∷ ds) e = cut_before (with_digit n d) (with_digit m d) ds (sym (cut_once n (d - 48)) ∙ ap (λ (k : ℕ). min (k * 10 + (d - 48)) largest) e ∙ cut_once m (d - 48))

one_more : (i : ℕ) → i + 1 ≡ suc i
one_more i = omega arith

-- what comes of a digit and those behind it, cut at each step
pub read_on : (n i : ℕ) (digits : List ℕ) → i < length digits → min (fold with_digit (min (min (n * 10) largest + (slice_index_or digits i 0 - 48)) largest) (drop (i + 1) digits)) largest ≡ min (fold with_digit n (drop i digits)) largest
read_on n i digits l =
    let d = slice_index_or digits i 0 - 48 in
    let next = one_more i in
    cut_before (min (min (n * 10) largest + d) largest) (n * 10 + d) (drop (i + 1) digits) (omega arith) ∙
    ap (λ (k : ℕ). min (fold with_digit (n * 10 + d) (drop k digits)) largest) next ∙
    sym (ap (λ (xs : List ℕ). min (fold with_digit n xs) largest) (drop-cons digits i 0 l))
