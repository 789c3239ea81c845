-- A means of proof: what the constructors of expressions make, for the proofs of elaboration and of copies.
use Rattle.std.specs.Prelude.{◌≡◌, ℕ, ◌+◌, ◌*◌, ◌≤◌, List, [], ◌∷◌, ◌++◌}
use Rattle.four_value.specs.declared.Digit.{Digit}
use Rattle.four_value.specs.Limits.{most_digits}
use Rattle.four_value.specs.Vector.{resize, number}
use Rattle.gpi.specs.declared.selects.Words.{Words}
use Rattle.gpi.specs.declared.selects.Range.{Range}
use Rattle.gpi.specs.declared.operators.Unary.{Unary}
use Rattle.gpi.specs.declared.operators.Arith.{Arith}
use Rattle.gpi.specs.declared.operators.Compare.{Compare}
use Rattle.gpi.specs.declared.operators.Logic.{Logic}
use Rattle.gpi.specs.declared.operators.Reduce.{Reduce}
use Rattle.gpi.specs.declared.operators.Shift.{Shift}
use Rattle.gpi.specs.declared.terms.Term.{Term}
use Rattle.gpi.specs.Operators.{truth, unary_value, arith_value, compare_value, logic_value, reduce_value, shift_value, choose}
use Rattle.gpi.specs.Selects.{selected, word_at}
use Rattle.gpi.specs.Terms.{value, width, word_value, copies, IsSound, IsWidth, AreWords}

-- t has this value, width and soundness
pub record Makes (t : Term) (v : (ℕ → List Digit) → List Digit) (w : ℕ) (Sound : List ℕ → Type 0) : Type 0 where
  pub value_is : (m : ℕ → List Digit) → value t m ≡ v m
  pub width_is : width t ≡ w
  pub sound : (ws : List ℕ) → Sound ws → IsSound t ws

abbrev pub MakesWord : Words → Term → ℕ → Term → Type 0
MakesWord words i w t = Makes t (λ m. word_value (word_at words (number (value i m))) w m) w (λ ws. IsSound i ws × AreWords words w ws)

abbrev pub MakesSelect : Term → Range → Term → ℕ → Term → Type 0
MakesSelect a range i w t = Makes t (λ m. selected (value a m) range (number (value i m)) w) w
    (λ ws. IsSound a ws × IsSound i ws × IsWidth w)

abbrev pub MakesUnary : Unary → Term → Term → Type 0
MakesUnary op a t = Makes t (λ m. unary_value op (value a m)) (width a) (IsSound a)

abbrev pub MakesArith : Arith → Term → Term → Term → Type 0
MakesArith op a b t = Makes t (λ m. arith_value op (value a m) (value b m)) (width a)
    (λ ws. IsSound a ws × IsSound b ws × (width a ≡ width b))

abbrev pub MakesCompare : Compare → Term → Term → Term → Type 0
MakesCompare op a b t = Makes t (λ m. compare_value op (value a m) (value b m) ∷ []) 1
    (λ ws. IsSound a ws × IsSound b ws × (width a ≡ width b))

abbrev pub MakesLogic : Logic → Term → Term → Term → Type 0
MakesLogic op a b t = Makes t (λ m. logic_value op (value a m) (value b m) ∷ []) 1 (λ ws. IsSound a ws × IsSound b ws)

abbrev pub MakesReduce : Reduce → Term → Term → Type 0
MakesReduce op a t = Makes t (λ m. reduce_value op (value a m) ∷ []) 1 (IsSound a)

abbrev pub MakesShift : Shift → Term → Term → Term → Type 0
MakesShift op a b t = Makes t (λ m. shift_value op (value a m) (value b m)) (width a) (λ ws. IsSound a ws × IsSound b ws)

abbrev pub MakesCond : Term → Term → Term → Term → Type 0
MakesCond c a b t = Makes t (λ m. choose (truth (value c m)) (value a m) (value b m)) (width a)
    (λ ws. IsSound c ws × IsSound a ws × IsSound b ws × (width a ≡ width b))

abbrev pub MakesConcat : Term → Term → Term → Type 0
MakesConcat a b t = Makes t (λ m. value b m ++ value a m) (width b + width a)
    (λ ws. IsSound a ws × IsSound b ws × (width b + width a ≤ most_digits))

abbrev pub MakesRepeat : ℕ → Term → Term → Type 0
MakesRepeat n a t = Makes t (λ m. copies n (value a m)) (n * width a) (λ ws. IsSound a ws × (1 ≤ n) × (n * width a ≤ most_digits))

abbrev pub MakesResize : Term → ℕ → Term → Type 0
MakesResize a w t = Makes t (λ m. resize (value a m) w) w (λ ws. IsSound a ws × IsWidth w)

-- b means the same as a
abbrev pub IsCopy : Term → Term → Type 0
IsCopy a b = Makes b (value a) (width a) (IsSound a)
