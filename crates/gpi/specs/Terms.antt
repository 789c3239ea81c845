-- The value of an expression whose widths are settled (IEEE 1364-2005, clause 5).
use Rattle.std.specs.Prelude.{◌≡◌, ℕ, ◌+◌, ◌*◌, ◌<◌, ◌≤◌, List, [], ◌∷◌, ◌++◌, zero, suc, length, Option, Some, None, slice_index_or, slice_index}
use Rattle.four_value.specs.declared.Digit.{Digit}
use Rattle.four_value.specs.Limits.{most_digits}
use Rattle.four_value.specs.Vector.{all_x, resize, number}
use Rattle.gpi.specs.declared.selects.Words.{Words}
use Rattle.gpi.specs.declared.terms.Term.{Term}
use Rattle.gpi.specs.declared.terms.Term.TheVariants.{Const, Signal, Word', Select', Unary', Arith', Compare', Logic', Reduce', Shift', Cond', Concat', Repeat', Resize'}
use Rattle.gpi.specs.Operators.{truth, unary_value, arith_value, compare_value, logic_value, reduce_value, shift_value, choose}
use Rattle.gpi.specs.Selects.{selected, word_at}

-- the map of signals that a list of vectors is
abbrev pub read : List (List Digit) → ℕ → List Digit
read m s = slice_index_or m s []

-- the widths of the vectors of a list
abbrev pub widths_of : List (List Digit) → List ℕ
widths_of [] = []
widths_of (ds ∷ m) = length ds ∷ widths_of m

-- a word of a memory: all x where there is none
abbrev pub word_value : Option ℕ → ℕ → (ℕ → List Digit) → List Digit
word_value (Some s) w m = m s
word_value None w m = all_x w

-- so many copies of these digits (clause 5.1.14)
abbrev pub copies : ℕ → List Digit → List Digit
copies zero ds = []
copies (suc n) ds = ds ++ copies n ds

-- the value on a map of the signals
abbrev pub value : Term → (ℕ → List Digit) → List Digit
value (Const bits) m = bits
value (Signal s w) m = m s.0
value (Word' words p i w) m = word_value (word_at words (number (value i m))) w m
value (Select' p a range q i w) m = selected (value a m) range (number (value i m)) w
value (Unary' op p a) m = unary_value op (value a m)
value (Arith' op p a q b) m = arith_value op (value a m) (value b m)
value (Compare' op p a q b) m = compare_value op (value a m) (value b m) ∷ []
value (Logic' op p a q b) m = logic_value op (value a m) (value b m) ∷ []
value (Reduce' op p a) m = reduce_value op (value a m) ∷ []
value (Shift' op p a q b) m = shift_value op (value a m) (value b m)
value (Cond' p t q a r b) m = choose (truth (value t m)) (value a m) (value b m)
value (Concat' p a q b) m = value b m ++ value a m
value (Repeat' n p a) m = copies n (value a m)
value (Resize' p a w) m = resize (value a m) w

-- the width of the value
abbrev pub width : Term → ℕ
width (Const bits) = length bits
width (Signal s w) = w
width (Word' words p i w) = w
width (Select' p a range q i w) = w
width (Unary' op p a) = width a
width (Arith' op p a q b) = width a
width (Compare' op p a q b) = 1
width (Logic' op p a q b) = 1
width (Reduce' op p a) = 1
width (Shift' op p a q b) = width a
width (Cond' p t q a r b) = width a
width (Concat' p a q b) = width b + width a
width (Repeat' n p a) = n * width a
width (Resize' p a w) = w

-- 1 to 128
abbrev pub IsWidth : ℕ → Type 0
IsWidth w = (1 ≤ w) × (w ≤ most_digits)

-- the words lie in the design, and each has this width; ws are the widths of the signals
pub record AreWords (words : Words) (w : ℕ) (ws : List ℕ) : Type 0 where
  pub first : words.first.0 < length ws
  pub inside : words.first.0 + words.count ≤ length ws
  pub width : IsWidth w
  pub each : (s : ℕ) → words.first.0 ≤ s → s < words.first.0 + words.count → slice_index ws s ≡ w

-- each node has its width, and each signal is one of the design
abbrev pub IsSound : Term → List ℕ → Type 0
IsSound (Const bits) ws = Unit {0}
IsSound (Signal s w) ws = (s.0 < length ws) × (slice_index ws s.0 ≡ w)
IsSound (Word' words p i w) ws = IsSound i ws × AreWords words w ws
IsSound (Select' p a range q i w) ws = IsSound a ws × IsSound i ws × IsWidth w
IsSound (Unary' op p a) ws = IsSound a ws
IsSound (Arith' op p a q b) ws = IsSound a ws × IsSound b ws × (width a ≡ width b)
IsSound (Compare' op p a q b) ws = IsSound a ws × IsSound b ws × (width a ≡ width b)
IsSound (Logic' op p a q b) ws = IsSound a ws × IsSound b ws
IsSound (Reduce' op p a) ws = IsSound a ws
IsSound (Shift' op p a q b) ws = IsSound a ws × IsSound b ws
IsSound (Cond' p t q a r b) ws = IsSound t ws × IsSound a ws × IsSound b ws × (width a ≡ width b)
IsSound (Concat' p a q b) ws = IsSound a ws × IsSound b ws × (width b + width a ≤ most_digits)
IsSound (Repeat' n p a) ws = IsSound a ws × (1 ≤ n) × (n * width a ≤ most_digits)
IsSound (Resize' p a w) ws = IsSound a ws × IsWidth w
