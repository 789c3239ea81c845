-- A means of proof: the lines of a VCD text that stand for something, and their parts.
use Rattle.std.specs.Prelude.{◌≡◌, ◌⊎◌, ◌<◌, ◌≤◌, ◌^◌, ◌+◌, ◌-◌, ◌*◌, ◌||◌, ℕ, Bool, IsTrue, List, [], ◌∷◌, ◌++◌, codes, Some, bytes_eq}
use Rattle.std.specs.List.{list_all}
use Rattle.four_value.specs.declared.Digit.{Digit}
use Rattle.four_value.specs.declared.Digit.TheVariants.{X, Z}
use Rattle.four_value.specs.Limits.{most_digits}
use Rattle.gpi.specs.Limits.{most_elements}
use Rattle.vcd_text.specs.Names.{is_name}
use Rattle.vcd_text.specs.Spelling.{line, is_digit, spelled_step, value_front, value_line, time_line}
use Rattle.vcd_text.specs.Text.{step_line, range_text, signal_line, scope_line}
use Rattle.vcd_text.specs.Splits.{has_no_blank}

-- ---- what a line stands for

-- the line of this step
pub record IsStep (text : List ℕ) (step : ℕ) : Type 0 where
  pub words : List ℕ
  pub known : spelled_step step ≡ Some words
  pub spelled : text ≡ step_line (Some words)

-- the line with which an instance of this name begins
pub record IsScope (text name : List ℕ) : Type 0 where
  pub spelled : text ≡ scope_line name
  pub named : IsTrue (is_name name)

-- the digit that a register or a net has everywhere at the start
abbrev pub IsStart : Digit → Type 0
IsStart digit = (digit ≡ X) ⊎ (digit ≡ Z)

-- the line of a signal with this number, name, opening digit and width
abbrev pub var_line : ℕ → List ℕ → Digit → ℕ → List ℕ
var_line number name start width = signal_line number name (record { path = []; width = width; start = start })

-- it is that line, and there may be such a signal
pub record IsVar (text : List ℕ) (number : ℕ) (name : List ℕ) (start : Digit) (width : ℕ) : Type 0 where
  pub spelled : text ≡ var_line number name start width
  pub named : IsTrue (is_name name)
  pub start_is : IsStart start
  pub least : 1 ≤ width
  pub most : width ≤ most_digits
  pub numbered : number < most_elements

-- the line of this time, which has 64 bits
pub record IsTime (text : List ℕ) (time : ℕ) : Type 0 where
  pub spelled : text ≡ time_line time
  pub below : time < 2 ^ 64

-- the line after which the signal has these digits
pub record IsValue (text : List ℕ) (signal : ℕ) (digits : List ℕ) : Type 0 where
  pub spelled : text ≡ value_line signal digits
  pub digits_are : IsTrue (list_all is_digit digits)

-- ---- parts of lines

-- the text is the name of a unit of time, and the end of its line
abbrev pub is_unit_end : List ℕ → Bool
is_unit_end text =
    ((((bytes_eq text (line (codes "s $end")) || bytes_eq text (line (codes "ms $end"))) || bytes_eq text (line (codes "us $end")))
    || bytes_eq text (line (codes "ns $end"))) || bytes_eq text (line (codes "ps $end"))) || bytes_eq text (line (codes "fs $end"))

-- 1, 10 or 100 and a blank stand before the rest
abbrev pub IsCounted : List ℕ → List ℕ → Type 0
IsCounted text rest = (text ≡ codes "1 " ++ rest) ⊎ ((text ≡ codes "10 " ++ rest) ⊎ (text ≡ codes "100 " ++ rest))

-- the number of a code, the lowest digit first
abbrev pub number_of : List ℕ → ℕ
number_of [] = 0
number_of (b ∷ code) = (b - 33) + 94 * number_of code

-- the line of a signal, cut at its blanks: its kind, its width, its code and what stands behind these
pub record IsCut (text kind width code rest : List ℕ) : Type 0 where
  pub is : text ≡ codes "$var " ++ (kind ++ 32 ∷ (width ++ 32 ∷ (code ++ 32 ∷ rest)))
  pub kind_whole : IsTrue (has_no_blank kind)
  pub width_whole : IsTrue (has_no_blank width)
  pub code_whole : IsTrue (has_no_blank code)

-- what stands behind the name of a signal of that width
abbrev pub name_end : ℕ → List ℕ
name_end width = line (range_text width ++ codes " $end")

-- the line of a value: its digits, and the code of a signal
pub record IsPair (text digits code : List ℕ) : Type 0 where
  pub is : text ≡ line (value_front digits ++ code)
  pub digits_are : IsTrue (list_all is_digit digits)
