-- A means of proof: the parts of a line of a traced run, for the proof that they are found.
use Rattle.std.specs.Prelude.{◌≡◌, ◌<◌, ◌≤◌, ◌^◌, ◌==◌, ℕ, not, Bool, IsTrue, List, ◌∷◌, ◌++◌, codes}
use Rattle.std.specs.List.{list_all}
use Rattle.std.specs.Fmt.{decimal}
use Rattle.std.specs.Str.Parse.{IsNumeral, digits_value}
use Rattle.vcd_text.specs.Spelling.{line, is_digit}

-- no byte is a blank
abbrev pub has_no_blank : List ℕ → Bool
has_no_blank text = list_all (λ byte. not (byte == 32)) text

-- what stands before the first blank and behind it
pub record SplitsFirst (text front back : List ℕ) : Type 0 where
  pub is : text ≡ front ++ 32 ∷ back
  pub none : IsTrue (has_no_blank front)

-- what stands before the last blank and behind it
pub record SplitsLast (text front back : List ℕ) : Type 0 where
  pub is : text ≡ front ++ 32 ∷ back
  pub none : IsTrue (has_no_blank back)

-- the line is that of a change, where this is the text of its time
pub record IsSplit (text time path digits : List ℕ) : Type 0 where
  pub spelled : text ≡ line (time ++ codes " SIG " ++ path ++ codes " " ++ digits)
  pub time_is : IsTrue (has_no_blank time)
  pub digits_are : IsTrue (list_all is_digit digits)

-- the line is that of a change at this time
pub record HasParts (text : List ℕ) (time : ℕ) (path digits : List ℕ) : Type 0 where
  pub split : IsSplit text (decimal time) path digits
  pub below : time < 2 ^ 64

-- decimal digits say this number, which has 64 bits
abbrev pub SaysNumber : List ℕ → ℕ → Type 0
SaysNumber text number = IsNumeral 10 text × (number ≡ digits_value 10 text) × (number ≤ 18446744073709551615)
