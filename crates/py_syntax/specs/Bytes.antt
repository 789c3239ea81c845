-- Kinds of bytes (the language reference, 2).
use Rattle.std.specs.Prelude.{ℕ, Bool, ◌&&◌, ◌||◌, not, nat_le, ◌==◌, List, count_by}
use Rattle.std.specs.List.{list_all}

abbrev pub is_digit : ℕ → Bool
is_digit b = nat_le 48 b && nat_le b 57

-- a letter or `_`, as a name begins
abbrev pub is_letter : ℕ → Bool
is_letter b = (nat_le 97 b && nat_le b 122) || (nat_le 65 b && nat_le b 90) || (b == 95)

-- what a name goes on with
abbrev pub is_word_byte : ℕ → Bool
is_word_byte b = is_letter b || is_digit b

-- what a number of this base goes on with: a decimal one with a point too, so that `5.x` is one word, and no number, and
-- `0x5.x` the number 5 before a point
abbrev pub is_number_byte : ℕ → ℕ → Bool
is_number_byte base b = is_word_byte b || ((base == 10) && (b == 46))

-- `"` and `'`
abbrev pub is_quote : ℕ → Bool
is_quote b = (b == 34) || (b == 39)

-- `{` and `}`
abbrev pub is_brace : ℕ → Bool
is_brace b = (b == 123) || (b == 125)

abbrev pub is_printable : ℕ → Bool
is_printable b = nat_le 32 b && nat_le b 126

-- what may stand behind a backslash in a text: a backslash or a quote
abbrev pub is_escapable : ℕ → Bool
is_escapable b = (b == 92) || is_quote b

-- all but a line feed, with which a line ends
abbrev pub not_line_feed : ℕ → Bool
not_line_feed b = not (b == 10)

abbrev pub are_printable : List ℕ → Bool
are_printable bytes = list_all is_printable bytes

abbrev pub line_feeds : List ℕ → ℕ
line_feeds bytes = count_by (λ b. b == 10) bytes
