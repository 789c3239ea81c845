-- A means of proof: how far a text, an f-string and a docstring reach, and what a text says, found byte by byte.
use Rattle.std.specs.Prelude.{ℕ, Bool, true, false, ◌||◌, ◌+◌, ◌==◌, List, [], ◌∷◌, Option, None, Some, if◌then◌else◌}
use Rattle.py_syntax.specs.Bytes.{is_brace, is_escapable}
use Rattle.py_syntax.specs.Items.{with_byte}

-- n more
abbrev pub after : ℕ → Option ℕ → Option ℕ
after n None = None
after n (Some k) = Some (n + k)

-- How many bytes a text has behind its opening quote, the closing one counted, if it is closed on its line. A byte behind a
-- backslash closes nothing.
unfoldable pub text_end : ℕ → Bool → List ℕ → Option ℕ
text_end quote escaped [] = None
text_end quote escaped (b ∷ bs) =
    if b == 10 then None
    else (if escaped then after 1 (text_end quote false bs)
    else (if b == quote then Some 1
    else after 1 (text_end quote (b == 92) bs)))

-- What these bytes of a text say, if each backslash stands before a backslash or a quote. The first byte may be escaped.
unfoldable pub said_from : Bool → List ℕ → Option (List ℕ)
said_from escaped [] = if escaped then None else Some []
said_from escaped (b ∷ bs) =
    if escaped then (if is_escapable b then with_byte b (said_from false bs) else None)
    else (if b == 92 then said_from true bs else with_byte b (said_from false bs))

-- How many bytes of an f-string stand for themselves from here on: up to its quote, a brace or the line's end.
unfoldable pub literal_len : ℕ → Bool → List ℕ → ℕ
literal_len quote escaped [] = 0
literal_len quote escaped (b ∷ bs) =
    if b == 10 then 0
    else (if escaped then 1 + literal_len quote false bs
    else (if (b == quote) || is_brace b then 0
    else 1 + literal_len quote (b == 92) bs))

-- How many bytes a docstring has behind its `"""`, the closing ones counted. So many quotes stand in a row before this place.
unfoldable pub docstring_end : Bool → ℕ → List ℕ → Option ℕ
docstring_end escaped quotes [] = None
docstring_end escaped quotes (b ∷ bs) =
    if escaped then after 1 (docstring_end false 0 bs)
    else (if b == 34 then (if quotes == 2 then Some 1 else after 1 (docstring_end false (quotes + 1) bs))
    else after 1 (docstring_end (b == 92) 0 bs))
