-- A means of proof: how bytes are shown, for the test programs that read rows.
use Rattle.std.specs.Prelude.{◌≡◌, ℕ, ◌==◌, List, [], ◌∷◌, ◌++◌, if◌then◌else◌}
use Rattle.std.specs.Str.{encode_utf8_all}

-- bytes as characters of Latin-1, in UTF-8
abbrev pub latin : List ℕ → List ℕ
latin bytes = encode_utf8_all bytes

-- a text grew by a front of these bytes, as characters
abbrev pub ShowsFront : List ℕ → List ℕ → List ℕ → Type 0
ShowsFront old new bytes = (front : List ℕ) × (rest : List ℕ) × (bytes ≡ front ++ rest) × (new ≡ old ++ latin front)

-- bytes as characters, where a line feed is shown as `\0a`
unfoldable pub shown_bytes : List ℕ → List ℕ
shown_bytes [] = []
shown_bytes (byte ∷ rest) = (if byte == 10 then 92 ∷ 48 ∷ 97 ∷ [] else latin (byte ∷ [])) ++ shown_bytes rest

-- bytes between quotes
abbrev pub in_quotes : List ℕ → List ℕ
in_quotes bytes = 34 ∷ shown_bytes bytes ++ 34 ∷ []
