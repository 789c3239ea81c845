-- What texts are made of (the language reference, 2).
use Rattle.std.specs.Prelude.{◌≡◌, ◌≢◌, ℕ, false, List, [], ◌∷◌, ◌++◌, take, Option, None, Some, if◌then◌else◌}
use Rattle.py_syntax.specs.Bytes.{is_escapable, is_brace}

-- What a text is made of: a byte that stands for itself, or a backslash with the byte that it takes with it.
pub data Item : Type 0 where
  plain : ℕ → Item
  escaped : ℕ → Item

abbrev pub bytes_of : List Item → List ℕ
bytes_of [] = []
bytes_of (plain b ∷ items) = b ∷ bytes_of items
bytes_of (escaped b ∷ items) = 92 ∷ b ∷ bytes_of items

-- b before what a text says
abbrev pub with_byte : ℕ → Option (List ℕ) → Option (List ℕ)
with_byte b None = None
with_byte b (Some bs) = Some (b ∷ bs)

-- what they say, if each backslash stands before a backslash or a quote
abbrev pub said_by : List Item → Option (List ℕ)
said_by [] = Some []
said_by (plain b ∷ items) = with_byte b (said_by items)
said_by (escaped b ∷ items) = if is_escapable b then with_byte b (said_by items) else None

-- Between such quotes no line feed stands, and no backslash or quote stands for itself.
abbrev pub AreInText : ℕ → List Item → Type 0
AreInText quote [] = Unit {0}
AreInText quote (plain b ∷ items) = (b ≢ 10) × (b ≢ 92) × (b ≢ quote) × AreInText quote items
AreInText quote (escaped b ∷ items) = (b ≢ 10) × AreInText quote items

-- What stands for itself between the quotes of an f-string: the same, and no brace.
abbrev pub AreInLiteral : ℕ → List Item → Type 0
AreInLiteral quote [] = Unit {0}
AreInLiteral quote (plain b ∷ items) = (b ≢ 10) × (b ≢ 92) × (b ≢ quote) × (is_brace b ≡ false) × AreInLiteral quote items
AreInLiteral quote (escaped b ∷ items) = (b ≢ 10) × AreInLiteral quote items

-- the three quotes that close a docstring
abbrev pub closing : List Item
closing = plain 34 ∷ plain 34 ∷ plain 34 ∷ []

-- What stands in a docstring up to the quotes that close it: any bytes, but nowhere before these three quotes in a row.
abbrev pub AreInDocstring : List Item → Type 0
AreInDocstring [] = Unit {0}
AreInDocstring (plain b ∷ items) = (b ≢ 92) × (take 3 (plain b ∷ items ++ closing) ≢ closing) × AreInDocstring items
AreInDocstring (escaped b ∷ items) = AreInDocstring items
