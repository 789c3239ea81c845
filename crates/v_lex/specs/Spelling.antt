-- Which bytes have the form of a token, and which token they spell (IEEE 1364-2005, clauses 3.4 to 3.7).
use Rattle.std.specs.Prelude.{◌≡◌, ℕ, suc, ◌+◌, ◌-◌, ◌*◌, ◌^◌, ◌≤◌, ◌<◌, ◌==◌, List, [], ◌∷◌, ◌++◌, take, replicate, Some, None, IsTrue}
use Rattle.std.specs.Prelude.{◌⊎◌, if◌then◌else◌}
use Rattle.std.specs.List.{list_all}
use Rattle.four_value.specs.declared.Digit.{Digit}
use Rattle.four_value.specs.Vector.{vector}
use Rattle.v_syntax.specs.declared.token.Token.{Token}
use Rattle.v_syntax.specs.declared.token.Token.TheVariants as token
use Rattle.v_syntax.specs.declared.mark.Mark.{Mark}
use Rattle.v_syntax.specs.Words.{keyword_of, reserved_of, keyword_spelling, reserved_spelling, task_spelling}
use Rattle.v_syntax.specs.Marks.{mark_spelling}
use Rattle.v_lex.specs.declared.base.Base.{Base}
use Rattle.v_lex.specs.declared.base.Base.TheVariants.{Decimal}
use Rattle.v_lex.specs.declared.bytes.ByteClass.{ByteClass}
use Rattle.v_lex.specs.declared.bytes.ByteClass.TheVariants as class
use Rattle.v_lex.specs.Bytes.{is_in, is_digit, is_name_start}
use Rattle.v_lex.specs.Digits.{base_of, bits_of, digits_of, unknown_of, fill_of}

-- every byte is of the class
abbrev pub AllIn : ByteClass → List ℕ → Type 0
AllIn c bytes = IsTrue (list_all (is_in c) bytes)

-- ---- forms

-- what the bytes of a token look like
pub data Form : Type 0 where
  Word : Form
  SystemName : Form
  Number : Form
  Quoted : Form
  Sign : Form

-- a letter or _, and letters, digits, _ and $ behind it (clause 3.7)
abbrev pub IsWord : List ℕ → Type 0
IsWord [] = ⊥
IsWord (b ∷ bs) = IsTrue (is_name_start b) × AllIn class.Name bs

-- $, and letters, digits, _ and $ behind it (clause 3.7.3)
abbrev pub IsSystemName : List ℕ → Type 0
IsSystemName [] = ⊥
IsSystemName (b ∷ bs) = (b ≡ 36) × AllIn class.Name bs

-- a decimal digit, and decimal digits and _ behind it (clause 3.5.1)
abbrev pub IsDecimal : List ℕ → Type 0
IsDecimal [] = ⊥
IsDecimal (b ∷ bs) = IsTrue (is_digit b) × AllIn class.Decimal bs

-- The size before a base: decimal digits, or nothing.
abbrev pub IsSize : List ℕ → Type 0
IsSize size = (size ≡ []) ⊎ IsDecimal size

-- a size, ', the letter of a base in either case, and written digits: any bytes that are digits of some base, x, z, ? and _
pub record IsBased (bytes size written : List ℕ) (base : Base) : Type 0 where
  pub letter : ℕ
  pub is : bytes ≡ size ++ 39 ∷ letter ∷ written
  pub sized : IsSize size
  pub based : base_of letter ≡ Some base
  pub digits : AllIn class.Written written

-- decimal digits alone, or a number with a base
abbrev pub IsNumber : List ℕ → Type 0
IsNumber bytes = IsDecimal bytes ⊎ ((size written : List ℕ) × (base : Base) × IsBased bytes size written base)

-- a quote, bytes other than a quote and a line feed, and a quote (clause 3.6)
abbrev pub IsQuoted : List ℕ → List ℕ → Type 0
IsQuoted bytes inside = (bytes ≡ 34 ∷ inside ++ 34 ∷ []) × AllIn class.Text inside

abbrev pub HasForm : Form → List ℕ → Type 0
HasForm Word bytes = IsWord bytes
HasForm SystemName bytes = IsSystemName bytes
HasForm Number bytes = IsNumber bytes
HasForm Quoted bytes = (inside : List ℕ) × IsQuoted bytes inside
HasForm Sign bytes = (m : Mark) × (bytes ≡ mark_spelling m)

-- The bytes have a form, and no longer front of the text has any.
pub record IsLongest (form : Form) (bytes behind : List ℕ) : Type 0 where
  pub has : HasForm form bytes
  pub most : (other : Form) (more rest : List ℕ) → behind ≡ more ++ rest → HasForm other (bytes ++ more) → more ≡ []

-- ---- numbers (clause 3.5.1)

-- how many digits stand there, _ apart
unfoldable pub digit_count : List ℕ → ℕ
digit_count [] = 0
digit_count (b ∷ bs) = if b == 95 then digit_count bs else suc (digit_count bs)

-- the number that decimal digits write: each counts by its place
unfoldable pub decimal : List ℕ → ℕ
decimal [] = 0
decimal (b ∷ bs) = if b == 95 then decimal bs else (b - 48) * 10 ^ digit_count bs + decimal bs

-- The size of a number: 1 to 128, and 32 where none is written.
abbrev pub SizeOf : List ℕ → ℕ → Type 0
SizeOf [] n = n ≡ 32
SizeOf (b ∷ bs) n = (n ≡ decimal (b ∷ bs)) × (1 ≤ n) × (n ≤ 128)

-- In a base of a power of two each digit stands for its own bits, lowest first, and the last digit's bits are the lowest.
unfoldable pub Writes : ℕ → List ℕ → List Digit → Type 0
Writes bits [] ds = ds ≡ []
Writes bits (b ∷ bs) ds =
    ((b ≡ 95) × Writes bits bs ds)
    ⊎ ((high low : List Digit) × (b ≡ 95 → ⊥) × (digits_of bits b ≡ Some high) × Writes bits bs low × (ds ≡ low ++ high))

-- one x, z or ?, and only _ behind it
abbrev pub IsLone : List ℕ → Digit → Type 0
IsLone [] d = ⊥
IsLone (b ∷ bs) d = (unknown_of b ≡ Some d) × IsTrue (list_all (λ c. c == 95) bs)

-- In base ten the written digits are a number below 2 ^ 128, or one unknown for all.
abbrev pub DecimalVector : ℕ → List ℕ → List Digit → Type 0
DecimalVector size written ds =
    ((d : Digit) × IsLone written d × (ds ≡ replicate size d))
    ⊎ (AllIn class.Decimal written × (decimal written < 2 ^ 128) × (ds ≡ vector size (decimal written)))

-- In the other bases missing high digits are x or z where the highest written one is, and else 0; what is past the size is cut.
abbrev pub WrittenVector : ℕ → ℕ → List ℕ → List Digit → Type 0
WrittenVector bits size written ds =
    (low : List Digit) × Writes bits written low × (ds ≡ take size (low ++ replicate size (fill_of written)))

abbrev pub InBase : Base → ℕ → List ℕ → List Digit → Type 0
InBase Decimal size written ds = DecimalVector size written ds
InBase base size written ds = WrittenVector (bits_of base) size written ds

-- the first written digit is no _, and there is one
abbrev pub BeginsWithDigit : List ℕ → Type 0
BeginsWithDigit [] = ⊥
BeginsWithDigit (b ∷ bs) = b ≡ 95 → ⊥

-- the vector that a number with a base stands for
pub record BasedVector (size written : List ℕ) (base : Base) (ds : List Digit) : Type 0 where
  pub width : ℕ
  pub sized : SizeOf size width
  pub begins : BeginsWithDigit written
  pub is : InBase base width written ds

-- Decimal digits alone stand for 32 bits of a number below 2 ^ 128.
abbrev pub PlainVector : List ℕ → List Digit → Type 0
PlainVector bytes ds = IsDecimal bytes × (decimal bytes < 2 ^ 128) × (ds ≡ vector 32 (decimal bytes))

abbrev pub NumberOf : List ℕ → List Digit → Type 0
NumberOf bytes ds =
    PlainVector bytes ds
    ⊎ ((size written : List ℕ) × (base : Base) × IsBased bytes size written base × BasedVector size written base ds)

-- ---- tokens

-- A name is a word that isn't reserved (clause 3.7.2).
abbrev pub IsName : List ℕ → Type 0
IsName bytes = IsWord bytes × (keyword_of bytes ≡ None) × (reserved_of bytes ≡ None)

-- the bytes spell the token
abbrev pub Spells : List ℕ → Token → Type 0
Spells bytes (token.Name name) = (bytes ≡ name) × IsName name
Spells bytes (token.Keyword k) = bytes ≡ keyword_spelling k
Spells bytes (token.Reserved r) = bytes ≡ reserved_spelling r
Spells bytes (token.SystemTask t) = bytes ≡ task_spelling t
Spells bytes (token.Number ds) = NumberOf bytes ds
Spells bytes (token.Text inside) = IsQuoted bytes inside
Spells bytes (token.Mark m) = bytes ≡ mark_spelling m
