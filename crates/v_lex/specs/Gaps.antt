-- Separators and comments (IEEE 1364-2005, clauses 3.2 and 3.3).
use Rattle.std.specs.Prelude.{◌≡◌, ℕ, List, [], ◌∷◌, ◌++◌, IsTrue, IsFalse, ◌⊎◌}
use Rattle.v_lex.specs.declared.bytes.ByteClass.{ByteClass}
use Rattle.v_lex.specs.declared.bytes.ByteClass.TheVariants as class
use Rattle.v_lex.specs.Bytes.{is_in, is_separator}
use Rattle.v_lex.specs.Spelling.{AllIn}

-- the next byte, if there is one, isn't of the class
abbrev pub Stops : ByteClass → List ℕ → Type 0
Stops c [] = Unit {0}
Stops c (b ∷ bs) = IsFalse (is_in c b)

abbrev pub IsSeparator : List ℕ → Type 0
IsSeparator bytes = (b : ℕ) × (bytes ≡ b ∷ []) × IsTrue (is_separator b)

-- // and all up to the end of the line (clause 3.3)
abbrev pub IsLineComment : List ℕ → List ℕ → Type 0
IsLineComment bytes behind = (inside : List ℕ) × (bytes ≡ 47 ∷ 47 ∷ inside) × AllIn class.Line inside × Stops class.Line behind

-- */ stands nowhere in the bytes
abbrev pub IsOpen : List ℕ → Type 0
IsOpen bytes = (front rest : List ℕ) → bytes ≡ front ++ 42 ∷ 47 ∷ rest → ⊥

-- /* and all up to the first */ (clause 3.3)
abbrev pub IsBlockComment : List ℕ → Type 0
IsBlockComment bytes = (inside : List ℕ) × (bytes ≡ 47 ∷ 42 ∷ inside ++ 42 ∷ 47 ∷ []) × IsOpen (inside ++ 42 ∷ [])

abbrev pub IsComment : List ℕ → List ℕ → Type 0
IsComment bytes behind = IsLineComment bytes behind ⊎ IsBlockComment bytes

-- /* without a */, up to the end of the text
abbrev pub IsOpenComment : List ℕ → List ℕ → Type 0
IsOpenComment bytes behind = (inside : List ℕ) × (bytes ≡ 47 ∷ 42 ∷ inside) × IsOpen inside × (behind ≡ [])

abbrev pub IsGap : List ℕ → List ℕ → Type 0
IsGap bytes behind = IsSeparator bytes ⊎ (IsComment bytes behind ⊎ IsOpenComment bytes behind)

-- // or /* stands there
abbrev pub BeginsComment : List ℕ → Type 0
BeginsComment text = (rest : List ℕ) × ((text ≡ 47 ∷ 47 ∷ rest) ⊎ (text ≡ 47 ∷ 42 ∷ rest))
