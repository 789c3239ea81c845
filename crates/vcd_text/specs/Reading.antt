-- A means of proof: what a reader of VCD texts has to answer.
use Rattle.std.specs.Prelude.{◌≡◌, ◌⊎◌, ℕ, suc, ◌+◌, ◌<◌, max, List, [], ◌∷◌, ◌++◌, map, length, take}
use Rattle.std.specs.List.{AllByRecursion}
use Rattle.port_io.specs.ToldLaws.{joined}
use Rattle.gpi.specs.declared.design.Flat.{Flat}
use Rattle.vcd_text.specs.Spelling.{line}
use Rattle.vcd_text.specs.Traceable.{IsTraceable}
use Rattle.vcd_text.specs.Changes.{ValueChange, AreChangesOf}
use Rattle.vcd_text.specs.Text.{vcd}

-- a design that a VCD text can be written of, and changes of it
pub record Trace : Type 0 where
  pub flat : Flat
  pub changes : List ValueChange
  pub traceable : IsTraceable flat
  pub fit : AreChangesOf flat changes

-- the text is that of a trace
abbrev pub IsVcdOf : Trace → List ℕ → Type 0
IsVcdOf trace text = text ≡ joined (vcd trace.flat trace.changes)

-- ---- lines of a text

-- the bytes have no line feed
abbrev pub IsOneLine : List ℕ → Type 0
IsOneLine bytes = (front back : List ℕ) → bytes ≡ front ++ 10 ∷ back → ⊥

-- the text is these lines, each with its line feed behind it, and then an open line, which is empty where the text ends with a line feed
pub record HasLines (text : List ℕ) (lines : List (List ℕ)) (open_line : List ℕ) : Type 0 where
  pub each : AllByRecursion IsOneLine lines
  pub last : IsOneLine open_line
  pub split : text ≡ joined (map line lines) ++ open_line

-- the number of the last line, from 1, and 1 where there is none
abbrev pub last_line : List (List ℕ) → List ℕ → ℕ
last_line lines [] = max 1 (length lines)
last_line lines (byte ∷ bytes) = length lines + 1

-- ---- faults

-- some VCD text begins with these lines
abbrev pub BeginSome : List (List ℕ) → Type 0
BeginSome lines = (trace : Trace) × (more : List (List ℕ)) × (vcd trace.flat trace.changes ≡ map line lines ++ more)

-- some VCD text begins with the lines before this one, but none goes on with this one
pub record IsImpossible (lines : List (List ℕ)) (number : ℕ) : Type 0 where
  pub before : ℕ
  pub counted : number ≡ suc before
  pub there : before < length lines
  pub possible : BeginSome (take before lines)
  pub impossible : BeginSome (take number lines) → ⊥

-- some VCD text begins with these lines, but this text isn't a whole one, and this is its last line
pub record IsUnended (text : List ℕ) (lines : List (List ℕ)) (open_line : List ℕ) (number : ℕ) : Type 0 where
  pub possible : BeginSome lines
  pub unended : (trace : Trace) → IsVcdOf trace text → ⊥
  pub last : number ≡ last_line lines open_line

-- the text is refused at the line of this number, from 1
abbrev pub IsBadLine : List ℕ → ℕ → Type 0
IsBadLine text number =
    (lines : List (List ℕ)) × (open_line : List ℕ) × HasLines text lines open_line × (IsImpossible lines number ⊎ IsUnended text lines open_line number)
