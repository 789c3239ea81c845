-- Which bytes are a directive (IEEE 1364-2005, clause 19): a backquote, its word directly behind it, and its parts, with separators between
-- them.
use Rattle.std.specs.Prelude.{◌≡◌, ℕ, ◌*◌, List, [], ◌∷◌, ◌++◌, Some, ◌⊎◌}
use lib.Chars.{codes}
use Rattle.v_lex.specs.declared.bytes.ByteClass.TheVariants as class
use Rattle.v_lex.specs.declared.directive.DirectiveWord.{DirectiveWord}
use Rattle.v_lex.specs.declared.directive.DirectiveWord.TheVariants as word
use Rattle.v_lex.specs.declared.directive.Directive.{Directive}
use Rattle.v_lex.specs.declared.directive.Directive.TheVariants as directive
use Rattle.v_lex.specs.DirectiveWords.{directive_spelling}
use Rattle.v_lex.specs.Spelling.{AllIn, IsName}
use Rattle.v_lex.specs.Gaps.{Stops, IsGap}
use Rattle.v_lex.specs.Times.{magnitude_of, unit_of}

-- What is left of the line has no token, only separators and comments. A comment that goes on past the line's end leaves
-- nothing of the line.
pub data IsBlankLine : List ℕ → Type 0 where
  Ends : IsBlankLine []
  Feeds : (rest : List ℕ) → IsBlankLine (10 ∷ rest)
  Goes : (gap rest : List ℕ) → IsGap gap rest → AllIn class.Line gap → IsBlankLine rest → IsBlankLine (gap ++ rest)
  Passes : (gap rest : List ℕ) → IsGap gap rest → (AllIn class.Line gap → ⊥) → IsBlankLine (gap ++ rest)

-- separators and a name
abbrev pub NamePart : List ℕ → List ℕ → List ℕ → Type 0
NamePart name parts behind = (gap : List ℕ) × (parts ≡ gap ++ name) × AllIn class.Separator gap × IsName name × Stops class.Name behind

-- separators, and `none` or `wire` (clause 19.2)
abbrev pub NetTypePart : List ℕ → List ℕ → Type 0
NetTypePart parts behind =
    (gap name : List ℕ) × (parts ≡ gap ++ name) × AllIn class.Separator gap × ((name ≡ codes "none") ⊎ (name ≡ codes "wire"))
    × Stops class.Name behind

-- separators and 1, 10 or 100, separators and a unit: a time in femtoseconds
pub record TimePart (time : ℕ) (parts : List ℕ) : Type 0 where
  pub before : List ℕ
  pub digits : List ℕ
  pub between : List ℕ
  pub unit : List ℕ
  pub magnitude : ℕ
  pub femtoseconds : ℕ
  pub is : parts ≡ before ++ (digits ++ (between ++ unit))
  pub separated : AllIn class.Separator before
  pub parted : AllIn class.Separator between
  pub counted : magnitude_of digits ≡ Some magnitude
  pub measured : unit_of unit ≡ Some femtoseconds
  pub total : time ≡ magnitude * femtoseconds

-- a time unit, separators and /, and a time precision (clause 19.8)
pub record ScalePart (unit precision : ℕ) (parts behind : List ℕ) : Type 0 where
  pub first : List ℕ
  pub gap : List ℕ
  pub second : List ℕ
  pub is : parts ≡ first ++ (gap ++ (47 ∷ second))
  pub unit_time : TimePart unit first
  pub separated : AllIn class.Separator gap
  pub precision_time : TimePart precision second
  pub ends : Stops class.Name behind

-- the parts behind the word of a directive
abbrev pub Parts : Directive → DirectiveWord → List ℕ → List ℕ → Type 0
Parts (directive.TimeScale u p) word.TimeScale parts behind = ScalePart u p parts behind
Parts (directive.Define name) word.Define parts behind = NamePart name parts behind × IsBlankLine behind
Parts (directive.Undef name) word.Undef parts behind = NamePart name parts behind
Parts (directive.IfDef name) word.IfDef parts behind = NamePart name parts behind
Parts (directive.IfNDef name) word.IfNDef parts behind = NamePart name parts behind
Parts (directive.ElsIf name) word.ElsIf parts behind = NamePart name parts behind
Parts directive.Else word.Else parts behind = parts ≡ []
Parts directive.EndIf word.EndIf parts behind = parts ≡ []
Parts directive.ResetAll word.ResetAll parts behind = parts ≡ []
Parts directive.DefaultNetType word.DefaultNetType parts behind = NetTypePart parts behind
Parts _ _ parts behind = ⊥

-- a directive with its parts
pub record IsWhole (d : Directive) (bytes behind : List ℕ) : Type 0 where
  pub word : DirectiveWord
  pub parts : List ℕ
  pub is : bytes ≡ 96 ∷ directive_spelling word ++ parts
  pub ends : Stops class.Name (parts ++ behind)
  pub has : Parts d word parts behind

-- A backquote and the word behind it, where no directive stands with its parts: only the word belongs to it.
pub record IsBare (name bytes behind : List ℕ) : Type 0 where
  pub is : bytes ≡ 96 ∷ name
  pub named : AllIn class.Name name
  pub ends : Stops class.Name behind
  pub lacks : (d : Directive) (front rest : List ℕ) → bytes ++ behind ≡ front ++ rest → IsWhole d front rest → ⊥

abbrev pub IsUnnamed : List ℕ → Type 0
IsUnnamed name = (name ≡ codes "ifdef") ⊎ (name ≡ codes "ifndef")

-- the bytes are the directive; without its parts it is broken, but a conditional without a name is opened
abbrev pub IsDirective : Directive → List ℕ → List ℕ → Type 0
IsDirective directive.Broken bytes behind = (name : List ℕ) × IsBare name bytes behind × (IsUnnamed name → ⊥)
IsDirective directive.Unnamed bytes behind = (name : List ℕ) × IsBare name bytes behind × IsUnnamed name
IsDirective d bytes behind = IsWhole d bytes behind

-- the words of the directives that part a conditional (clause 19.4)
abbrev pub IsOfConditional : DirectiveWord → Type 0
IsOfConditional word.IfDef = Unit {0}
IsOfConditional word.IfNDef = Unit {0}
IsOfConditional word.ElsIf = Unit {0}
IsOfConditional word.Else = Unit {0}
IsOfConditional word.EndIf = Unit {0}
IsOfConditional _ = ⊥

-- A backquote and the whole word of a directive of conditionals stand there.
abbrev pub BeginsConditional : List ℕ → Type 0
BeginsConditional text =
    (w : DirectiveWord) × (after : List ℕ) × IsOfConditional w × (text ≡ 96 ∷ (directive_spelling w ++ after)) × Stops class.Name after
