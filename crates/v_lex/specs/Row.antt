-- A Verilog text as a row of parts (IEEE 1364-2005, clauses 3.1 and 19): tokens, separators, comments, directives, what is skipped, and
-- broken rules.
use Rattle.std.specs.Prelude.{◌≡◌, ℕ, ◌+◌, Bool, true, false, List, [], ◌∷◌, ◌++◌, length, Some, unwrap_or, IsFalse, ◌⊎◌}
use Rattle.v_syntax.specs.declared.token.Token.{Token}
use Rattle.v_lex.specs.declared.bytes.ByteClass.TheVariants as class
use Rattle.v_lex.specs.declared.directive.LexRule.{LexRule}
use Rattle.v_lex.specs.declared.directive.LexRule.TheVariants as rule
use Rattle.v_lex.specs.declared.directive.Content.{Content}
use Rattle.v_lex.specs.declared.directive.Content.TheVariants as content
use Rattle.v_lex.specs.Bytes.{is_separator}
use Rattle.v_lex.specs.Spelling.{AllIn, Form, SystemName, Number, HasForm, IsLongest, IsQuoted, Spells}
use Rattle.v_lex.specs.Gaps.{IsSeparator, IsComment, IsOpenComment, BeginsComment}
use Rattle.v_lex.specs.Directives.{IsDirective, BeginsConditional}
use Rattle.v_lex.specs.Lexing.{State, Scan, Lexed, is_taken, left_open, with_content, after_content, earliest, start, nanosecond, at_modules}

-- ---- broken rules

-- a quote that isn't closed on its line, up to the line's end
abbrev pub IsOpenText : List ℕ → List ℕ → Type 0
IsOpenText bytes behind =
    (inside : List ℕ) × (bytes ≡ 34 ∷ inside) × AllIn class.Text inside × ((behind ≡ []) ⊎ ((rest : List ℕ) × (behind ≡ 10 ∷ rest)))

-- The bytes look like a token of the form, and are none.
abbrev pub IsNoToken : Form → List ℕ → List ℕ → Type 0
IsNoToken form bytes behind = IsLongest form bytes behind × ((t : Token) → Spells bytes t → ⊥)

-- one byte with which nothing begins that may stand in a text
pub record IsStray (bytes behind : List ℕ) : Type 0 where
  pub byte : ℕ
  pub is : bytes ≡ byte ∷ []
  pub separates : IsFalse (is_separator byte)
  pub quotes : byte ≡ 34 → ⊥
  pub directs : byte ≡ 96 → ⊥
  pub spells : (form : Form) (front rest : List ℕ) → byte ∷ behind ≡ front ++ rest → HasForm form front → ⊥

-- BadByte: a byte that begins no token, or a name behind $ that is no system task's.
-- BadNumber: a number whose size, digits or value are wrong.
-- UnclosedText: a text that isn't closed on its line (a comment that isn't closed stands below).
abbrev pub Breaks : LexRule → List ℕ → List ℕ → Type 0
Breaks rule.BadByte bytes behind = IsStray bytes behind ⊎ IsNoToken SystemName bytes behind
Breaks rule.BadNumber bytes behind = IsNoToken Number bytes behind
Breaks rule.UnclosedText bytes behind = IsOpenText bytes behind
Breaks rule.Directive bytes behind = ⊥

-- ---- what stands at a place

-- what a comment is: nothing, or a broken rule
abbrev pub CommentStands : Content → List ℕ → List ℕ → Type 0
CommentStands content.Gap bytes behind = IsComment bytes behind
CommentStands (content.Broken rule.UnclosedText) bytes behind = IsOpenComment bytes behind
CommentStands _ bytes behind = ⊥

-- Of the tokens the longest stands there.
abbrev pub TakenStands : Content → List ℕ → List ℕ → Type 0
TakenStands content.Gap bytes behind = IsSeparator bytes
TakenStands (content.Token t) bytes behind = (form : Form) × IsLongest form bytes behind × Spells bytes t
TakenStands (content.Directive d) bytes behind = IsDirective d bytes behind
TakenStands (content.Broken r) bytes behind = Breaks r bytes behind

-- a byte of a part that isn't taken, where no text that is closed on its line and no directive of a conditional begins
pub record IsSkipped (bytes behind : List ℕ) : Type 0 where
  pub byte : ℕ
  pub is : bytes ≡ byte ∷ []
  pub quotes : (front rest inside : List ℕ) → byte ∷ behind ≡ front ++ rest → IsQuoted front inside → ⊥
  pub directs : BeginsConditional (byte ∷ behind) → ⊥

abbrev pub SkippedStands : Content → List ℕ → List ℕ → Type 0
SkippedStands content.Gap bytes behind = ((inside : List ℕ) × IsQuoted bytes inside) ⊎ IsSkipped bytes behind
SkippedStands (content.Token t) bytes behind = ⊥
SkippedStands (content.Directive d) bytes behind = BeginsConditional (bytes ++ behind) × IsDirective d bytes behind
SkippedStands (content.Broken r) bytes behind = ⊥

abbrev pub TakenOrSkippedStands : Bool → Content → List ℕ → List ℕ → Type 0
TakenOrSkippedStands true c bytes behind = TakenStands c bytes behind
TakenOrSkippedStands false c bytes behind = SkippedStands c bytes behind

-- these bytes stand before those, in a part that is taken or not
abbrev pub Stands : Bool → Content → List ℕ → List ℕ → Type 0
Stands taken c bytes behind =
    CommentStands c bytes behind ⊎ ((BeginsComment (bytes ++ behind) → ⊥) × TakenOrSkippedStands taken c bytes behind)

-- ---- the whole text

pub record Part : Type 0 where
  pub bytes : List ℕ
  pub content : Content

-- From a place on, the text is these parts, one behind the other.
unfoldable pub IsRow : State → ℕ → List Part → List ℕ → Type 0
IsRow s place [] text = text ≡ []
IsRow s place (p ∷ ps) text =
    (behind : List ℕ) × (text ≡ p.bytes ++ behind) × Stands (is_taken s.conditionals) p.content p.bytes behind
    × IsRow (after_content s place p.content) (place + length p.bytes) ps behind

-- all bytes of the parts
abbrev pub spelled : List Part → List ℕ
spelled [] = []
spelled (p ∷ ps) = p.bytes ++ spelled ps

-- The tokens of parts with their places and the units of time there, the rules that they break, and what their directives set.
unfoldable pub told_of : State → ℕ → List Part → Scan
told_of s place [] = record { tokens = []; places = []; units = []; faults = left_open s.conditionals; last = s }
told_of s place (p ∷ ps) = with_content s place p.content (told_of (after_content s place p.content) (place + length p.bytes) ps)

-- the parts are the whole text
abbrev pub IsRowOf : List Part → List ℕ → Type 0
IsRowOf row text = IsRow start 0 row text

-- what the whole text tells
abbrev pub told : List Part → Scan
told row = told_of start 0 row

-- The text breaks no rule, and this is what its tokens and directives tell.
abbrev pub Reads : List ℕ → Lexed → Type 0
Reads text lexed =
    (row : List Part) × IsRowOf row text × ((told row).faults ≡ [])
    × (lexed ≡ record {
      tokens = (told row).tokens;
      places = (told row).places ++ length text ∷ [];
      units = at_modules (told row).tokens (told row).units;
      unit = (told row).last.unit;
      step = unwrap_or (told row).last.step nanosecond;
    })

-- Of the rules that the text breaks this is the first by place.
abbrev pub BreaksFirst : List ℕ → LexRule → ℕ → Type 0
BreaksFirst text r place = (row : List Part) × IsRowOf row text × (earliest (told row).faults ≡ Some (record { rule = r; place = place }))
