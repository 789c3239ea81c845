-- Which lines stand in which blocks, and which lines of a text have no place (the language reference, 2.1.8 and 8).
use Rattle.std.specs.Prelude.{◌≡◌, ◌⊎◌, ℕ, zero, suc, ◌-◌, ◌<◌, ◌≤◌, Bool, true, false, ◌&&◌, ◌==◌, nat_lt, List, [], ◌∷◌, length, Option, Some, None, if◌then◌else◌}
use Rattle.py_syntax.specs.Line.{Line}
use Rattle.py_syntax.specs.ModuleTrees.{ModuleLine, view_module_line}
use Rattle.py_syntax.specs.ModuleForms.{SpellsModuleLine}
use Rattle.py_syntax.specs.StatementTrees.{BodyLine, view_line, line_height}
use Rattle.py_syntax.specs.StatementForms.{SpellsLine}
use Rattle.py_syntax.specs.declared.keyword.Keyword.{Keyword}
use Rattle.py_syntax.specs.declared.keyword.Keyword.TheVariants as keyword
use Rattle.py_syntax.specs.declared.outline.OpenBlock.{OpenBlock}
use Rattle.py_syntax.specs.declared.outline.Content as code
use Rattle.py_syntax.specs.declared.outline.Content.TheVariants as content
use Rattle.py_syntax.specs.declared.outline.PlacedLine as placed
use Rattle.py_syntax.specs.declared.token.Token.{Token}
use Rattle.py_syntax.specs.declared.token.Token.TheVariants as token

-- what a logical line says: nothing, where it is a docstring, a line of a module, or a line of a function's body
pub data Content : Type 0 where
  Docstring : Content
  InModule : ModuleLine → Content
  InBody : BodyLine → Content

-- a logical line, in how many blocks it stands, and the number of its first physical line
pub record Placed : Type 0 where
  pub depth : ℕ
  pub number : ℕ
  pub content : Content

abbrev pub view_content : code.Content → Content
view_content content.Docstring = Docstring
view_content (content.Module l) = InModule (view_module_line l)
view_content (content.Body l) = InBody (view_line l)

abbrev pub view_placed : placed.PlacedLine → Placed
view_placed p = record { depth = p.depth; number = p.number.0; content = view_content p.content }

-- The reserved word with which a line begins.
abbrev pub word_of : List Token → Option Keyword
word_of (token.Keyword k ∷ ts) = Some k
word_of _ = None

-- The words with which a header begins, and no other line.
abbrev pub is_header : Option Keyword → Bool
is_header (Some keyword.If) = true
is_header (Some keyword.Elif) = true
is_header (Some keyword.Else) = true
is_header (Some keyword.While) = true
is_header (Some keyword.For) = true
is_header (Some keyword.Try) = true
is_header (Some keyword.Except) = true
is_header (Some keyword.Async) = true
is_header _ = false

abbrev pub is_branch : Option Keyword → Bool
is_branch (Some keyword.If) = true
is_branch (Some keyword.Elif) = true
is_branch _ = false

abbrev pub is_guarded : Option Keyword → Bool
is_guarded (Some keyword.Try) = true
is_guarded (Some keyword.Except) = true
is_guarded _ = false

-- Behind a line of its block that begins with the first word, or with none, a line may begin with the second: `elif` and `else` follow an
-- `if` or an `elif` and its block, `except` follows a `try` or an `except` and its block.
abbrev pub may_follow : Option Keyword → Option Keyword → Bool
may_follow before (Some keyword.Elif) = is_branch before
may_follow before (Some keyword.Else) = is_branch before
may_follow before (Some keyword.Except) = is_guarded before
may_follow before _ = true

-- The open blocks, the innermost first. Before the first line the module's is open.
abbrev pub at_start : List OpenBlock
at_start = record { indentation = 0; last = None } ∷ []

-- those that are not indented deeper
abbrev pub within : ℕ → List OpenBlock → List OpenBlock
within n [] = []
within n (b ∷ bs) = if nat_lt n b.indentation then within n bs else b ∷ bs

-- the innermost is indented so
abbrev pub exact : ℕ → List OpenBlock → Option (List OpenBlock)
exact n [] = None
exact n (b ∷ bs) = if b.indentation == n then Some (b ∷ bs) else None

-- The blocks that are open at a line of this indentation: behind a header a deeper line opens a block, and any other line stands in a block
-- that is open.
abbrev pub enter : ℕ → List OpenBlock → Option (List OpenBlock)
enter n [] = None
enter n (b ∷ bs) =
    if nat_lt b.indentation n then (if is_header b.last then Some (record { indentation = n; last = None } ∷ b ∷ bs) else None)
    else exact n (within n (b ∷ bs))

abbrev pub last_word : List OpenBlock → Option Keyword
last_word [] = None
last_word (b ∷ bs) = b.last

-- the line begins with this word
abbrev pub with_last : Option Keyword → List OpenBlock → List OpenBlock
with_last k [] = []
with_last k (b ∷ bs) = record { indentation = b.indentation; last = k } ∷ bs

-- in how many blocks a line stands, the module's not counted
abbrev pub depth : List OpenBlock → ℕ
depth bs = length bs - 1

-- the blocks that are open at a line, if one of them is its place
abbrev pub may_stand : Option Keyword → List OpenBlock → Option (List OpenBlock)
may_stand k bs = if may_follow (last_word bs) k then Some bs else None

abbrev pub place_in : Option Keyword → Option (List OpenBlock) → Option (List OpenBlock)
place_in k None = None
place_in k (Some bs) = may_stand k bs

unfoldable pub place : Line → List OpenBlock → Option (List OpenBlock)
place l bs = place_in (word_of l.tokens) (enter l.indentation bs)

-- The next line is indented deeper.
abbrev pub goes_deeper : ℕ → List Line → Bool
goes_deeper n [] = false
goes_deeper n (l ∷ ls) = nat_lt n l.indentation

abbrev pub is_except : Option Keyword → Bool
is_except (Some keyword.Except) = true
is_except _ = false

-- The next line that is not indented deeper is indented so, and begins with `except`.
unfoldable pub is_caught : ℕ → List Line → Bool
is_caught n [] = false
is_caught n (l ∷ ls) = if nat_lt n l.indentation then is_caught n ls else ((l.indentation == n) && is_except (word_of l.tokens))

abbrev pub block_of : Option Keyword → ℕ → List Line → Bool
block_of (Some keyword.Try) n ls = goes_deeper n ls && is_caught n ls
block_of k n ls = if is_header k then goes_deeper n ls else true

-- A header has its block, and a `try` an `except` behind that.
unfoldable pub has_block : Line → List Line → Bool
has_block l ls = block_of (word_of l.tokens) l.indentation ls

-- what a line says that stands in so many blocks
unfoldable pub Says : ℕ → Content → Line → Type 0
Says d Docstring l = (l.is_docstring ≡ true) × (l.tokens ≡ [])
Says zero (InModule m) l = (l.is_docstring ≡ false) × SpellsModuleLine m l.tokens
Says (suc d) (InModule m) l = ⊥
Says zero (InBody b) l = ⊥
Says (suc d) (InBody b) l = (l.is_docstring ≡ false) × SpellsLine b l.tokens

unfoldable pub content_height : Content → ℕ
content_height Docstring = 0
content_height (InModule m) = 0
content_height (InBody b) = line_height b

-- at most 32 blocks, the function's own counted, and a height of at most 64
pub record IsWithinLimits (d : ℕ) (c : Content) : Type 0 where
  pub blocks : d ≤ 32
  pub height : content_height c ≤ 64

-- Behind lines that left these blocks open, logical lines are these lines in their places. The blocks of a text's first line are `at_start`.
unfoldable pub SpellsOutline : List OpenBlock → List Placed → List Line → Type 0
SpellsOutline bs [] [] = Unit {0}
SpellsOutline bs [] (l ∷ ls) = ⊥
SpellsOutline bs (p ∷ ps) [] = ⊥
SpellsOutline bs (p ∷ ps) (l ∷ ls) =
    (cs : List OpenBlock) × (place l bs ≡ Some cs) × (p.depth ≡ depth cs) × (p.number ≡ l.number) × Says (depth cs) p.content l
    × (has_block l ls ≡ true) × SpellsOutline (with_last (word_of l.tokens) cs) ps ls

abbrev pub AreWithinLimits : List Placed → Type 0
AreWithinLimits [] = Unit {0}
AreWithinLimits (p ∷ ps) = IsWithinLimits p.depth p.content × AreWithinLimits ps

-- Which rule a line breaks: it has no form in its place, it is a header without its block, or it is over a limit.
pub data Refusal : Type 0 where
  bad_line : ℕ → Refusal
  no_block : ℕ → Refusal
  too_deep : ℕ → Refusal

-- no form in its place
abbrev pub HasNoForm : List OpenBlock → Line → Type 0
HasNoForm bs l = (cs : List OpenBlock) (c : Content) → place l bs ≡ Some cs → Says (depth cs) c l → ⊥

-- a form in these blocks
abbrev pub HasForm : List OpenBlock → Line → List OpenBlock → Content → Type 0
HasForm bs l cs c = (place l bs ≡ Some cs) × Says (depth cs) c l

abbrev pub IsOverLimits : ℕ → Content → Type 0
IsOverLimits d c = (32 < d) ⊎ (64 < content_height c)

-- The first broken rule of a line that these lines follow.
unfoldable pub Breaks : List OpenBlock → Line → List Line → Refusal → Type 0
Breaks bs l ls (bad_line n) = (n ≡ l.number) × HasNoForm bs l
Breaks bs l ls (no_block n) = (n ≡ l.number) × (cs : List OpenBlock) × (c : Content) × HasForm bs l cs c × (has_block l ls ≡ false)
Breaks bs l ls (too_deep n) = (n ≡ l.number) × (cs : List OpenBlock) × (c : Content) × HasForm bs l cs c × (has_block l ls ≡ true) × IsOverLimits (depth cs) c

-- The first broken rule of lines: those before it break none.
unfoldable pub Refused : List OpenBlock → List Line → Refusal → Type 0
Refused bs [] r = ⊥
Refused bs (l ∷ ls) r =
    Breaks bs l ls r
    ⊎ ((cs : List OpenBlock) × (c : Content) × HasForm bs l cs c × (has_block l ls ≡ true) × IsWithinLimits (depth cs) c
    × Refused (with_last (word_of l.tokens) cs) ls r)
