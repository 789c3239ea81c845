-- A means of proof: the comment at the front of a text, as the code finds it. `Gaps` says what it means.
use Rattle.std.specs.Prelude.{ℕ, suc, ◌+◌, Bool, List, [], ◌∷◌, length, drop, Option, Some, None, option_map, if◌then◌else◌, nat_eq}
use Rattle.std.specs.List.{starts_with}
use lib.Chars.{codes}
use Rattle.v_syntax.specs.declared.token.Token.{Token}
use Rattle.v_lex.specs.declared.bytes.ByteClass.TheVariants as class
use Rattle.v_lex.specs.declared.directive.Directive.{Directive}
use Rattle.v_lex.specs.declared.directive.LexRule.{LexRule}
use Rattle.v_lex.specs.declared.directive.LexRule.TheVariants as rule
use Rattle.v_lex.specs.declared.directive.Content.{Content}
use Rattle.v_lex.specs.declared.directive.Content.TheVariants as content
use Rattle.v_lex.specs.declared.directive.Piece.{Piece}
use Rattle.v_lex.specs.Bytes.{run}

abbrev pub piece : ℕ → Content → Piece
piece n c = record { size = n; content = c }

abbrev pub gap : ℕ → Piece
gap n = piece n content.Gap

abbrev pub token_of : ℕ → Token → Piece
token_of n t = piece n (content.Token t)

abbrev pub broken : ℕ → LexRule → Piece
broken n r = piece n (content.Broken r)

abbrev pub directive_of_parts : ℕ → Directive → Piece
directive_of_parts n d = piece n (content.Directive d)

abbrev pub begins : List ℕ → List ℕ → Bool
begins text front = starts_with nat_eq text front

-- ---- comments

-- how many bytes stand up to the first */ and with it, if there is one
unfoldable pub comment_end : List ℕ → Option ℕ
comment_end [] = None
comment_end (b ∷ bs) = if begins (b ∷ bs) (codes "*/") then Some 2 else option_map suc (comment_end bs)

-- A comment from /* on reaches to the end of the text where it isn't closed.
abbrev pub block_comment_to : List ℕ → Option ℕ → Piece
block_comment_to text (Some n) = gap (2 + n)
block_comment_to text None = broken (length text) rule.UnclosedText

-- the comment that stands at the front of the text, if one does
unfoldable pub comment_at : List ℕ → Option Piece
comment_at text =
    if begins text (codes "//") then Some (gap (2 + run class.Line (drop 2 text)))
    else (if begins text (codes "/*") then Some (block_comment_to text (comment_end (drop 2 text))) else None)
