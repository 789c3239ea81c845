-- A means of proof: a directive and its parts, as the code finds them. `Directives` says what they mean.
use Rattle.std.specs.Prelude.{ℕ, zero, suc, ◌+◌, ◌*◌, Bool, true, false, ◌==◌, ◌||◌, ◌&&◌, List, [], ◌∷◌, length, take, drop, Option}
use Rattle.std.specs.Prelude.{Some, None, option_map, is_none, if◌then◌else◌}
use Rattle.std.specs.Str.{bytes_eq}
use lib.Chars.{codes}
use Rattle.v_lex.specs.declared.bytes.ByteClass.TheVariants as class
use Rattle.v_lex.specs.declared.directive.DirectiveWord.{DirectiveWord}
use Rattle.v_lex.specs.declared.directive.DirectiveWord.TheVariants as word
use Rattle.v_lex.specs.declared.directive.Directive.{Directive}
use Rattle.v_lex.specs.declared.directive.Directive.TheVariants as directive
use Rattle.v_lex.specs.declared.directive.Piece.{Piece}
use Rattle.v_lex.specs.Bytes.{is_separator, is_name_start, run}
use Rattle.v_syntax.specs.Words.{keyword_of, reserved_of}
use Rattle.v_lex.specs.DirectiveWords.{directive_of}
use Rattle.v_lex.specs.Numbers.{◌>>=◌}
use Rattle.v_lex.specs.Times.{magnitude_of, unit_of}
use Rattle.v_lex.specs.Comments.{begins, comment_at, directive_of_parts}

-- The longest run of bytes of a name behind separators, which may be empty, with the number of bytes up to its end.
abbrev pub word_behind : ℕ → List ℕ → ℕ × List ℕ
word_behind separators rest = (separators + run class.Name rest, take (run class.Name rest) rest)

unfoldable pub word_after : List ℕ → ℕ × List ℕ
word_after text = word_behind (run class.Separator text) (drop (run class.Separator text) text)

abbrev pub is_name : List ℕ → Bool
is_name [] = false
is_name (b ∷ bs) = is_name_start b && is_none (keyword_of (b ∷ bs)) && is_none (reserved_of (b ∷ bs))

-- the name behind separators, if a name stands there
unfoldable pub name_after : List ℕ → Option (ℕ × List ℕ)
name_after text = if is_name (word_after text).1 then Some (word_after text) else None

-- how many bytes the separator or the comment at the front has, if one stands there
abbrev pub first_gap : ℕ → List ℕ → Option ℕ
first_gap b text = if is_separator b then Some 1 else option_map (λ p. p.size) (comment_at text)

unfoldable pub gap_size : List ℕ → Option ℕ
gap_size [] = None
gap_size (b ∷ bs) = first_gap b (b ∷ bs)

-- A gap that goes on past the line's end leaves nothing of the line.
abbrev pub blank_behind : (List ℕ → Bool) → List ℕ → Option ℕ → Bool
blank_behind is_blank text (Some n) = if run class.Line (take n text) == n then is_blank (drop n text) else true
blank_behind is_blank text None = false

-- What is left of the line has no token, only separators and comments; n is at least the text's number of bytes.
unfoldable pub is_blank : ℕ → List ℕ → Bool
is_blank zero text = true
is_blank (suc n) [] = true
is_blank (suc n) (b ∷ bs) = if b == 10 then true else blank_behind (is_blank n) (b ∷ bs) (gap_size (b ∷ bs))

-- 1, 10 or 100 and a unit behind separators: the bytes up to its end, and femtoseconds
abbrev pub time_of : ℕ → List ℕ → ℕ × List ℕ → Option (ℕ × ℕ)
time_of size digits unit = do
  magnitude ← magnitude_of digits
  femtoseconds ← unit_of unit.1
  Some (size + unit.0, magnitude * femtoseconds)

abbrev pub time_behind : ℕ → List ℕ → Option (ℕ × ℕ)
time_behind separators rest =
    time_of (separators + run class.Digit rest) (take (run class.Digit rest) rest) (word_after (drop (run class.Digit rest) rest))

unfoldable pub time_after : List ℕ → Option (ℕ × ℕ)
time_after text = time_behind (run class.Separator text) (drop (run class.Separator text) text)

-- the bytes up to a / behind separators and with it
unfoldable pub slash_after : List ℕ → Option ℕ
slash_after text = if begins (drop (run class.Separator text) text) (codes "/") then Some (run class.Separator text + 1) else None

-- a unit, /, and a precision: the bytes up to their end, and the directive
unfoldable pub scale_after : List ℕ → Option (ℕ × Directive)
scale_after text = do
  unit ← time_after text
  slash ← slash_after (drop unit.0 text)
  precision ← time_after (drop (unit.0 + slash) text)
  Some (unit.0 + slash + precision.0, directive.TimeScale unit.1 precision.1)

abbrev pub scale_or_broken : ℕ → Option (ℕ × Directive) → Piece
scale_or_broken size (Some d) = directive_of_parts (size + d.0) d.1
scale_or_broken size None = directive_of_parts size directive.Broken

-- the directives that have a name and nothing else
abbrev pub with_name : DirectiveWord → List ℕ → Directive
with_name word.Undef name = directive.Undef name
with_name word.IfDef name = directive.IfDef name
with_name word.IfNDef name = directive.IfNDef name
with_name word.ElsIf name = directive.ElsIf name
with_name _ name = directive.Broken

abbrev pub without_name : DirectiveWord → Directive
without_name word.IfDef = directive.Unnamed
without_name word.IfNDef = directive.Unnamed
without_name _ = directive.Broken

abbrev pub named_or_broken : ℕ → DirectiveWord → Option (ℕ × List ℕ) → Piece
named_or_broken size w (Some a) = directive_of_parts (size + a.0) (with_name w a.1)
named_or_broken size w None = directive_of_parts size (without_name w)

-- Behind the name nothing stands on the line.
abbrev pub define_or_broken : ℕ → List ℕ → Option (ℕ × List ℕ) → Piece
define_or_broken size after (Some a) =
    if is_blank (length (drop a.0 after)) (drop a.0 after) then directive_of_parts (size + a.0) (directive.Define a.1)
    else directive_of_parts size directive.Broken
define_or_broken size after None = directive_of_parts size directive.Broken

abbrev pub net_type_or_broken : ℕ → ℕ × List ℕ → Piece
net_type_or_broken size a =
    if bytes_eq a.1 (codes "none") || bytes_eq a.1 (codes "wire") then directive_of_parts (size + a.0) directive.DefaultNetType
    else directive_of_parts size directive.Broken

-- A directive whose word has this size, before these bytes. Where it is broken, only its word belongs to it.
unfoldable pub directive_with : ℕ → List ℕ → Option DirectiveWord → Piece
directive_with size after None = directive_of_parts size directive.Broken
directive_with size after (Some word.TimeScale) = scale_or_broken size (scale_after after)
directive_with size after (Some word.Define) = define_or_broken size after (name_after after)
directive_with size after (Some word.DefaultNetType) = net_type_or_broken size (word_after after)
directive_with size after (Some word.Else) = directive_of_parts size directive.Else
directive_with size after (Some word.EndIf) = directive_of_parts size directive.EndIf
directive_with size after (Some word.ResetAll) = directive_of_parts size directive.ResetAll
directive_with size after (Some w) = named_or_broken size w (name_after after)

-- the directive behind a backquote
unfoldable pub directive_at : List ℕ → Piece
directive_at after =
    directive_with (1 + run class.Name after) (drop (run class.Name after) after) (directive_of (take (run class.Name after) after))

-- The directives of conditionals are seen in a part that isn't taken, too.
abbrev pub is_conditional : Option DirectiveWord → Bool
is_conditional (Some word.IfDef) = true
is_conditional (Some word.IfNDef) = true
is_conditional (Some word.ElsIf) = true
is_conditional (Some word.Else) = true
is_conditional (Some word.EndIf) = true
is_conditional _ = false
