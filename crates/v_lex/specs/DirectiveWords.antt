-- The words of directives (IEEE 1364-2005, clause 19).
use Rattle.std.specs.Prelude.{ℕ, List, [], ◌∷◌, Option}
use Rattle.std.specs.List.{find}
use Rattle.std.specs.Str.{bytes_eq}
use lib.Chars.{codes}
use Rattle.v_lex.specs.declared.directive.DirectiveWord.{DirectiveWord}
use Rattle.v_lex.specs.declared.directive.DirectiveWord.TheVariants.{DefaultNetType, Define, Else, ElsIf, EndIf, IfDef, IfNDef, ResetAll}
use Rattle.v_lex.specs.declared.directive.DirectiveWord.TheVariants.{TimeScale, Undef}

abbrev pub directive_spelling : DirectiveWord → List ℕ
directive_spelling DefaultNetType = codes "default_nettype"
directive_spelling Define = codes "define"
directive_spelling Else = codes "else"
directive_spelling ElsIf = codes "elsif"
directive_spelling EndIf = codes "endif"
directive_spelling IfDef = codes "ifdef"
directive_spelling IfNDef = codes "ifndef"
directive_spelling ResetAll = codes "resetall"
directive_spelling TimeScale = codes "timescale"
directive_spelling Undef = codes "undef"

abbrev pub directive_words : List DirectiveWord
directive_words = DefaultNetType ∷ Define ∷ Else ∷ ElsIf ∷ EndIf ∷ IfDef ∷ IfNDef ∷ ResetAll ∷ TimeScale ∷ Undef ∷ []

-- the directive whose word it is
unfoldable pub directive_of : List ℕ → Option DirectiveWord
directive_of word = find (λ d. bytes_eq word (directive_spelling d)) directive_words
