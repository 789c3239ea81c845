-- The reserved words of Python and how they are spelled (the language reference, 2.3.1).
use Rattle.std.specs.Prelude.{ℕ, List, [], ◌∷◌, Option, find, codes}
use Rattle.std.specs.Str.{bytes_eq}
use Rattle.py_syntax.specs.declared.keyword.Keyword.{Keyword}
use Rattle.py_syntax.specs.declared.keyword.Keyword.TheVariants as keyword

abbrev pub keyword_bytes : Keyword → List ℕ
keyword_bytes keyword.False = codes "False"
keyword_bytes keyword.None = codes "None"
keyword_bytes keyword.True = codes "True"
keyword_bytes keyword.And = codes "and"
keyword_bytes keyword.As = codes "as"
keyword_bytes keyword.Assert = codes "assert"
keyword_bytes keyword.Async = codes "async"
keyword_bytes keyword.Await = codes "await"
keyword_bytes keyword.Break = codes "break"
keyword_bytes keyword.Class = codes "class"
keyword_bytes keyword.Continue = codes "continue"
keyword_bytes keyword.Def = codes "def"
keyword_bytes keyword.Del = codes "del"
keyword_bytes keyword.Elif = codes "elif"
keyword_bytes keyword.Else = codes "else"
keyword_bytes keyword.Except = codes "except"
keyword_bytes keyword.Finally = codes "finally"
keyword_bytes keyword.For = codes "for"
keyword_bytes keyword.From = codes "from"
keyword_bytes keyword.Global = codes "global"
keyword_bytes keyword.If = codes "if"
keyword_bytes keyword.Import = codes "import"
keyword_bytes keyword.In = codes "in"
keyword_bytes keyword.Is = codes "is"
keyword_bytes keyword.Lambda = codes "lambda"
keyword_bytes keyword.Nonlocal = codes "nonlocal"
keyword_bytes keyword.Not = codes "not"
keyword_bytes keyword.Or = codes "or"
keyword_bytes keyword.Pass = codes "pass"
keyword_bytes keyword.Raise = codes "raise"
keyword_bytes keyword.Return = codes "return"
keyword_bytes keyword.Try = codes "try"
keyword_bytes keyword.While = codes "while"
keyword_bytes keyword.With = codes "with"
keyword_bytes keyword.Yield = codes "yield"

abbrev pub keywords : List Keyword
keywords = keyword.False ∷ keyword.None ∷ keyword.True ∷ keyword.And ∷ keyword.As ∷ keyword.Assert ∷ keyword.Async ∷ keyword.Await ∷ keyword.Break ∷ keyword.Class ∷ keyword.Continue ∷ keyword.Def ∷ keyword.Del ∷ keyword.Elif ∷ keyword.Else ∷ keyword.Except ∷ keyword.Finally ∷ keyword.For ∷ keyword.From ∷ keyword.Global ∷ keyword.If ∷ keyword.Import ∷ keyword.In ∷ keyword.Is ∷ keyword.Lambda ∷ keyword.Nonlocal ∷ keyword.Not ∷ keyword.Or ∷ keyword.Pass ∷ keyword.Raise ∷ keyword.Return ∷ keyword.Try ∷ keyword.While ∷ keyword.With ∷ keyword.Yield ∷ []

-- the reserved word of this spelling
unfoldable pub keyword_of : List ℕ → Option Keyword
keyword_of word = find (λ k. bytes_eq (keyword_bytes k) word) keywords
