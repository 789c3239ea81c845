-- A means of proof: the open blocks, the innermost first.
use Rattle.std.specs.Prelude.{ℕ, Bool, true, false, nat_lt, List, [], ◌∷◌, Option, Some, None}
use Rattle.py_syntax.specs.declared.keyword.Keyword.{Keyword}
use Rattle.py_syntax.specs.declared.keyword.Keyword.TheVariants as keyword
use Rattle.py_syntax.specs.declared.outline.OpenBlock.{OpenBlock}

abbrev pub innermost : List OpenBlock → Option OpenBlock
innermost [] = None
innermost (b ∷ bs) = Some b

abbrev pub outer : List OpenBlock → List OpenBlock
outer [] = []
outer (b ∷ bs) = bs

-- the innermost is indented deeper
abbrev pub is_deeper : ℕ → List OpenBlock → Bool
is_deeper n [] = false
is_deeper n (b ∷ bs) = nat_lt n b.indentation

abbrev pub is_try : Option Keyword → Bool
is_try (Some keyword.Try) = true
is_try _ = false
