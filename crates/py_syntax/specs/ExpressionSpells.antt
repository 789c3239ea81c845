-- Which tokens an expression spells (the language reference, 6). Both lists are what is left of a text: the tree stands at the front of the
-- first, and the second follows it.
use Rattle.std.specs.Prelude.{◌≡◌, ◌⊎◌, ℕ, ◌+◌, ◌<◌, ◌≤◌, ◌^◌, true, false, List, ◌∷◌, ◌++◌, Some, pos, negsuc}
use Rattle.py_syntax.specs.ExpressionTables.{level_of, prefix_level, left_level, operation_tokens, prefix_token, function_name, method_name, takes_argument, has_enough, name_at}
use Rattle.py_syntax.specs.ExpressionTrees.{Tree, Constant, FormatString, Name, Bracketed, Attribute, Subscript, Call, MethodCall, Unary, Infix, Trees, NoTree, Then, Parts, NoPart, TextThen, FormattedThen}
use Rattle.py_syntax.specs.declared.constant.Const.{Const}
use Rattle.py_syntax.specs.declared.constant.Const.TheVariants as constant
use Rattle.py_syntax.specs.declared.keyword.Keyword.TheVariants as keyword
use Rattle.py_syntax.specs.declared.operator.Operator.TheVariants as operator
use Rattle.py_syntax.specs.declared.operator.Bracket.TheVariants as bracket
use Rattle.py_syntax.specs.declared.token.Token.{Token}
use Rattle.py_syntax.specs.declared.token.Token.TheVariants as token
use Rattle.py_syntax.specs.declared.expression.Function.{Function}

-- How tightly a tree binds; a primary has the greatest level (6.17).
unfoldable pub level : Tree → ℕ
level (Unary op e) = prefix_level op
level (Infix op l r) = level_of op
level (Constant c) = 12
level (FormatString ps) = 12
level (Name n) = 12
level (Bracketed e) = 12
level (Attribute e n) = 12
level (Subscript e i) = 12
level (Call f es) = 12
level (MethodCall e m) = 12

-- the constant that a token is
abbrev pub IsConstant : Const → Token → Type 0
IsConstant constant.Absent t = t ≡ token.Keyword keyword.None
IsConstant (constant.Truth false) t = t ≡ token.Keyword keyword.False
IsConstant (constant.Truth true) t = t ≡ token.Keyword keyword.True
IsConstant (constant.Whole (pos n)) t = (t ≡ token.Number n) × (n < 2 ^ 127)
IsConstant (constant.Whole (negsuc n)) t = ⊥
IsConstant (constant.Text bytes) t = t ≡ token.Text bytes
IsConstant (constant.Named n) t = ⊥

-- `)`, before which a comma may stand
abbrev pub Closes : List Token → List Token → Type 0
Closes here rest =
    (here ≡ token.Close bracket.Round ∷ rest) ⊎ (here ≡ token.Operator operator.Comma ∷ token.Close bracket.Round ∷ rest)

-- an argument behind n others begins, by its place or by its name
abbrev pub Begins : Function → ℕ → List Token → List Token → Type 0
Begins f n here rest =
    (here ≡ rest) ⊎ ((name : List ℕ) × (name_at f n ≡ Some name) × (here ≡ token.Name name ∷ token.Operator operator.Assign ∷ rest))

unfoldable mutual
  pub Spells : Tree → List Token → List Token → Type 0
  Spells (Constant c) here rest = (t : Token) × IsConstant c t × (here ≡ t ∷ rest)
  Spells (FormatString ps) here rest = (us : List Token) × (here ≡ token.FormatStart ∷ us) × SpellParts ps us rest
  Spells (Name n) here rest = here ≡ token.Name n ∷ rest
  Spells (Bracketed e) here rest =
      (us : List Token) × (vs : List Token)
      × (here ≡ token.Open bracket.Round ∷ us) × Spells e us vs × (vs ≡ token.Close bracket.Round ∷ rest)
  Spells (Attribute e n) here rest =
      (us : List Token) × Spells e here us × (level e ≡ 12) × (us ≡ token.Operator operator.Dot ∷ token.Name n ∷ rest)
  Spells (Subscript e i) here rest =
      (us : List Token) × (vs : List Token) × (ws : List Token)
      × Spells e here us × (level e ≡ 12) × (us ≡ token.Open bracket.Square ∷ vs)
      × Spells i vs ws × (ws ≡ token.Close bracket.Square ∷ rest)
  Spells (Call f es) here rest =
      (us : List Token) × (here ≡ token.Name (function_name f) ∷ token.Open bracket.Round ∷ us) × SpellArguments f es us rest
  Spells (MethodCall e m) here rest =
      (us : List Token) × Spells e here us × (level e ≡ 12)
      × (us ≡ token.Operator operator.Dot ∷ token.Name (method_name m) ∷ token.Open bracket.Round ∷ token.Close bracket.Round ∷ rest)
  Spells (Unary op e) here rest =
      (us : List Token) × (here ≡ prefix_token op ∷ us) × Spells e us rest × (prefix_level op ≤ level e)
  Spells (Infix op l r) here rest =
      (us : List Token) × (vs : List Token)
      × Spells l here us × (left_level op ≤ level l) × (us ≡ operation_tokens op ++ vs)
      × Spells r vs rest × (level_of op < level r)

  -- the arguments of a call, behind its opening bracket
  pub SpellArguments : Function → Trees → List Token → List Token → Type 0
  SpellArguments f NoTree here rest = (has_enough f 0 ≡ true) × (here ≡ token.Close bracket.Round ∷ rest)
  SpellArguments f (Then e es) here rest =
      (us : List Token) × (vs : List Token)
      × (takes_argument f 0 ≡ true) × Begins f 0 here us × Spells e us vs × SpellOthers f 1 es vs rest

  -- the other arguments, behind the first n
  pub SpellOthers : Function → ℕ → Trees → List Token → List Token → Type 0
  SpellOthers f n NoTree here rest = (has_enough f n ≡ true) × Closes here rest
  SpellOthers f n (Then e es) here rest =
      (us : List Token) × (vs : List Token) × (ws : List Token)
      × (here ≡ token.Operator operator.Comma ∷ us)
      × (takes_argument f n ≡ true) × Begins f n us vs × Spells e vs ws × SpellOthers f (n + 1) es ws rest

  -- the parts of an f-string, up to its end (2.4.3)
  pub SpellParts : Parts → List Token → List Token → Type 0
  SpellParts NoPart here rest = here ≡ token.FormatEnd ∷ rest
  SpellParts (TextThen t ps) here rest = (us : List Token) × (here ≡ token.FormatText t ∷ us) × SpellParts ps us rest
  SpellParts (FormattedThen e ps) here rest =
      (us : List Token) × (vs : List Token) × (ws : List Token)
      × (here ≡ token.FormatOpen ∷ us) × Spells e us vs × (vs ≡ token.FormatClose ∷ ws) × SpellParts ps ws rest
