-- Which tokens a constant and a list of constants spell (the language reference, 6.2.2 and 6.2.5).
use Rattle.std.specs.Prelude.{◌≡◌, ◌⊎◌, ℕ, ◌<◌, ◌^◌, neg_ℤ, pos, List, [], ◌∷◌}
use Rattle.py_syntax.specs.ExpressionSpells.{IsConstant}
use Rattle.py_syntax.specs.declared.constant.Const.{Const}
use Rattle.py_syntax.specs.declared.constant.Const.TheVariants as constant
use Rattle.py_syntax.specs.declared.operator.Operator.TheVariants as operator
use Rattle.py_syntax.specs.declared.operator.Bracket.TheVariants as bracket
use Rattle.py_syntax.specs.declared.token.Token.{Token}
use Rattle.py_syntax.specs.declared.token.Token.TheVariants as token

-- a number, a text, `True`, `False` or `None`; a number behind `-`; or a name, which stands for a constant
abbrev pub SpellsConstant : Const → List Token → List Token → Type 0
SpellsConstant c here rest =
    ((t : Token) × IsConstant c t × (here ≡ t ∷ rest))
    ⊎ ((n : ℕ) × (c ≡ constant.Whole (neg_ℤ (pos n))) × (n < 2 ^ 127) × (here ≡ token.Operator operator.Minus ∷ token.Number n ∷ rest))
    ⊎ ((n : List ℕ) × (c ≡ constant.Named n) × (here ≡ token.Name n ∷ rest))

-- `]`, before which a comma may stand
abbrev pub ClosesSquare : List Token → List Token → Type 0
ClosesSquare here rest =
    (here ≡ token.Close bracket.Square ∷ rest) ⊎ (here ≡ token.Operator operator.Comma ∷ token.Close bracket.Square ∷ rest)

-- the constants behind another
abbrev pub SpellsOtherConstants : List Const → List Token → List Token → Type 0
SpellsOtherConstants [] here rest = ClosesSquare here rest
SpellsOtherConstants (c ∷ cs) here rest =
    (us : List Token) × (vs : List Token)
    × (here ≡ token.Operator operator.Comma ∷ us) × SpellsConstant c us vs × SpellsOtherConstants cs vs rest

-- constants behind `[`, up to `]`
abbrev pub SpellsConstants : List Const → List Token → List Token → Type 0
SpellsConstants [] here rest = here ≡ token.Close bracket.Square ∷ rest
SpellsConstants (c ∷ cs) here rest = (us : List Token) × SpellsConstant c here us × SpellsOtherConstants cs us rest
