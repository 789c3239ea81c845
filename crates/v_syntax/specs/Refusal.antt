-- Which texts are accepted, and which token of a refused one is told.
use Rattle.std.specs.Prelude.{◌≡◌, ℕ, ◌+◌, ◌<◌, List, [], length, drop, ◌⊎◌}
use Rattle.v_syntax.specs.declared.token.Token.{Token}
use Rattle.v_syntax.specs.SourceTrees.{ModuleTree}
use Rattle.v_syntax.specs.Sources.{source}

-- the greatest height of an expression, a target or a statement
abbrev pub height_limit : ℕ
height_limit = 64

-- These modules spell all tokens, within the height.
abbrev pub IsSource : ℕ → List Token → List ModuleTree → Type 0
IsSource limit text modules = (source (length text) limit).whole modules text []

-- Some partial tree within the height spells the tokens through token number p. The end of the text counts as a token,
-- which only a whole tree spells.
abbrev pub Reaches : ℕ → List Token → ℕ → Type 0
Reaches limit text p =
    ((p < length text) × (source (length text) limit).front text (drop (p + 1) text))
    ⊎ ((p ≡ length text) × (modules : List ModuleTree) × IsSource limit text modules)

-- p is the least token through which no partial tree within the height spells the text.
abbrev pub IsRefused : List Token → ℕ → Type 0
IsRefused text p = ((k : ℕ) → k < p → Reaches height_limit text k) × (Reaches height_limit text p → ⊥)

-- No partial tree of any height goes through that token.
abbrev pub IsSyntaxAt : List Token → ℕ → Type 0
IsSyntaxAt text p = IsRefused text p × ((limit : ℕ) → Reaches limit text p → ⊥)

-- Some higher one does.
abbrev pub IsTooDeepAt : List Token → ℕ → Type 0
IsTooDeepAt text p = IsRefused text p × ((limit : ℕ) × Reaches limit text p)
