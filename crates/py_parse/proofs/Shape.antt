-- The shape of the lines of a text: each stands at most one block deeper than the one before it, and deeper only behind a header.
use Rattle.std.proofs.Common.{◌≡◌, ℕ, zero, suc, ◌<◌, ◌≤◌, Bool, true, false, List, [], ◌∷◌, ◌++◌}
use Rattle.py_syntax.specs.StatementTrees.{BodyLine, Simple, Heads}
use Rattle.py_syntax.specs.Modules.{is_function, block_lines, module_lines}
use Rattle.py_syntax.specs.Outline.{Content, Docstring, InModule, InBody, Placed}
use Rattle.py_parse.specs.Nesting.{PartialBlock, Nest}

abbrev pub heads_body : BodyLine → Bool
heads_body (Simple s) = false
heads_body (Heads h) = true

-- whether a line heads a block
abbrev pub heads : Content → Bool
heads Docstring = false
heads (InModule l) = is_function l
heads (InBody l) = heads_body l

-- what may stand in so many blocks
abbrev pub MayStand : ℕ → Content → Type 0
MayStand d Docstring = Unit {0}
MayStand zero (InModule l) = Unit {0}
MayStand (suc d) (InModule l) = ⊥
MayStand zero (InBody l) = ⊥
MayStand (suc d) (InBody l) = Unit {0}

-- Lines that may follow a line which stands in so many blocks, and heads a block or not.
unfoldable pub MayFollow : ℕ → Bool → List Placed → Type 0
MayFollow d is_head [] = Unit {0}
MayFollow d is_head (p ∷ ps) =
    (p.depth ≤ suc d) × (d < p.depth → is_head ≡ true) × MayStand p.depth p.content × MayFollow p.depth (heads p.content) ps

-- blocks that stand in fewer than so many blocks, each in fewer than the one before it
unfoldable pub AreBelow : ℕ → List PartialBlock → Type 0
AreBelow d [] = Unit {0}
AreBelow d (l ∷ ls) = (l.depth < d) × (1 ≤ l.depth) × AreBelow l.depth ls

-- the innermost block may stand behind such a line
abbrev pub IsUnder : ℕ → Bool → List PartialBlock → Type 0
IsUnder d is_head [] = Unit {0}
IsUnder d is_head (l ∷ ls) = d < l.depth → is_head ≡ true

-- the lines that were made to blocks, and to a module
unfoldable pub blocks_lines : List PartialBlock → List Placed
blocks_lines [] = []
blocks_lines (l ∷ ls) = block_lines l.depth l.block ++ blocks_lines ls

unfoldable pub nest_lines : Nest → List Placed
nest_lines nest = blocks_lines nest.blocks ++ module_lines nest.items
