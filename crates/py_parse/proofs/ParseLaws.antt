-- From lines in their places to modules.
use Rattle.std.proofs.Common.{◌≡◌, ℕ, List, sym, subst, ap, ◌∙◌}
use Rattle.py_syntax.specs.Line.{Line}
use Rattle.py_syntax.specs.Places.{first_place}
use Rattle.py_syntax.specs.Logical.{lines_of}
use Rattle.py_syntax.specs.Spelled.{IsSpelled}
use Rattle.py_syntax.proofs.Once.{spelled_once}
use Rattle.py_syntax.specs.declared.piece.Piece.{Piece}
use Rattle.py_syntax.specs.BlockTrees.{ModuleItem}
use Rattle.py_syntax.specs.Outline.{Placed, SpellsOutline, AreWithinLimits, at_start}
use Rattle.py_syntax.specs.Modules.{module_lines, SpellsModule, IsWithinLimits}
use Rattle.py_parse.specs.Nesting.{module_of}
use Rattle.py_parse.proofs.Back.{module_back}
use Rattle.py_parse.proofs.OutlineLaws.{one_outline}

pub is_spelled : (ps : List Placed) (m : List ModuleItem) (ls : List Line) → SpellsOutline at_start ps ls × AreWithinLimits ps
    → ((text : List Line) → SpellsOutline at_start ps text → SpellsModule m text × (module_lines m ≡ ps)) → SpellsModule m ls × IsWithinLimits m
is_spelled ps m ls (s, w) f = let k = f ls s in (k.0, rw k.1 w)

pub one_module_law : (m n : List ModuleItem) (text : List Line) → SpellsModule m text → SpellsModule n text → m ≡ n
one_module_law m n text (i, s) (j, t) = sym (module_back m i) ∙ ap module_of (one_outline at_start text (module_lines m) (module_lines n) s t) ∙ module_back n j

pub one_module_of_bytes : (bytes : List ℕ) (pieces others : List Piece) (m n : List ModuleItem) → IsSpelled first_place pieces bytes → IsSpelled first_place others bytes
    → SpellsModule m (lines_of pieces) → SpellsModule n (lines_of others) → m ≡ n
one_module_of_bytes bytes pieces others m n s t v w =
    one_module_law m n (lines_of pieces) v (subst (λ (ps : List Piece). SpellsModule n (lines_of ps)) (sym (spelled_once first_place bytes pieces others s t)) w)
