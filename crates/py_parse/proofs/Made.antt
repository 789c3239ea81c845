-- What a caller of the code sees.
use Rattle.std.proofs.Common.{◌≡◌, List, map, Result, Ok, Err, IfOk, sym, ap, ◌∙◌}
use Rattle.port_io.specs.declared.ports.NoMemory.{NoMemory}
use Rattle.py_syntax.specs.Line.{Line}
use Rattle.py_syntax.specs.BlockTrees.{ModuleItem, view_module}
use Rattle.py_syntax.specs.Outline.{Placed, view_placed, SpellsOutline, at_start}
use Rattle.py_syntax.specs.Modules.{AreItems, module_lines, SpellsModule}
use Rattle.py_syntax.specs.declared.outline.PlacedLine.{PlacedLine}
use Rattle.py_syntax.specs.declared.tree.Module.{Module}
use Rattle.py_parse.specs.Nesting.{module_of}
use Rattle.py_parse.proofs.Flat.{module_lines_are}
use Rattle.py_parse.proofs.Back.{module_back, are_items}
use Rattle.py_parse.proofs.Follow.{text_follows}

spells : (ps : List Placed) (text : List Line) → SpellsOutline at_start ps text → SpellsModule (module_of ps) text × (module_lines (module_of ps) ≡ ps)
spells ps text s = let e = module_lines_are ps (text_follows ps text s) in ((are_items ps, rw e s), e)

pub made_spells : (lines : List PlacedLine) (r : Result Module NoMemory) → IfOk r (λ m. view_module m ≡ module_of (map view_placed lines))
    → IfOk r (λ m. (text : List Line) → SpellsOutline at_start (map view_placed lines) text → SpellsModule (view_module m) text × (module_lines (view_module m) ≡ map view_placed lines))
made_spells lines (Ok m) e = λ text s. rw e (spells (map view_placed lines) text s)
made_spells lines (Err n) e = tt

pub made_only : (lines : List PlacedLine) (r : Result Module NoMemory) → IfOk r (λ m. view_module m ≡ module_of (map view_placed lines))
    → (m : List ModuleItem) → AreItems m → module_lines m ≡ map view_placed lines → IfOk r (λ x. view_module x ≡ m)
made_only lines (Ok x) e m i h = e ∙ sym (ap module_of h) ∙ module_back m i
made_only lines (Err n) e m i h = tt
