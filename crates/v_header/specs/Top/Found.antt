-- A means of proof: the modules that the code refers to, as trees, for the proofs of elaboration.
use Rattle.std.specs.Prelude.{Option, map, option_map}
use Rattle.std.specs.Borrow.{Bor}
use Rattle.v_syntax.specs.declared.source.Module.{Module}
use Rattle.v_syntax.specs.SourceTrees.{ModuleTree, view_module}
use Rattle.v_flat.specs.Design.{Modules}
use Rattle.v_header.specs.declared.top.modules.Modules as code

-- the module that the code refers to, where it refers to one
abbrev pub module_in : Option (Bor Module) → Option ModuleTree
module_in r = option_map (λ (x : Bor Module). view_module x.now) r

-- all of them, in the order of the text, with their units
abbrev pub modules_of : code.Modules → Modules
modules_of s = record { list = map view_module s.list.now; units = s.units.now; step_fs = s.step_fs }
