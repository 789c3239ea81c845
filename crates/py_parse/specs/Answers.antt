-- A means of proof: what a caller of the parser is told, for the proofs of Python's parser.
use Rattle.std.specs.Prelude.{◌≡◌, List, Result, Ok, Err}
use Rattle.py_syntax.specs.BlockTrees.{ModuleItem, view_module}
use Rattle.py_syntax.specs.declared.tree.Module.{Module}
use Rattle.py_parse.specs.declared.fault.PyFault.{PyFault}
use Rattle.py_parse.specs.declared.fault.PyFault.TheVariants as fault

-- this module, unless memory ran out
abbrev pub IsRead : List ModuleItem → Result Module PyFault → Type 0
IsRead m (Ok x) = view_module x ≡ m
IsRead m (Err f) = f ≡ fault.OutOfMemory
