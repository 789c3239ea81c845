-- A means of proof: what a call gave, where the tokens are this line, for the proofs of Python's parser.
use Rattle.std.specs.Prelude.{◌≡◌, Result, Ok, Err}
use Rattle.py_syntax.specs.ModuleTrees as trees
use Rattle.py_syntax.specs.ModuleTrees.{view_module_line}
use Rattle.py_syntax.specs.declared.module.ModuleLine.{ModuleLine}
use Rattle.py_expression.specs.declared.phrase.fault.ReadError.{ReadError}
use Rattle.py_expression.specs.declared.phrase.fault.ReadError.TheVariants as errors

abbrev pub Line : Type 0
Line = trees.ModuleLine

-- it, unless memory ran out
abbrev pub IsFound : Line → Result ModuleLine ReadError → Type 0
IsFound line (Ok l) = view_module_line l ≡ line
IsFound line (Err f) = f ≡ errors.OutOfMemory
