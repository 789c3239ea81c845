-- A means of proof: where names are defined, for the proofs of the check of a tests file.
use Rattle.std.specs.Prelude.{Bool, false, Option, Some, None}
use Rattle.std.specs.Option.{option_map_or}
use Rattle.std.specs.Str.{bytes_eq}
use Rattle.py_syntax.specs.BlockTrees.{ModuleItem, LineAt, FunctionAt}
use Rattle.py_syntax.specs.ModuleTrees as line
use Rattle.py_syntax.specs.ModuleTrees.{ModuleLine}
use Rattle.test_meaning.specs.Rules.File.{names_of}
use Rattle.test_meaning.specs.Rules.Names.{Name, is_among}
use Rattle.test_names.specs.declared.definitions.item.Kind.{Kind}
use Rattle.test_names.specs.declared.definitions.item.Kind.TheVariants as kind

-- the name that a line outside of functions defines as one of this kind
abbrev pub line_defined : Kind → ModuleLine → Option Name
line_defined kind.Constant (line.Constant n c) = Some n
line_defined kind.Factory (line.Factory n f) = Some n
line_defined k x = None

-- the name that an item defines as one of this kind
abbrev pub defined : Kind → ModuleItem → Option Name
defined k (LineAt l x) = line_defined k x
defined kind.Function (FunctionAt l f ps b) = Some f
defined k x = None

-- the item defines this name as one of this kind
abbrev pub is_defined : Kind → Name → ModuleItem → Bool
is_defined k n x = option_map_or (bytes_eq n) (defined k x) false

-- the item defines this name, as whatever
abbrev pub defines : Name → ModuleItem → Bool
defines n x = is_among n (names_of x)
