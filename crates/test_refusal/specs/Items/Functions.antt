-- A means of proof: what is asked of the function whose header stands behind some items, for the proofs of the check of a tests file.
use Rattle.std.specs.Prelude.{Bool, false, List, [], None}
use Rattle.std.specs.List.{last_or}
use Rattle.std.specs.Option.{option_map_or}
use Rattle.std.specs.Str.{bytes_eq}
use Rattle.py_syntax.specs.BlockTrees.{ModuleItem, FunctionAt}
use Rattle.test_meaning.specs.Rules.File.{factory_of, is_decorator}
use Rattle.test_meaning.specs.Rules.Names.{Name}

-- What stands directly behind these items is decorated: the last of them is a decorator.
abbrev pub is_decorated_behind : List ModuleItem → Bool
is_decorated_behind xs = option_map_or is_decorator (last_or None xs) false

-- an item makes a factory for the function of this name
abbrev pub makes : Name → ModuleItem → Bool
makes n x = option_map_or (λ k. bytes_eq k.function n) (factory_of x) false

-- the name of a function; an empty one where there is none
abbrev pub function_name : ModuleItem → Name
function_name (FunctionAt l f ps b) = f
function_name _ = []
