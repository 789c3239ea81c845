-- What the items of a module define (the language reference, 4.2.1 and 7.11).
use Rattle.std.specs.Prelude.{ℕ, suc, not, Bool, true, false, ◌&&◌, List, [], ◌∷◌, ◌++◌, map, length, slice_get, Option, Some, None, is_some, codes, if◌then◌else◌}
use Rattle.std.specs.List.{list_any, filter, filter_map, flat_map, find}
use Rattle.std.specs.Str.{bytes_eq}
use Rattle.py_syntax.specs.BlockTrees.{ModuleItem, TextAt, LineAt, FunctionAt, Block}
use Rattle.py_syntax.specs.ModuleTrees.{Import, FromImport, Constant, Test, Factory, AddOption, GenerateTests}
use Rattle.py_syntax.specs.StatementTables.{fault_name, kinds}
use Rattle.py_syntax.specs.declared.constant.Const.{Const}
use Rattle.py_syntax.specs.declared.constant.Const.TheVariants as constant
use Rattle.py_syntax.specs.declared.fault_kind.FaultKind.{FaultKind}
use Rattle.py_syntax.specs.declared.fault_kind.FaultKind.TheVariants as kind
use Rattle.py_syntax.specs.declared.module.Parameter.{Parameter}
use Rattle.py_syntax.specs.declared.module.Setting.{Setting}
use Rattle.test_meaning.specs.Rules.Names.{Name, is_among}
use Rattle.test_meaning.specs.Factory.Product.{Choice}

abbrev pub line_of : ModuleItem → ℕ
line_of (TextAt l) = l
line_of (LineAt l x) = l
line_of (FunctionAt l f ps b) = l

-- the names that an item defines, an import's among them
abbrev pub names_of : ModuleItem → List Name
names_of (LineAt l (Import n)) = n ∷ []
names_of (LineAt l (FromImport ms ns)) = ns
names_of (LineAt l (Constant n c)) = n ∷ []
names_of (LineAt l (Factory n f)) = n ∷ []
names_of (FunctionAt l f ps b) = f ∷ []
names_of _ = []

-- ---- constants

-- a constant of the module: its name and its value
pub record Fixed : Type 0 where
  pub name : Name
  pub value : Const

-- the first of this name
abbrev pub fixed_of : List Fixed → Name → Option Fixed
fixed_of ks n = find (λ k. bytes_eq k.name n) ks

abbrev pub fixed_value : Const → Option Fixed → Const
fixed_value c None = c
fixed_value c (Some k) = k.value

-- what a constant stands for, where a name stands for one of these; another name stays
abbrev pub value_in : List Fixed → Const → Const
value_in ks (constant.Named n) = fixed_value (constant.Named n) (fixed_of ks n)
value_in ks c = c

-- these, and those of the items below them
abbrev pub constants_of : List Fixed → List ModuleItem → List Fixed
constants_of ks [] = ks
constants_of ks (LineAt l (Constant n c) ∷ xs) = constants_of (ks ++ record { name = n; value = value_in ks c } ∷ []) xs
constants_of ks (x ∷ xs) = constants_of ks xs

-- ---- functions

-- a function: its number and line, its name, parameters and block, and the options of the decorator that stands directly before it
pub record Definition : Type 0 where
  pub number : ℕ
  pub line : ℕ
  pub name : Name
  pub parameters : List Parameter
  pub body : Block
  pub options : Option (List Setting)

-- the functions by number, from this number on, where a decorator with these options stands before the first item
abbrev pub functions_of : ℕ → Option (List Setting) → List ModuleItem → List Definition
functions_of k before [] = []
functions_of k before (FunctionAt l f ps b ∷ xs) =
    record { number = k; line = l; name = f; parameters = ps; body = b; options = before } ∷ functions_of (suc k) None xs
functions_of k before (LineAt l (Test ss) ∷ xs) = functions_of k (Some ss) xs
functions_of k before (x ∷ xs) = functions_of k None xs

-- ---- factories

-- a factory: its name, and that of its function
pub record Maker : Type 0 where
  pub name : Name
  pub function : Name

abbrev pub factory_of : ModuleItem → Option Maker
factory_of (LineAt l (Factory n f)) = Some (record { name = n; function = f })
factory_of _ = None

-- an option that is added to the factory of this name
abbrev pub choice_of : List Fixed → Name → ModuleItem → Option Choice
choice_of ks n (LineAt l (AddOption m o cs)) = if bytes_eq m n then Some (record { name = o; values = map (value_in ks) cs }) else None
choice_of ks n _ = None

abbrev pub generates : Name → ModuleItem → Bool
generates n (LineAt l (GenerateTests m p q)) = bytes_eq m n
generates n _ = false

-- ---- the file

-- what some items define: those of a whole file, or those above some line
pub record File : Type 0 where
  pub items : List ModuleItem
  pub names : List Name
  pub constants : List Fixed
  pub functions : List Definition
  pub factories : List Maker

abbrev pub file_of : List ModuleItem → File
file_of xs = record {
  items = xs;
  names = flat_map names_of xs;
  constants = constants_of [] xs;
  functions = functions_of 0 None xs;
  factories = filter_map factory_of xs;
}

-- Kinds of faults that are known without an import.
abbrev pub is_always_known : FaultKind → Bool
is_always_known kind.SimTimeoutError = false
is_always_known kind.TriggerException = false
is_always_known kind.QueueEmpty = false
is_always_known kind.QueueFull = false
is_always_known _ = true

abbrev pub always_known : List Name
always_known = map fault_name (filter is_always_known kinds)

abbrev pub built_in : List Name
built_in = codes "int" ∷ codes "str" ∷ codes "bool" ∷ codes "len" ∷ codes "range" ∷ always_known

-- of the module, or built in
abbrev pub is_known : File → Name → Bool
is_known f n = is_among n (f.names ++ built_in)

-- the first function of this name
abbrev pub function : File → Name → Option Definition
function f n = find (λ d. bytes_eq d.name n) f.functions

-- the first factory of this name
abbrev pub factory : File → Name → Option Maker
factory f n = find (λ x. bytes_eq x.name n) f.factories

abbrev pub its_function : File → Option Maker → Option Definition
its_function f None = None
its_function f (Some x) = function f x.function

-- the function of the factory of this name
abbrev pub made_by : File → Name → Option Definition
made_by f n = its_function f (factory f n)

-- an item in its place: the items above it and those below it
pub record Place : Type 0 where
  pub item : ModuleItem
  pub above : List ModuleItem
  pub below : List ModuleItem

-- these items in their places, below those
abbrev pub places_below : List ModuleItem → List ModuleItem → List Place
places_below xs [] = []
places_below xs (y ∷ ys) = record { item = y; above = xs; below = ys } ∷ places_below (xs ++ y ∷ []) ys

abbrev pub places : List ModuleItem → List Place
places xs = places_below [] xs

-- the options that the factory of this name has above an item, and whether its tests are generated there
abbrev pub choices : File → File → Name → List Choice
choices f above n = filter_map (choice_of f.constants n) above.items

abbrev pub is_generated : File → Name → Bool
is_generated above n = list_any (generates n) above.items

-- a factory, which may stand anywhere, names a function of this name
abbrev pub is_made_name : File → Name → Bool
is_made_name f n = list_any (λ x. bytes_eq x.function n) f.factories

-- A factory names the function.
abbrev pub is_made : File → Definition → Bool
is_made f d = is_made_name f d.name

-- a test outside of factories
abbrev pub is_test : File → Definition → Bool
is_test f d = is_some d.options && not (is_made f d)

abbrev pub further : List Parameter → List Parameter
further [] = []
further (p ∷ ps) = ps

-- the function whose header stands behind these items
abbrev pub next_function : File → File → Option Definition
next_function f above = slice_get f.functions (length above.functions)

abbrev pub is_function : ModuleItem → Bool
is_function (FunctionAt l f ps b) = true
is_function _ = false

abbrev pub starts_with_function : List ModuleItem → Bool
starts_with_function [] = false
starts_with_function (x ∷ xs) = is_function x

abbrev pub is_decorator : ModuleItem → Bool
is_decorator (LineAt l (Test ss)) = true
is_decorator _ = false

abbrev pub parameters_of : ModuleItem → List Parameter
parameters_of (FunctionAt l f ps b) = ps
parameters_of _ = []
