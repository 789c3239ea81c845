-- A means of proof: what is known of the items above a line, and what one item adds.
use Rattle.std.specs.Prelude.{◌≡◌, ◌≤◌, ℕ, suc, List, [], ◌∷◌, length, map, Option, Some, None, option_copied}
use Rattle.std.specs.Borrow.{Bor}
use Rattle.std.proofs.Common.{Vec, Global}
use Rattle.std.specs.List.{find, flat_map}
use Rattle.std.specs.Str.{bytes_eq}
use Rattle.std.specs.Option.{option_map, option_map_or}
use Rattle.py_syntax.specs.BlockTrees.{ModuleItem, LineAt, FunctionAt, view_module_item}
use Rattle.py_syntax.specs.ModuleTrees.{Test, AddOption, GenerateTests}
use Rattle.py_syntax.specs.declared.constant.Const.{Const}
use Rattle.py_syntax.specs.declared.module.Setting.{Setting}
use Rattle.test_meaning.specs.Body.BodyTrees.{Case}
use Rattle.test_file.specs.Cases.Tested.{IsTested}
use Rattle.test_file.specs.declared.cases.factories.TestedFunction.{TestedFunction}
use Rattle.test_meaning.specs.Factory.Product.{Choice, case_count, case_limit}
use Rattle.test_meaning.specs.Cases.{cases_at, made}
use Rattle.test_meaning.specs.Rules.File.{Definition, File, Place, choices, factory, file_of, made_by, value_in}
use Rattle.test_meaning.specs.Rules.Names.{Name}
use Rattle.test_file.specs.List.Tables as table
use Rattle.test_file.specs.List.Tables.{list_in}
use Rattle.test_file.specs.declared.list.above.Above.{Above}
use Rattle.test_file.specs.declared.list.options.AddedOption.{AddedOption}
use Rattle.test_file.specs.declared.list.table.Table.{Table}
use Rattle.test_file.specs.declared.list.whole.Whole.{Whole}

-- what the whole file defines
abbrev pub file_of_whole : Whole → File
file_of_whole w = file_of (map view_module_item w.values.now.items.now)

-- ---- one item

-- the options of a decorator
abbrev pub settings_at : ModuleItem → Option (List Setting)
settings_at (LineAt l (Test ss)) = Some ss
settings_at _ = None

-- the function of an item, which has this number, behind a decorator with these options
abbrev pub function_at : ℕ → Option (List Setting) → ModuleItem → Option Definition
function_at k before (FunctionAt l f ps b) = Some (record { number = k; line = l; name = f; parameters = ps; body = b; options = before })
function_at k before _ = None

-- the number of the next function, where this item's has that one
abbrev pub number_behind : ℕ → ModuleItem → ℕ
number_behind k (FunctionAt l f ps b) = suc k
number_behind k _ = k

-- an option that is added to a factory
pub record Extension : Type 0 where
  pub factory : Name
  pub option : Name
  pub values : List Const

abbrev pub extension_of : ModuleItem → Option Extension
extension_of (LineAt l (AddOption n o cs)) = Some (record { factory = n; option = o; values = cs })
extension_of _ = None

-- a factory whose tests are generated
pub record Generation : Type 0 where
  pub factory : Name
  pub prefix : Option Name
  pub postfix : Option Name

abbrev pub generation_of : ModuleItem → Option Generation
generation_of (LineAt l (GenerateTests n p q)) = Some (record { factory = n; prefix = p; postfix = q })
generation_of _ = None

abbrev pub tests_of : File → File → Generation → List Case
tests_of f above g = made f g.prefix g.postfix (choices f above g.factory) (made_by above g.factory)

-- the tests that an item generates below those
abbrev pub generated : File → File → ModuleItem → List Case
generated f above x = option_map_or (tests_of f above) (generation_of x) []

-- ---- some items

-- the options of a decorator that stands directly behind these items, or else of one that stands directly before them where there is none
abbrev pub settings_behind : Option (List Setting) → List ModuleItem → Option (List Setting)
settings_behind before [] = before
settings_behind before (x ∷ xs) = settings_behind (settings_at x) xs

-- the tests at these items
abbrev pub cases_among : File → List Place → List Case
cases_among f ps = flat_map (λ p. cases_at f (file_of p.above) p.item) ps

-- ---- what the code knows of them

-- the code's function is of this definition, or there is none
abbrev pub AreOne : Option Definition → Option TestedFunction → Type 0
AreOne None None = Unit {0}
AreOne (Some d) (Some t) = IsTested d t
AreOne _ _ = ⊥

-- an option with the values of constants put in
abbrev pub choice_in : File → AddedOption → Choice
choice_in f o = record { name = o.name.now; values = map (value_in f.constants) o.values.now }

-- the options of a factory
abbrev pub options_in : File → Table (Vec AddedOption Global) → Name → List Choice
options_in f t n = map (choice_in f) (list_in t n)

abbrev pub choices_in : File → Above → Name → List Choice
choices_in f a n = options_in f a.options n

-- the first function of each name
abbrev pub AreFunctions : List Definition → Table TestedFunction → Type 0
AreFunctions ds t = (n : Name) → AreOne (find (λ d. bytes_eq d.name n) ds) (table.value_in t n)

-- of each name the function that the first factory of that name is for
abbrev pub AreFactories : List ModuleItem → Table (Bor Name) → Type 0
AreFactories xs t = (n : Name) → option_map (λ m. m.function) (factory (file_of xs) n) ≡ option_copied (table.value_in t n)

-- the options of each factory
abbrev pub AreOptions : File → List ModuleItem → Table (Vec AddedOption Global) → Type 0
AreOptions f xs t = (n : Name) → choices f (file_of xs) n ≡ options_in f t n

-- It is known of these items: their functions, factories and options, how many functions there are, and the options of a decorator directly behind
-- them.
pub record IsAbove (f : File) (xs : List ModuleItem) (a : Above) : Type 0 where
  pub functions : AreFunctions (file_of xs).functions a.functions
  pub factories : AreFactories xs a.factories
  pub options : AreOptions f xs a.options
  pub count : a.count ≡ length (file_of xs).functions
  pub settings : option_copied a.settings ≡ settings_behind None xs

-- the tests that an item generates are few enough
abbrev pub AreFew : File → Above → ModuleItem → Type 0
AreFew f a x = (g : Generation) → generation_of x ≡ Some g → case_count (choices_in f a g.factory) ≤ case_limit
