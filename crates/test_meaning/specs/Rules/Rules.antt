-- The rules of a tests file, each by the lines that break it; and the first line that breaks one (the language reference, 4.2, 7 and 8;
-- cocotb 1.8).
use Rattle.std.specs.Prelude.{ℕ, suc, ◌==◌, nat_lt, not, Bool, true, false, ◌&&◌, ◌||◌, List, [], ◌∷◌, ◌++◌, length, map, sum_by, Option, Some, None, is_some, codes, if◌then◌else◌}
use Rattle.std.specs.List.{list_any, list_all, flat_map, filter, find, join_with_byte, last_or, position_or_len}
use Rattle.std.specs.Option.{option_map_or, option_or}
use Rattle.std.specs.Str.{bytes_eq}
use Rattle.py_syntax.specs.BlockTrees.{ModuleItem, LineAt, FunctionAt}
use Rattle.py_syntax.specs.Line.{physical_line}
use Rattle.py_syntax.specs.ModuleForms.{has_default}
use Rattle.py_syntax.specs.ModuleTrees.{Import, FromImport, Test, AddOption, GenerateTests}
use Rattle.py_syntax.specs.Modules.{module_lines}
use Rattle.py_syntax.specs.Outline.{Content, Docstring, Placed}
use Rattle.py_syntax.specs.declared.constant.Const.{Const}
use Rattle.py_syntax.specs.declared.constant.Const.TheVariants as constant
use Rattle.py_syntax.specs.declared.module.Parameter.{Parameter}
use Rattle.py_syntax.specs.declared.module.Setting.{Setting}
use Rattle.test_meaning.specs.declared.rules.rule.FileRule.{FileRule}
use Rattle.test_meaning.specs.declared.rules.rule.FileRule.TheVariants as rule
use Rattle.test_meaning.specs.declared.rules.rule.Refusal.{Refusal}
use Rattle.test_meaning.specs.Rules.File.{File, Definition, Place, places, file_of, is_known, fixed_of, value_in, function, factory, made_by, choices, is_generated, is_made, is_test, further, names_of, next_function, is_function, is_decorator, starts_with_function, parameters_of}
use Rattle.test_meaning.specs.Rules.Names.{Name, is_among, come_twice}
use Rattle.test_meaning.specs.Factory.Product.{Choice, case_count, case_limit}
use Rattle.test_meaning.specs.Rules.Uses.{Use, Reads, Needs, Calls, Takes, Leaves, Makes, Extends, Around, FileLine, file_lines, expects_kind, is_kind, parameter_names}

-- ---- UnknownImport (7.11)

abbrev pub modules : List Name
modules = codes "cocotb" ∷ codes "random" ∷ []

-- a module, and what may be imported from it
pub record Exports : Type 0 where
  pub module_name : Name
  pub names : List Name

abbrev pub triggers : Exports
triggers = record {
  module_name = codes "cocotb.triggers";
  names = codes "Timer" ∷ codes "Edge" ∷ codes "RisingEdge" ∷ codes "FallingEdge" ∷ codes "ReadWrite"
      ∷ codes "ReadOnly" ∷ codes "NextTimeStep" ∷ codes "Event" ∷ codes "Lock" ∷ codes "Join" ∷ codes "First" ∷ codes "Combine" ∷ codes "ClockCycles"
      ∷ codes "TriggerException" ∷ codes "with_timeout" ∷ [];
}

abbrev pub handles : Exports
handles = record { module_name = codes "cocotb.handle"; names = codes "Force" ∷ codes "Freeze" ∷ codes "Release" ∷ [] }

abbrev pub queues : Exports
queues = record { module_name = codes "cocotb.queue"; names = codes "Queue" ∷ codes "QueueEmpty" ∷ codes "QueueFull" ∷ [] }

abbrev pub other_exports : List Exports
other_exports =
    record { module_name = codes "cocotb.clock"; names = codes "Clock" ∷ [] }
    ∷ record { module_name = codes "cocotb.regression"; names = codes "TestFactory" ∷ [] }
    ∷ record { module_name = codes "cocotb.result"; names = codes "SimTimeoutError" ∷ [] }
    ∷ record { module_name = codes "cocotb.utils"; names = codes "get_sim_time" ∷ [] } ∷ []

-- this module exports the name
abbrev pub has_export : Name → Name → Exports → Bool
has_export m n x = bytes_eq x.module_name m && is_among n x.names

abbrev pub is_exported : Name → Name → Bool
is_exported m n = list_any (has_export m n) (triggers ∷ handles ∷ queues ∷ other_exports)

abbrev pub is_unknown_import : ModuleItem → Bool
is_unknown_import (LineAt l (Import n)) = not (is_among n modules)
is_unknown_import (LineAt l (FromImport ms ns)) = not (list_all (is_exported (join_with_byte 46 ms)) ns)
is_unknown_import _ = false

-- ---- UnknownName (4.2.2)

abbrev pub name_in : Use → Option Name
name_in (Reads n) = Some n
name_in (Needs n) = Some n
name_in (Calls n xs) = Some n
name_in (Takes (constant.Named n)) = Some n
name_in (Makes n) = Some n
name_in (Extends n) = Some n
name_in _ = None

abbrev pub is_nowhere : File → List Name → Option Name → Bool
is_nowhere f locals None = false
is_nowhere f locals (Some n) = not (is_among n locals || is_known f n)

-- a use of a name that is defined nowhere
abbrev pub is_unknown : File → Around → Use → Bool
is_unknown f a u = is_nowhere f a.locals (name_in u)

-- ---- Misplaced

-- the number of the first parameter of this name, or how many there are
abbrev pub index_of : Name → List Parameter → ℕ
index_of n [] = 0
index_of n (p ∷ ps) = if bytes_eq p.name n then 0 else suc (index_of n ps)

-- the parameter of the argument with this number
abbrev pub place_of : List Parameter → ℕ → Option Name → ℕ
place_of ps k None = k
place_of ps k (Some n) = index_of n ps

-- the parameters of arguments that are given so, from this one on
abbrev pub parameter_places : List Parameter → ℕ → List (Option Name) → List ℕ
parameter_places ps k [] = []
parameter_places ps k (x ∷ xs) = place_of ps k x ∷ parameter_places ps (suc k) xs

abbrev pub is_in : ℕ → List ℕ → Bool
is_in k ks = list_any (λ j. j == k) ks

abbrev pub differ : List ℕ → Bool
differ [] = true
differ (k ∷ ks) = not (is_in k ks) && differ ks

-- each of the parameters from this one on is given or has a default
abbrev pub are_given : List ℕ → ℕ → List Parameter → Bool
are_given ks i [] = true
are_given ks i (p ∷ ps) = (is_in i ks || has_default p.default) && are_given ks (suc i) ps

abbrev pub fits : List Parameter → List ℕ → Bool
fits ps ks = list_all (λ k. nat_lt k (length ps)) ks && differ ks && are_given ks 0 ps

abbrev pub takes : List (Option Name) → Option Definition → Bool
takes xs None = false
takes xs (Some d) = fits d.parameters (parameter_places d.parameters 0 xs)

-- a use that is out of place on a line of a function with these names, or of the module
abbrev pub astray : File → Around → Use → Bool
astray f a (Reads n) = is_known f n && not (is_among n a.locals || is_some (fixed_of f.constants n))
astray f a (Calls n xs) = not (takes xs (function f n))
astray f a (Takes (constant.Named n)) = not (is_some (fixed_of a.above.constants n))
astray f a Leaves = true
astray f a (Makes n) = not (is_some (function a.above n))
astray f a (Extends n) = not (is_some (factory a.above n))
astray f a _ = false

-- a decorator that stands directly before no function
abbrev pub is_stray : Place → Bool
is_stray p = is_decorator p.item && not (starts_with_function p.below)

abbrev pub have_defaults : List Parameter → Bool
have_defaults ps = list_all (λ p. has_default p.default) ps

abbrev pub is_empty : {A : Type 0} → List A → Bool
is_empty [] = true
is_empty (x ∷ xs) = false

-- A decorated or a factory's function lacks a first parameter, or a test outside of factories the default of a further one.
abbrev pub lacks_parameters : Bool → Bool → List Parameter → Bool
lacks_parameters decorated made ps = ((decorated || made) && is_empty ps) || ((decorated && not made) && not (have_defaults (further ps)))

abbrev pub is_misfit : File → Definition → Bool
is_misfit f d = lacks_parameters (is_some d.options) (is_made f d) d.parameters

abbrev pub is_misfit_at : File → Option Definition → Bool
is_misfit_at f None = false
is_misfit_at f (Some d) = is_misfit f d

-- a function's own line, where the function is a misfit
abbrev pub has_misfit : File → Place → Bool
has_misfit f p = is_function p.item && is_misfit_at f (next_function f (file_of p.above))

-- ---- DuplicateName

-- a name that the items above define, or the item itself before; or two parameters of one name
abbrev pub defines_twice : Place → Bool
defines_twice p = come_twice (flat_map names_of p.above) (names_of p.item) || come_twice [] (parameter_names (parameters_of p.item))

-- ---- BadOption

abbrev pub is_truth : Const → Bool
is_truth (constant.Truth b) = true
is_truth _ = false

abbrev pub is_whole : Const → Bool
is_whole (constant.Whole z) = true
is_whole _ = false

abbrev pub is_text : Const → Bool
is_text (constant.Text t) = true
is_text _ = false

-- an option of the decorator, and which values it takes
pub record Kinded : Type 0 where
  pub name : Name
  pub is_right : Const → Bool

abbrev pub decorator_options : List Kinded
decorator_options =
    record { name = codes "timeout_time"; is_right = is_whole } ∷ record { name = codes "timeout_unit"; is_right = is_text }
    ∷ record { name = codes "expect_fail"; is_right = is_truth } ∷ record { name = codes "expect_error"; is_right = is_kind }
    ∷ record { name = codes "skip"; is_right = is_truth } ∷ []

-- the value of an option: a fault kind stays a name
abbrev pub chosen_value : File → Setting → Const
chosen_value f s = if expects_kind s then s.value else value_in f.constants s.value

-- an option of the decorator that takes such a value
abbrev pub is_right_value : Name → Const → Bool
is_right_value n c = list_any (λ o. bytes_eq o.name n && o.is_right c) decorator_options

abbrev pub is_right_setting : File → Setting → Bool
is_right_setting f s = is_right_value s.name (chosen_value f s)

abbrev pub setting_names : List Setting → List Name
setting_names ss = map (λ s. s.name) ss

abbrev pub are_right_settings : File → List Setting → Bool
are_right_settings f ss =
    list_all (is_right_setting f) ss && not (come_twice [] (setting_names ss))
    && (is_among (codes "timeout_time") (setting_names ss) || not (is_among (codes "timeout_unit") (setting_names ss)))

-- A line of a factory that isn't above it is Misplaced, which counts before.
abbrev pub is_open_option : File → File → Name → Name → Option Definition → Bool
is_open_option f above n o None = true
is_open_option f above n o (Some d) =
    is_among o (parameter_names (further d.parameters)) && not (is_among o (map (λ c. c.name) (choices f above n))) && not (is_generated above n)

abbrev pub has_value : List Choice → Parameter → Bool
has_value cs p = has_default p.default || is_among p.name (map (λ c. c.name) cs)

abbrev pub is_complete : File → File → Name → Option Definition → Bool
is_complete f above n None = true
is_complete f above n (Some d) = list_all (has_value (choices f above n)) (further d.parameters) && not (is_generated above n)

abbrev pub has_right_options : File → File → ModuleItem → Bool
has_right_options f above (LineAt l (Test ss)) = are_right_settings f ss
has_right_options f above (LineAt l (AddOption n o cs)) = is_open_option f above n o (made_by above n)
has_right_options f above (LineAt l (GenerateTests n p q)) = is_complete f above n (made_by above n)
has_right_options f above _ = true

-- ---- TooManyCases

-- a function is a test or it isn't
abbrev pub one_test : File → Option Definition → ℕ
one_test f None = 0
one_test f (Some d) = if is_test f d then 1 else 0

-- how many tests stand at an item below those
abbrev pub tests_at : File → File → ModuleItem → ℕ
tests_at f above (FunctionAt l g ps b) = one_test f (next_function f above)
tests_at f above (LineAt l (GenerateTests n p q)) = case_count (choices f above n)
tests_at f above _ = 0

-- how many stand at these items
abbrev pub tests_among : File → List Place → ℕ
tests_among f ps = sum_by (λ p. tests_at f (file_of p.above) p.item) ps

-- how many tests a file may have
abbrev pub test_limit : ℕ
test_limit = case_limit

-- with the tests at this item there are too many
abbrev pub is_overfull : File → Place → Bool
is_overfull f p = nat_lt test_limit (tests_among f (places (p.above ++ p.item ∷ [])))

-- ---- NoTests

abbrev pub is_generation : ModuleItem → Bool
is_generation (LineAt l (GenerateTests n p q)) = true
is_generation _ = false

abbrev pub has_tests : File → Bool
has_tests f = list_any (is_test f) f.functions || list_any is_generation f.items

abbrev pub is_code : Content → Bool
is_code Docstring = false
is_code _ = true

-- the line of the last that is no docstring, or line 1 where there is none
abbrev pub last_line : List Placed → ℕ
last_line ps = option_map_or (λ p. p.number) (last_or None (filter (λ p. is_code p.content) ps)) 1

-- ---- the rules

abbrev pub if_placed : (Place → Bool) → Option Place → Bool
if_placed breaks o = option_map_or breaks o false

-- The rules, each by the lines that break it. `NoTests` is broken by no line, but by a file (`no_tests`).
abbrev pub breaks : FileRule → File → FileLine → Bool
breaks rule.UnknownImport f l = if_placed (λ p. is_unknown_import p.item) l.place
breaks rule.UnknownName f l = list_any (is_unknown f l.around) l.uses
breaks rule.Misplaced f l = list_any (astray f l.around) l.uses || if_placed (λ p. is_stray p || has_misfit f p) l.place
breaks rule.DuplicateName f l = if_placed defines_twice l.place
breaks rule.BadOption f l = if_placed (λ p. not (has_right_options f (file_of p.above) p.item)) l.place
breaks rule.TooManyCases f l = if_placed (is_overfull f) l.place
breaks rule.NoTests f l = false

-- in the order in which they count on one line
abbrev pub rules : List FileRule
rules = rule.UnknownImport ∷ rule.UnknownName ∷ rule.Misplaced ∷ rule.DuplicateName ∷ rule.BadOption ∷ rule.TooManyCases ∷ rule.NoTests ∷ []

abbrev pub is_rule : FileRule → FileRule → Bool
is_rule rule.UnknownImport rule.UnknownImport = true
is_rule rule.UnknownName rule.UnknownName = true
is_rule rule.Misplaced rule.Misplaced = true
is_rule rule.DuplicateName rule.DuplicateName = true
is_rule rule.BadOption rule.BadOption = true
is_rule rule.TooManyCases rule.TooManyCases = true
is_rule rule.NoTests rule.NoTests = true
is_rule r s = false

-- a rule's place in that order, from 0
abbrev pub order : FileRule → ℕ
order r = position_or_len (is_rule r) rules

abbrev pub refused_at : ℕ → Option FileRule → Option Refusal
refused_at l None = None
refused_at l (Some r) = Some (record { rule = r; line = physical_line l })

-- the first rule that a line breaks
abbrev pub broken_at : File → FileLine → Option Refusal
broken_at f l = refused_at l.number (find (λ r. breaks r f l) rules)

-- the first line that breaks a rule
abbrev pub first_broken : File → List FileLine → Option Refusal
first_broken f [] = None
first_broken f (l ∷ ls) = option_or (broken_at f l) (first_broken f ls)

-- a file without a test, at its last line
abbrev pub no_tests : File → Option Refusal
no_tests f = if has_tests f then None else refused_at (last_line (module_lines f.items)) (Some rule.NoTests)

-- the first line that breaks a rule, and the rule; where no line breaks one, a file without a test is refused at its last line
abbrev pub refusal : File → Option Refusal
refusal f = option_or (first_broken f (file_lines f)) (no_tests f)
