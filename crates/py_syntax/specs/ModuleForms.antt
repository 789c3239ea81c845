-- Which tokens the lines of a module spell (the language reference, 7 and 8).
use Rattle.std.specs.Prelude.{ℕ, Bool, true, false, List, [], ◌∷◌, Option, Some, None, codes, if◌then◌else◌}
use Rattle.std.specs.Str.{bytes_eq}
use Rattle.py_syntax.specs.ConstantForms.{SpellsConstant}
use Rattle.py_syntax.specs.ModuleTrees.{ModuleLine, Import, FromImport, Constant, Test, Factory, AddOption, GenerateTests, Function}
use Rattle.py_syntax.specs.Phrases.{Phrase, exactly, word, name, text, both, ◌◃◌, ◌▹◌, becomes, either, makes, by_name, closes, nothing, elements, listed}
use Rattle.py_syntax.specs.declared.constant.Const.{Const}
use Rattle.py_syntax.specs.declared.constant.Const.TheVariants as constants
use Rattle.py_syntax.specs.declared.keyword.Keyword.TheVariants as keyword
use Rattle.py_syntax.specs.declared.operator.Operator.TheVariants as operator
use Rattle.py_syntax.specs.declared.operator.Bracket.TheVariants as bracket
use Rattle.py_syntax.specs.declared.module.Parameter.{Parameter}
use Rattle.py_syntax.specs.declared.module.Setting.{Setting}
use Rattle.py_syntax.specs.declared.token.Token.{Token}
use Rattle.py_syntax.specs.declared.token.Token.TheVariants as token

abbrev pub import_word : Token
import_word = token.Keyword keyword.Import

abbrev pub from_word : Token
from_word = token.Keyword keyword.From

abbrev pub assign : Token
assign = token.Operator operator.Assign

abbrev pub dot : Token
dot = token.Operator operator.Dot

abbrev pub comma : Token
comma = token.Operator operator.Comma

abbrev pub colon : Token
colon = token.Operator operator.Colon

abbrev pub opening : Token
opening = token.Open bracket.Round

abbrev pub closing : Token
closing = token.Close bracket.Round

-- `)`, before which a comma may stand
abbrev pub last : Phrase (Unit {0})
last x = closes closing

-- `import name` (7.11)
abbrev pub import_form : Phrase ModuleLine
import_form = both (λ x n. Import n) (exactly import_word) name

-- `package.module`
abbrev pub module_name : Phrase (List (List ℕ))
module_name = elements name dot nothing

-- `name, ..`, or the same in brackets, where a comma may follow the last
abbrev pub imported : Phrase (List (List ℕ))
imported = either (elements name comma nothing) (exactly opening ▹ elements name comma (closes closing))

-- `from package.module import name, ..` (7.11)
abbrev pub from_form : Phrase ModuleLine
from_form = both FromImport (exactly from_word ▹ module_name ◃ exactly import_word) imported

-- `name = constant` (7.2)
abbrev pub constant_form : Phrase ModuleLine
constant_form = both Constant (name ◃ exactly assign) SpellsConstant

-- `name=constant`
abbrev pub setting : Phrase Setting
setting = both (λ n c. record { name = n; value = c }) (name ◃ exactly assign) SpellsConstant

-- `@cocotb.test(name=constant, ..)` (8.7)
abbrev pub test_form : Phrase ModuleLine
test_form = both (λ x ss. Test ss) (exactly (token.Operator operator.At) ▹ word (codes "cocotb") ▹ exactly dot ▹ word (codes "test") ▹ exactly opening) (listed setting closing)

-- `name = TestFactory(function)`
abbrev pub factory_form : Phrase ModuleLine
factory_form = both Factory (name ◃ exactly assign ◃ word (codes "TestFactory") ◃ exactly opening) (by_name (codes "test_function") name ◃ last)

-- `[constant, ..]`
abbrev pub constants_form : Phrase (List Const)
constants_form = exactly (token.Open bracket.Square) ▹ listed SpellsConstant (token.Close bracket.Square)

-- `name="parameter", optionlist=[constant, ..]`, in either order
abbrev pub named_option : Phrase (List ℕ × List Const)
named_option =
    either (both (λ o cs. (o, cs)) (word (codes "name") ▹ exactly assign ▹ text ◃ exactly comma ◃ word (codes "optionlist") ◃ exactly assign) constants_form)
    (both (λ cs o. (o, cs)) (word (codes "optionlist") ▹ exactly assign ▹ constants_form ◃ exactly comma ◃ word (codes "name") ◃ exactly assign) text)

-- `"parameter", [constant, ..]`, the list perhaps by its name, or both by their names
abbrev pub option : Phrase (List ℕ × List Const)
option = either (both (λ o cs. (o, cs)) (text ◃ exactly comma) (by_name (codes "optionlist") constants_form)) named_option

-- `name.add_option("parameter", [constant, ..])`
abbrev pub add_option_form : Phrase ModuleLine
add_option_form = both (λ n x. AddOption n x.0 x.1) (name ◃ exactly dot ◃ word (codes "add_option") ◃ exactly opening) (option ◃ last)

abbrev pub is_called : List ℕ → Setting → Bool
is_called w s = bytes_eq s.name w

abbrev pub text_in : Const → Option (List ℕ)
text_in (constants.Text bytes) = Some bytes
text_in _ = None

-- a text that wasn't given before
abbrev pub first_text : Option (List ℕ) → Const → Option (List ℕ)
first_text None c = text_in c
first_text (Some bytes) c = None

abbrev pub given_prefix : Option (List ℕ) → Option (List ℕ) → Option (Option (List ℕ) × Option (List ℕ))
given_prefix None q = None
given_prefix (Some bytes) q = Some (Some bytes, q)

abbrev pub given_postfix : Option (List ℕ) → Option (List ℕ) → Option (Option (List ℕ) × Option (List ℕ))
given_postfix p None = None
given_postfix p (Some bytes) = Some (p, Some bytes)

-- the prefix and the postfix, with one setting more
abbrev pub with_affix : Option (List ℕ) → Option (List ℕ) → Setting → Option (Option (List ℕ) × Option (List ℕ))
with_affix p q s =
    if is_called (codes "prefix") s then given_prefix (first_text p s.value) q
    else (if is_called (codes "postfix") s then given_postfix p (first_text q s.value) else None)

abbrev pub onward : {A : Type 0} → (A → Option A) → Option A → Option A
onward more None = None
onward more (Some x) = more x

-- the prefix and the postfix that settings give beside these, where they give no other, each once, and as texts
abbrev pub affixes_with : List Setting → Option (List ℕ) → Option (List ℕ) → Option (Option (List ℕ) × Option (List ℕ))
affixes_with [] p q = Some (p, q)
affixes_with (s ∷ ss) p q = onward (λ x. affixes_with ss x.0 x.1) (with_affix p q s)

abbrev pub affixes : List Setting → Option (Option (List ℕ) × Option (List ℕ))
affixes ss = affixes_with ss None None

-- `name.generate_tests(prefix="..", postfix="..")`
abbrev pub generate_form : Phrase ModuleLine
generate_form = both (λ n x. GenerateTests n x.0 x.1) (name ◃ exactly dot ◃ word (codes "generate_tests") ◃ exactly opening) (makes affixes (listed setting closing))

abbrev pub required : List ℕ → Parameter
required n = record { name = n; default = None }

abbrev pub optional : List ℕ → Const → Parameter
optional n c = record { name = n; default = Some c }

-- `name` or `name=constant`
abbrev pub parameter : Phrase Parameter
parameter = either (becomes required name) (both optional (name ◃ exactly assign) SpellsConstant)

abbrev pub has_default : Option Const → Bool
has_default None = false
has_default (Some c) = true

-- whether no parameter without a default follows one with a default, where perhaps one with a default came before
abbrev pub defaults_last : Bool → List Parameter → Bool
defaults_last seen [] = true
defaults_last seen (p ∷ ps) = if has_default p.default then defaults_last true ps else (if seen then false else defaults_last false ps)

abbrev pub parameters : List Parameter → Option (List Parameter)
parameters ps = if defaults_last false ps then Some ps else None

-- `async def name(parameter, ..):` (8.9.1)
abbrev pub function_form : Phrase ModuleLine
function_form =
    both Function (exactly (token.Keyword keyword.Async) ▹ exactly (token.Keyword keyword.Def) ▹ name ◃ exactly opening)
    (makes parameters (listed parameter closing) ◃ exactly colon)

-- any of these
abbrev pub module_line : Phrase ModuleLine
module_line =
    either import_form (either from_form (either constant_form (either test_form (either factory_form
    (either add_option_form (either generate_form function_form))))))

-- the tokens of a whole line
unfoldable pub SpellsModuleLine : ModuleLine → List Token → Type 0
SpellsModuleLine l ts = module_line l ts []
