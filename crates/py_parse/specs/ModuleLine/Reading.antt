-- A means of proof: how the lines of a module are read, as functions on lists of tokens, for the proofs of Python's parser.
use Rattle.std.specs.Prelude.{ℕ, Bool, true, false, List, ◌∷◌, Option, Some, None, codes, if◌then◌else◌}
use Rattle.py_syntax.specs.ModuleForms.{affixes, parameters}
use Rattle.py_syntax.specs.ModuleTrees.{ModuleLine, Import, FromImport, Constant, Test, Factory, AddOption, GenerateTests, Function}
use Rattle.py_syntax.specs.declared.constant.Const.{Const}
use Rattle.py_syntax.specs.declared.keyword.Keyword.TheVariants as keyword
use Rattle.py_syntax.specs.declared.operator.Operator.TheVariants as operator
use Rattle.py_syntax.specs.declared.operator.Bracket.TheVariants as bracket
use Rattle.py_syntax.specs.declared.token.Token.{Token}
use Rattle.py_syntax.specs.declared.token.Token.TheVariants as token
use Rattle.py_expression.specs.declared.phrase.mark.Mark.{Mark}
use Rattle.py_expression.specs.declared.phrase.mark.Mark.TheVariants as marks
use Rattle.py_expression.specs.Phrase.Marks.{after, after_word, after_name, comma, assign}
use Rattle.py_expression.specs.Phrase.Readers.{Reader, bind, mark, word, name, text, both_of, ◌◃◌, ◌▹◌, makes_of, choose, whole, ending, elements_of, listed_of, constant, constants_in, setting, parameter}
use Rattle.py_parse.specs.declared.module_line.kind.Kind.{Kind}
use Rattle.py_parse.specs.declared.module_line.kind.Kind.TheVariants as kind

abbrev pub import_word : Mark
import_word = marks.Keyword keyword.Import

abbrev pub from_word : Mark
from_word = marks.Keyword keyword.From

abbrev pub async_word : Mark
async_word = marks.Keyword keyword.Async

abbrev pub def_word : Mark
def_word = marks.Keyword keyword.Def

abbrev pub at_sign : Mark
at_sign = marks.Operator operator.At

abbrev pub dot : Mark
dot = marks.Operator operator.Dot

abbrev pub colon : Mark
colon = marks.Operator operator.Colon

abbrev pub opening : Mark
opening = marks.Open bracket.Round

abbrev pub closing : Mark
closing = marks.Close bracket.Round

abbrev pub is_there : Option (List Token) → Bool
is_there None = false
is_there (Some ts) = true

abbrev pub starts : Mark → List Token → Bool
starts m ts = is_there (after m ts)

-- Which kind of line begins so. Another line has no form of any kind.

abbrev pub value_kind : Option (List Token) → Kind
value_kind None = kind.Constant
value_kind (Some ts) = if starts opening ts then kind.Factory else kind.Constant

abbrev pub method_kind : Option (List Token) → Kind
method_kind None = kind.GenerateTests
method_kind (Some ts) = kind.AddOption

abbrev pub dotted_kind : Option (List Token) → Kind
dotted_kind None = kind.Constant
dotted_kind (Some ts) = method_kind (after_word (codes "add_option") ts)

abbrev pub target_kind : List Token → Option (List Token) → Kind
target_kind ts None = dotted_kind (after dot ts)
target_kind ts (Some us) = value_kind (after_word (codes "TestFactory") us)

abbrev pub name_kind : Option (List ℕ × List Token) → Kind
name_kind None = kind.Constant
name_kind (Some x) = target_kind x.1 (after assign x.1)

unfoldable pub kind_at : List Token → Kind
kind_at ts =
    if starts import_word ts then kind.Import
    else (if starts from_word ts then kind.From
    else (if starts at_sign ts then kind.Test
    else (if starts async_word ts then kind.Function else name_kind (name ts))))

-- The forms.

-- `)`, before which a comma may stand
abbrev pub last : Reader (Unit {0})
last ts = bind (λ us. Some (tt, us)) (ending comma (Some closing) ts)

abbrev pub by_name_of : {A : Type 0} → List ℕ → Reader A → Reader A
by_name_of w r ts = r (after_name w ts)

abbrev pub import_of : Reader ModuleLine
import_of = both_of (λ x n. Import n) (mark import_word) name

abbrev pub module_name : Reader (List (List ℕ))
module_name = elements_of name dot None

unfoldable pub imported : Reader (List (List ℕ))
imported ts = choose (starts opening ts) ((mark opening ▹ elements_of name comma (Some closing)) ts) (elements_of name comma None ts)

abbrev pub from_of : Reader ModuleLine
from_of = both_of FromImport (mark from_word ▹ module_name ◃ mark import_word) imported

abbrev pub constant_of : Reader ModuleLine
constant_of = both_of Constant (name ◃ mark assign) constant

abbrev pub test_of : Reader ModuleLine
test_of = both_of (λ x ss. Test ss) (mark at_sign ▹ word (codes "cocotb") ▹ mark dot ▹ word (codes "test") ▹ mark opening) (listed_of setting closing)

-- `function` or `test_function=function`
unfoldable pub function_given : Reader (List ℕ)
function_given ts = by_name_of (codes "test_function") name ts

abbrev pub factory_of : Reader ModuleLine
factory_of = both_of Factory (name ◃ mark assign ◃ word (codes "TestFactory") ◃ mark opening) (function_given ◃ last)

abbrev pub bracketed_constants : Reader (List Const)
bracketed_constants = mark (marks.Open bracket.Square) ▹ constants_in

abbrev pub option_by_place : Reader (List ℕ × List Const)
option_by_place = both_of (λ o cs. (o, cs)) (text ◃ mark comma) (by_name_of (codes "optionlist") bracketed_constants)

abbrev pub option_name_first : Reader (List ℕ × List Const)
option_name_first =
    both_of (λ o cs. (o, cs)) (word (codes "name") ▹ mark assign ▹ text ◃ mark comma ◃ word (codes "optionlist") ◃ mark assign) bracketed_constants

abbrev pub option_list_first : Reader (List ℕ × List Const)
option_list_first =
    both_of (λ cs o. (o, cs)) (word (codes "optionlist") ▹ mark assign ▹ bracketed_constants ◃ mark comma ◃ word (codes "name") ◃ mark assign) text

unfoldable pub option_by_name : Reader (List ℕ × List Const)
option_by_name ts = choose (is_there (after_word (codes "optionlist") ts)) (option_list_first ts) (option_name_first ts)

abbrev pub begins_with_text : List Token → Bool
begins_with_text (token.Text bytes ∷ ts) = true
begins_with_text _ = false

unfoldable pub option : Reader (List ℕ × List Const)
option ts = choose (begins_with_text ts) (option_by_place ts) (option_by_name ts)

-- `name.method(`
abbrev pub call_of : List ℕ → Reader (List ℕ)
call_of w = name ◃ mark dot ◃ word w ◃ mark opening

abbrev pub add_option_of : Reader ModuleLine
add_option_of = both_of (λ n x. AddOption n x.0 x.1) (call_of (codes "add_option")) (option ◃ last)

abbrev pub generate_of : Reader ModuleLine
generate_of = both_of (λ n x. GenerateTests n x.0 x.1) (call_of (codes "generate_tests")) (makes_of affixes (listed_of setting closing))

abbrev pub function_of : Reader ModuleLine
function_of = both_of Function (mark async_word ▹ mark def_word ▹ name ◃ mark opening) (makes_of parameters (listed_of parameter closing) ◃ mark colon)

abbrev pub read_by : Kind → Reader ModuleLine
read_by kind.Import = import_of
read_by kind.From = from_of
read_by kind.Constant = constant_of
read_by kind.Test = test_of
read_by kind.Factory = factory_of
read_by kind.AddOption = add_option_of
read_by kind.GenerateTests = generate_of
read_by kind.Function = function_of

unfoldable pub read_line : Reader ModuleLine
read_line ts = read_by (kind_at ts) ts

-- the line that these tokens are
unfoldable pub line_of : List Token → Option ModuleLine
line_of ts = whole read_line ts
