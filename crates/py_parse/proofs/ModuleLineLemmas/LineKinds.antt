-- The first tokens tell of which kind a line is.
use Rattle.std.proofs.Common.{◌≡◌, inl, inr, Bool, true, false, List, [], ◌∷◌, refl, pos, negsuc}
use Rattle.std.specs.Prelude.{codes}
use Rattle.std.specs.Str.{bytes_eq}
use Rattle.py_syntax.specs.declared.constant.Const.{Const}
use Rattle.py_syntax.specs.declared.constant.Const.TheVariants as constants
use Rattle.py_syntax.specs.declared.token.Token.{Token}
use Rattle.py_syntax.specs.ExpressionSpells.{IsConstant}
use Rattle.py_syntax.specs.ModuleTrees.{ModuleLine}
use Rattle.py_syntax.specs.ModuleForms as form
use Rattle.py_syntax.specs.ConstantForms.{SpellsConstant}
use Rattle.py_expression.specs.Phrase.Marks.{after_if, after, after_word}
use Rattle.py_parse.specs.ModuleLine.Reading.{value_kind, kind_at}
use Rattle.py_parse.specs.declared.module_line.kind.Kind.TheVariants as kind

pub import_kind : (ts rest : List Token) (l : ModuleLine) → form.import_form l ts rest → kind_at ts ≡ kind.Import
unfolding kind_at after
import_kind ts rest l (x, n, us, q, h, e) = rw q refl

pub from_kind : (ts rest : List Token) (l : ModuleLine) → form.from_form l ts rest → kind_at ts ≡ kind.From
unfolding kind_at after
from_kind ts rest l (ms, ns, us, (ms2, x, us2, (x3, ms3, us3, q, h3, e3), q2, e2), h, e) = rw q refl

pub test_kind : (ts rest : List Token) (l : ModuleLine) → form.test_form l ts rest → kind_at ts ≡ kind.Test
unfolding kind_at after
test_kind ts rest l (x, ss, us, (x2, y2, us2, (x3, y3, us3, (x4, y4, us4, (x5, y5, us5, q, q5, e5), q4, e4), q3, e3), q2, e2), h, e) = rw q refl

pub function_kind : (ts rest : List Token) (l : ModuleLine) → form.function_form l ts rest → kind_at ts ≡ kind.Function
unfolding kind_at after
function_kind ts rest l (x, ps, us, (x2, y2, us2, (x3, y3, us3, (x4, y4, us4, q, q4, e4), q3, e3), q2, e2), h, e) = rw q refl

pub factory_kind : (ts rest : List Token) (l : ModuleLine) → form.factory_form l ts rest → kind_at ts ≡ kind.Factory
unfolding kind_at after after_word
factory_kind ts rest l (n, f, us, (x2, y2, us2, (x3, y3, us3, (x4, y4, us4, q, q4, e4), q3, e3), q2, e2), h, e) = rw (q, q4, q3, q2) refl

pub add_option_kind : (ts rest : List Token) (l : ModuleLine) → form.add_option_form l ts rest → kind_at ts ≡ kind.AddOption
unfolding kind_at after after_word
add_option_kind ts rest l (n, o, us, (x2, y2, us2, (x3, y3, us3, (x4, y4, us4, q, q4, e4), q3, e3), q2, e2), h, e) = rw (q, q4, q3) refl

pub generate_kind : (ts rest : List Token) (l : ModuleLine) → form.generate_form l ts rest → kind_at ts ≡ kind.GenerateTests
unfolding kind_at after after_word
generate_kind ts rest l (n, o, us, (x2, y2, us2, (x3, y3, us3, (x4, y4, us4, q, q4, e4), q3, e3), q2, e2), h, e) = rw (q, q4, q3) refl

-- A constant at the end of a line is no call.

token_kind : (c : Const) (t : Token) → IsConstant c t → value_kind (after_word (codes "TestFactory") (t ∷ [])) ≡ kind.Constant
unfolding after_word
token_kind constants.Absent t h = rw h refl
token_kind (constants.Truth true) t h = rw h refl
token_kind (constants.Truth false) t h = rw h refl
token_kind (constants.Whole (pos n)) t h = rw h.0 refl
token_kind (constants.Whole (negsuc n)) t h = absurd h
token_kind (constants.Text bytes) t h = rw h refl
token_kind (constants.Named n) t h = absurd h

word_kind : (b : Bool) → value_kind (after_if [] b) ≡ kind.Constant
unfolding after
word_kind true = refl
word_kind false = refl

constant_value : (ts : List Token) (c : Const) → SpellsConstant c ts [] → value_kind (after_word (codes "TestFactory") ts) ≡ kind.Constant
unfolding after_word
constant_value ts c (inl (t, is, e)) = rw e (token_kind c t is)
constant_value ts c (inr (inl (n, e, lt, h))) = rw h refl
constant_value ts c (inr (inr (n, e, h))) = rw h (word_kind (bytes_eq n (codes "TestFactory")))

pub constant_kind : (ts : List Token) (l : ModuleLine) → form.constant_form l ts [] → kind_at ts ≡ kind.Constant
unfolding kind_at after
constant_kind ts l (n, c, us, (n2, x, us2, q, q2, e2), h, e) = rw (q, q2) (constant_value us c h)
