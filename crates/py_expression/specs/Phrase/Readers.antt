-- A means of proof: readers of phrases, as functions on lists of tokens, for the proofs of Python's parser. A reader gives the value at the
-- front and the tokens after it, or None where no phrase stands there.
use Rattle.std.specs.Prelude.{ℕ, zero, suc, Bool, true, false, ◌^◌, nat_lt, List, [], ◌∷◌, ◌++◌, length, Option, Some, None, pos, neg_ℤ, if◌then◌else◌}
use Rattle.py_syntax.specs.declared.constant.Const.{Const}
use Rattle.py_syntax.specs.declared.constant.Const.TheVariants as constants
use Rattle.py_syntax.specs.declared.keyword.Keyword.TheVariants as keyword
use Rattle.py_syntax.specs.declared.operator.Operator.TheVariants as operator
use Rattle.py_syntax.specs.declared.operator.Bracket.TheVariants as bracket
use Rattle.py_syntax.specs.declared.token.Token.{Token}
use Rattle.py_syntax.specs.declared.token.Token.TheVariants as token
use Rattle.py_syntax.specs.declared.module.Parameter.{Parameter}
use Rattle.py_syntax.specs.declared.module.Setting.{Setting}
use Rattle.py_syntax.specs.ModuleForms.{required, optional}
use Rattle.py_expression.specs.Phrase.Marks.{after, after_word, comma, assign, closing_by, name_at, end_of}
use Rattle.py_expression.specs.declared.phrase.mark.Mark.{Mark}
use Rattle.py_expression.specs.declared.phrase.mark.Mark.TheVariants as marks

abbrev pub bind : {A B : Type 0} → (A → Option B) → Option A → Option B
bind k None = None
bind k (Some x) = k x

abbrev pub Reader : Type 0 → Type 0
Reader V = List Token → Option (V × List Token)

-- these have no value of their own

abbrev pub mark : Mark → Reader (Unit {0})
mark m ts = bind (λ us. Some (tt, us)) (after m ts)

abbrev pub word : List ℕ → Reader (Unit {0})
word w ts = bind (λ us. Some (tt, us)) (after_word w ts)

abbrev pub name : Reader (List ℕ)
name ts = name_at ts

abbrev pub text : Reader (List ℕ)
text (token.Text bytes ∷ ts) = Some (bytes, ts)
text _ = None

abbrev pub number : Reader ℕ
number (token.Number n ∷ ts) = Some (n, ts)
number _ = None

-- one after the other, and what their values make
abbrev pub both_of : {A B C : Type 0} → (A → B → C) → Reader A → Reader B → Reader C
both_of make r s ts = bind (λ x. bind (λ y. Some (make x.0 y.0, y.1)) (s x.1)) (r ts)

infixl 20 ◌◃◌
-- the second has no value
abbrev pub ◌◃◌ : {A B : Type 0} → Reader A → Reader B → Reader A
r ◃ s = both_of (λ x y. x) r s

infixl 20 ◌▹◌
-- the first has no value
abbrev pub ◌▹◌ : {A B : Type 0} → Reader A → Reader B → Reader B
r ▹ s = both_of (λ x y. y) r s

abbrev pub map_of : {A B : Type 0} → (A → B) → Reader A → Reader B
map_of f r ts = bind (λ x. Some (f x.0, x.1)) (r ts)

abbrev pub makes_of : {A B : Type 0} → (A → Option B) → Reader A → Reader B
makes_of f r ts = bind (λ x. bind (λ y. Some (y, x.1)) (f x.0)) (r ts)

-- one reader where a test of the tokens holds, else the other
abbrev pub choose : {A : Type 0} → Bool → A → A → A
choose b x y = if b then x else y

abbrev pub ended : {V : Type 0} → V × List Token → Option V
ended x = bind (λ _. Some x.0) (end_of x.1)

-- all tokens
abbrev pub whole : {V : Type 0} → Reader V → List Token → Option V
whole r ts = bind ended (r ts)

-- Lists.

abbrev pub stopping_by : List Token → Option (List Token) → Option (List Token)
stopping_by ts (Some us) = None
stopping_by ts None = Some ts

-- the end of a list behind an element: a closing bracket, before which the mark between elements may stand, or no such mark
unfoldable pub ending : Mark → Option Mark → List Token → Option (List Token)
ending between (Some close) ts = closing_by close ts (after between ts)
ending between None ts = stopping_by ts (after between ts)

abbrev pub others_by : {A : Type 0} → Reader A → Mark → (List A → Reader (List A)) → List A → List Token → Option (List Token) → Option (List A × List Token)
others_by r between more xs ts (Some us) = Some (xs, us)
others_by r between more xs ts None = bind (λ us. bind (λ x. more (xs ++ (x.0 ∷ [])) x.1) (r us)) (after between ts)

-- behind these elements, fewer than so many more and the end
unfoldable pub others_of : {A : Type 0} → Reader A → Mark → Option Mark → ℕ → List A → Reader (List A)
others_of r between close zero xs ts = None
others_of r between close (suc n) xs ts = others_by r between (others_of r between close n) xs ts (ending between close ts)

-- one or more elements
unfoldable pub elements_of : {A : Type 0} → Reader A → Mark → Option Mark → Reader (List A)
elements_of r between close ts = bind (λ x. others_of r between close (length ts) (x.0 ∷ []) x.1) (r ts)

abbrev pub listed_by : {A : Type 0} → Reader A → Mark → List Token → Option (List Token) → Option (List A × List Token)
listed_by r close ts (Some us) = Some ([], us)
listed_by r close ts None = elements_of r comma (Some close) ts

-- the elements of a list in brackets, behind its opening bracket
unfoldable pub listed_of : {A : Type 0} → Reader A → Mark → Reader (List A)
listed_of r close ts = listed_by r close ts (after close ts)

-- Constants.

abbrev pub constant_of : Token → Option Const
constant_of (token.Keyword keyword.None) = Some constants.Absent
constant_of (token.Keyword keyword.True) = Some (constants.Truth true)
constant_of (token.Keyword keyword.False) = Some (constants.Truth false)
constant_of (token.Number n) = if nat_lt n (2 ^ 127) then Some (constants.Whole (pos n)) else None
constant_of (token.Text bytes) = Some (constants.Text bytes)
constant_of _ = None

abbrev pub negative_of : ℕ → List Token → Option (Const × List Token)
negative_of n ts = if nat_lt n (2 ^ 127) then Some (constants.Whole (neg_ℤ (pos n)), ts) else None

-- behind a minus
abbrev pub negative : Reader Const
negative ts = bind (λ x. negative_of x.0 x.1) (number ts)

abbrev pub plain : Reader Const
plain [] = None
plain (t ∷ ts) = bind (λ c. Some (c, ts)) (constant_of t)

abbrev pub named_by : List Token → Option (List ℕ × List Token) → Option (Const × List Token)
named_by ts (Some x) = Some (constants.Named x.0, x.1)
named_by ts None = plain ts

abbrev pub constant_by : List Token → Option (List Token) → Option (Const × List Token)
constant_by ts (Some us) = negative us
constant_by ts None = named_by ts (name ts)

unfoldable pub constant : Reader Const
constant ts = constant_by ts (after (marks.Operator operator.Minus) ts)

-- `[constant, ..]`
abbrev pub constants_in : Reader (List Const)
constants_in = listed_of constant (marks.Close bracket.Square)

-- `name=constant`
abbrev pub setting : Reader Setting
setting = both_of (λ n c. record { name = n; value = c }) (name ◃ mark assign) constant

abbrev pub default_by : List ℕ → List Token → Option (List Token) → Option (Parameter × List Token)
default_by n us (Some vs) = bind (λ c. Some (optional n c.0, c.1)) (constant vs)
default_by n us None = Some (required n, us)

-- `name` or `name=constant`
abbrev pub parameter : Reader Parameter
parameter ts = bind (λ x. default_by x.0 x.1 (after assign x.1)) (name ts)
