-- What the helpers on tokens tell of the tokens.
use Rattle.std.proofs.Common.{◌≡◌, ℕ, List, [], ◌∷◌, ◌++◌, Option, Some, None, refl, sym, ap, ◌∙◌, arith, inl, inr, true, false, Bool, if◌then◌else◌, cond}
use Rattle.std.specs.Str.{bytes_eq}
use Rattle.std.specs.List.{find}
use Rattle.py_syntax.specs.ExpressionTables.{operation_tokens, prefix_token, function_name, function_of, functions, method_name, method_of, methods, name_at}
use Rattle.py_syntax.specs.ExpressionSpells.{Begins}
use Rattle.py_syntax.specs.declared.keyword.Keyword.TheVariants as keyword
use Rattle.py_syntax.specs.declared.operator.Operator.TheVariants as operator
use Rattle.py_syntax.specs.declared.operator.Bracket.TheVariants as bracket
use Rattle.py_syntax.specs.declared.token.Token.{Token}
use Rattle.py_syntax.specs.declared.token.Token.TheVariants as token
use Rattle.py_syntax.specs.declared.expression.UnOp.{UnOp}
use Rattle.py_syntax.specs.declared.expression.BinOp.TheVariants as binary
use Rattle.py_syntax.specs.declared.expression.BoolOp.TheVariants as bool
use Rattle.py_syntax.specs.declared.expression.Operation.{Operation}
use Rattle.py_syntax.specs.declared.expression.Operation.TheVariants as operation
use Rattle.py_syntax.specs.declared.expression.Function.{Function}
use Rattle.py_syntax.specs.declared.expression.Method.{Method}
use Rattle.py_expression.specs.declared.phrase.mark.Mark.TheVariants as mark
use Rattle.py_expression.specs.Phrase.Marks.{after, after_open, after_dot, named_at, after_name_by}
use Rattle.py_expression.proofs.PhraseLemmas.Facts.{some_same, bytes_are, after_is, after_open_is, after_close_is, after_dot_is, name_at_is, named_at_is}
use Rattle.py_expression.specs.Tokens.{prefix_of, operation_of, operation_at, operation_from, with_not, after_not, after_format_close, after_empty_call, after_close_in, name_behind, attribute_at}
use Rattle.py_expression.specs.Reading.{argument_begin, argument_by}

pub after_not_is : (ts us : List Token) → after_not ts ≡ Some us → ts ≡ token.Keyword keyword.Not ∷ us
after_not_is ts us e = after_is (mark.Keyword keyword.Not) ts us e

pub after_format_close_is : (ts us : List Token) → after_format_close ts ≡ Some us → ts ≡ token.FormatClose ∷ us
after_format_close_is (token.FormatClose ∷ ts) us e = ap (λ x. token.FormatClose ∷ x) (some_same e)
after_format_close_is _ us e = cc

pub attribute_at_is : (ts : List Token) (x : List ℕ × List Token) → attribute_at ts ≡ Some x → ts ≡ token.Operator operator.Dot ∷ token.Name x.0 ∷ x.1
attribute_at_is ts x e = go (after_dot ts) refl e
  where
    go : (o : Option (List Token)) → after_dot ts ≡ o → name_behind o ≡ Some x → ts ≡ token.Operator operator.Dot ∷ token.Name x.0 ∷ x.1
    go None q h = cc
    go (Some us) q h = after_dot_is ts us q ∙ ap (λ vs. token.Operator operator.Dot ∷ vs) (name_at_is us x h)

pub after_empty_call_is : (ts us : List Token) → after_empty_call ts ≡ Some us → ts ≡ token.Open bracket.Round ∷ token.Close bracket.Round ∷ us
after_empty_call_is ts us e = go (after_open ts) refl e
  where
    go : (o : Option (List Token)) → after_open ts ≡ o → after_close_in o ≡ Some us → ts ≡ token.Open bracket.Round ∷ token.Close bracket.Round ∷ us
    go None q h = cc
    go (Some vs) q h = after_open_is ts vs q ∙ ap (λ x. token.Open bracket.Round ∷ x) (after_close_is vs us h)

pub prefix_is : (t : Token) (op : UnOp) → prefix_of t ≡ Some op → t ≡ prefix_token op
prefix_is (token.Keyword keyword.False) op e = cc
prefix_is (token.Keyword keyword.None) op e = cc
prefix_is (token.Keyword keyword.True) op e = cc
prefix_is (token.Keyword keyword.And) op e = cc
prefix_is (token.Keyword keyword.As) op e = cc
prefix_is (token.Keyword keyword.Assert) op e = cc
prefix_is (token.Keyword keyword.Async) op e = cc
prefix_is (token.Keyword keyword.Await) op e = cc
prefix_is (token.Keyword keyword.Break) op e = cc
prefix_is (token.Keyword keyword.Class) op e = cc
prefix_is (token.Keyword keyword.Continue) op e = cc
prefix_is (token.Keyword keyword.Def) op e = cc
prefix_is (token.Keyword keyword.Del) op e = cc
prefix_is (token.Keyword keyword.Elif) op e = cc
prefix_is (token.Keyword keyword.Else) op e = cc
prefix_is (token.Keyword keyword.Except) op e = cc
prefix_is (token.Keyword keyword.Finally) op e = cc
prefix_is (token.Keyword keyword.For) op e = cc
prefix_is (token.Keyword keyword.From) op e = cc
prefix_is (token.Keyword keyword.Global) op e = cc
prefix_is (token.Keyword keyword.If) op e = cc
prefix_is (token.Keyword keyword.Import) op e = cc
prefix_is (token.Keyword keyword.In) op e = cc
prefix_is (token.Keyword keyword.Is) op e = cc
prefix_is (token.Keyword keyword.Lambda) op e = cc
prefix_is (token.Keyword keyword.Nonlocal) op e = cc
prefix_is (token.Keyword keyword.Not) op e = grind arith
prefix_is (token.Keyword keyword.Or) op e = cc
prefix_is (token.Keyword keyword.Pass) op e = cc
prefix_is (token.Keyword keyword.Raise) op e = cc
prefix_is (token.Keyword keyword.Return) op e = cc
prefix_is (token.Keyword keyword.Try) op e = cc
prefix_is (token.Keyword keyword.While) op e = cc
prefix_is (token.Keyword keyword.With) op e = cc
prefix_is (token.Keyword keyword.Yield) op e = cc
prefix_is (token.Operator operator.Comma) op e = cc
prefix_is (token.Operator operator.Dot) op e = cc
prefix_is (token.Operator operator.Colon) op e = cc
prefix_is (token.Operator operator.At) op e = cc
prefix_is (token.Operator operator.Invert) op e = grind arith
prefix_is (token.Operator operator.Assign) op e = cc
prefix_is (token.Operator operator.Less) op e = cc
prefix_is (token.Operator operator.Greater) op e = cc
prefix_is (token.Operator operator.Or) op e = cc
prefix_is (token.Operator operator.Xor) op e = cc
prefix_is (token.Operator operator.And) op e = cc
prefix_is (token.Operator operator.Plus) op e = grind arith
prefix_is (token.Operator operator.Minus) op e = grind arith
prefix_is (token.Operator operator.Times) op e = cc
prefix_is (token.Operator operator.Modulo) op e = cc
prefix_is (token.Operator operator.Equal) op e = cc
prefix_is (token.Operator operator.NotEqual) op e = cc
prefix_is (token.Operator operator.LessEqual) op e = cc
prefix_is (token.Operator operator.GreaterEqual) op e = cc
prefix_is (token.Operator operator.ShiftLeft) op e = cc
prefix_is (token.Operator operator.ShiftRight) op e = cc
prefix_is (token.Operator operator.FloorDivide) op e = cc
prefix_is (token.Operator operator.OrAssign) op e = cc
prefix_is (token.Operator operator.XorAssign) op e = cc
prefix_is (token.Operator operator.AndAssign) op e = cc
prefix_is (token.Operator operator.PlusAssign) op e = cc
prefix_is (token.Operator operator.MinusAssign) op e = cc
prefix_is (token.Operator operator.TimesAssign) op e = cc
prefix_is (token.Operator operator.ModuloAssign) op e = cc
prefix_is (token.Operator operator.ShiftLeftAssign) op e = cc
prefix_is (token.Operator operator.ShiftRightAssign) op e = cc
prefix_is (token.Operator operator.FloorDivideAssign) op e = cc
prefix_is (token.Name n) op e = cc
prefix_is (token.Number n) op e = cc
prefix_is (token.Text n) op e = cc
prefix_is (token.Open b) op e = cc
prefix_is (token.Close b) op e = cc
prefix_is token.FormatStart op e = cc
prefix_is (token.FormatText n) op e = cc
prefix_is token.FormatOpen op e = cc
prefix_is token.FormatClose op e = cc
prefix_is token.FormatEnd op e = cc
prefix_is token.Invalid op e = cc

-- the tokens of an operator, where no `not` follows
operation_is_one : (t : Token) (op : Operation) → operation_of t ≡ Some op → t ∷ [] ≡ operation_tokens op
operation_is_one (token.Keyword keyword.False) op e = cc
operation_is_one (token.Keyword keyword.None) op e = cc
operation_is_one (token.Keyword keyword.True) op e = cc
operation_is_one (token.Keyword keyword.And) op e = grind arith
operation_is_one (token.Keyword keyword.As) op e = cc
operation_is_one (token.Keyword keyword.Assert) op e = cc
operation_is_one (token.Keyword keyword.Async) op e = cc
operation_is_one (token.Keyword keyword.Await) op e = cc
operation_is_one (token.Keyword keyword.Break) op e = cc
operation_is_one (token.Keyword keyword.Class) op e = cc
operation_is_one (token.Keyword keyword.Continue) op e = cc
operation_is_one (token.Keyword keyword.Def) op e = cc
operation_is_one (token.Keyword keyword.Del) op e = cc
operation_is_one (token.Keyword keyword.Elif) op e = cc
operation_is_one (token.Keyword keyword.Else) op e = cc
operation_is_one (token.Keyword keyword.Except) op e = cc
operation_is_one (token.Keyword keyword.Finally) op e = cc
operation_is_one (token.Keyword keyword.For) op e = cc
operation_is_one (token.Keyword keyword.From) op e = cc
operation_is_one (token.Keyword keyword.Global) op e = cc
operation_is_one (token.Keyword keyword.If) op e = cc
operation_is_one (token.Keyword keyword.Import) op e = cc
operation_is_one (token.Keyword keyword.In) op e = cc
operation_is_one (token.Keyword keyword.Is) op e = grind arith
operation_is_one (token.Keyword keyword.Lambda) op e = cc
operation_is_one (token.Keyword keyword.Nonlocal) op e = cc
operation_is_one (token.Keyword keyword.Not) op e = cc
operation_is_one (token.Keyword keyword.Or) op e = grind arith
operation_is_one (token.Keyword keyword.Pass) op e = cc
operation_is_one (token.Keyword keyword.Raise) op e = cc
operation_is_one (token.Keyword keyword.Return) op e = cc
operation_is_one (token.Keyword keyword.Try) op e = cc
operation_is_one (token.Keyword keyword.While) op e = cc
operation_is_one (token.Keyword keyword.With) op e = cc
operation_is_one (token.Keyword keyword.Yield) op e = cc
operation_is_one (token.Operator operator.Comma) op e = cc
operation_is_one (token.Operator operator.Dot) op e = cc
operation_is_one (token.Operator operator.Colon) op e = cc
operation_is_one (token.Operator operator.At) op e = cc
operation_is_one (token.Operator operator.Invert) op e = cc
operation_is_one (token.Operator operator.Assign) op e = cc
operation_is_one (token.Operator operator.Less) op e = grind arith
operation_is_one (token.Operator operator.Greater) op e = grind arith
operation_is_one (token.Operator operator.Or) op e = grind arith
operation_is_one (token.Operator operator.Xor) op e = grind arith
operation_is_one (token.Operator operator.And) op e = grind arith
operation_is_one (token.Operator operator.Plus) op e = grind arith
operation_is_one (token.Operator operator.Minus) op e = grind arith
operation_is_one (token.Operator operator.Times) op e = grind arith
operation_is_one (token.Operator operator.Modulo) op e = grind arith
operation_is_one (token.Operator operator.Equal) op e = grind arith
operation_is_one (token.Operator operator.NotEqual) op e = grind arith
operation_is_one (token.Operator operator.LessEqual) op e = grind arith
operation_is_one (token.Operator operator.GreaterEqual) op e = grind arith
operation_is_one (token.Operator operator.ShiftLeft) op e = grind arith
operation_is_one (token.Operator operator.ShiftRight) op e = grind arith
operation_is_one (token.Operator operator.FloorDivide) op e = grind arith
operation_is_one (token.Operator operator.OrAssign) op e = cc
operation_is_one (token.Operator operator.XorAssign) op e = cc
operation_is_one (token.Operator operator.AndAssign) op e = cc
operation_is_one (token.Operator operator.PlusAssign) op e = cc
operation_is_one (token.Operator operator.MinusAssign) op e = cc
operation_is_one (token.Operator operator.TimesAssign) op e = cc
operation_is_one (token.Operator operator.ModuloAssign) op e = cc
operation_is_one (token.Operator operator.ShiftLeftAssign) op e = cc
operation_is_one (token.Operator operator.ShiftRightAssign) op e = cc
operation_is_one (token.Operator operator.FloorDivideAssign) op e = cc
operation_is_one (token.Name n) op e = cc
operation_is_one (token.Number n) op e = cc
operation_is_one (token.Text n) op e = cc
operation_is_one (token.Open b) op e = cc
operation_is_one (token.Close b) op e = cc
operation_is_one token.FormatStart op e = cc
operation_is_one (token.FormatText n) op e = cc
operation_is_one token.FormatOpen op e = cc
operation_is_one token.FormatClose op e = cc
operation_is_one token.FormatEnd op e = cc
operation_is_one token.Invalid op e = cc

with_not_is : (op : Operation) (ts : List Token) (o : Option (List Token)) → after_not ts ≡ o
    → operation_tokens op ++ ts ≡ operation_tokens (with_not op ts o).0 ++ (with_not op ts o).1
unfolding after
with_not_is (operation.Bool bool.Or) ts o q = refl
with_not_is (operation.Bool bool.And) ts o q = refl
with_not_is (operation.Binary binary.Equal) ts o q = refl
with_not_is (operation.Binary binary.NotEqual) ts o q = refl
with_not_is (operation.Binary binary.Less) ts o q = refl
with_not_is (operation.Binary binary.LessEqual) ts o q = refl
with_not_is (operation.Binary binary.Greater) ts o q = refl
with_not_is (operation.Binary binary.GreaterEqual) ts o q = refl
with_not_is (operation.Binary binary.Is) ts None q = refl
with_not_is (operation.Binary binary.Is) ts (Some us) q = ap (λ x. token.Keyword keyword.Is ∷ x) (after_not_is ts us q)
with_not_is (operation.Binary binary.IsNot) ts o q = refl
with_not_is (operation.Binary binary.BitOr) ts o q = refl
with_not_is (operation.Binary binary.BitXor) ts o q = refl
with_not_is (operation.Binary binary.BitAnd) ts o q = refl
with_not_is (operation.Binary binary.ShiftLeft) ts o q = refl
with_not_is (operation.Binary binary.ShiftRight) ts o q = refl
with_not_is (operation.Binary binary.Add) ts o q = refl
with_not_is (operation.Binary binary.Subtract) ts o q = refl
with_not_is (operation.Binary binary.Multiply) ts o q = refl
with_not_is (operation.Binary binary.FloorDivide) ts o q = refl
with_not_is (operation.Binary binary.Modulo) ts o q = refl

pub operation_is : (ts : List Token) (x : Operation × List Token) → operation_at ts ≡ Some x → ts ≡ operation_tokens x.0 ++ x.1
unfolding operation_at after
operation_is [] x e = cc
operation_is (t ∷ ts) x e = go (operation_of t) refl e
  where
    go : (o : Option Operation) → operation_of t ≡ o → operation_from o ts ≡ Some x → t ∷ ts ≡ operation_tokens x.0 ++ x.1
    go None q h = cc
    go (Some op) q h = ap (λ us. us ++ ts) (operation_is_one t op q) ∙ with_not_is op ts (after_not ts) refl
        ∙ ap (λ (y : Operation × List Token). operation_tokens y.0 ++ y.1) (some_same h)

find_passes : {X : Type 0} (p : X → Bool) (xs : List X) (x : X) → find p xs ≡ Some x → p x ≡ true
find_passes p [] x e = cc
find_passes p (y ∷ ys) x e = go (p y) refl e (λ h. find_passes p ys x h)
  where
    go : (b : Bool) → p y ≡ b → cond b (Some y) (find p ys) ≡ Some x → (find p ys ≡ Some x → p x ≡ true) → p x ≡ true
    go true q h more = rw (some_same h) at q
    go false q h more = more h

pub function_is : (n : List ℕ) (f : Function) → function_of n ≡ Some f → n ≡ function_name f
unfolding function_of
function_is n f e = sym (bytes_are (function_name f) n (find_passes (λ g. bytes_eq (function_name g) n) functions f e))

pub method_is : (n : List ℕ) (m : Method) → method_of n ≡ Some m → n ≡ method_name m
unfolding method_of
method_is n m e = sym (bytes_are (method_name m) n (find_passes (λ g. bytes_eq (method_name g) n) methods m e))

-- where an argument begins, it begins by its place or by its name
pub argument_begins : (f : Function) (n : ℕ) (ts : List Token) → Begins f n ts (argument_begin f n ts)
unfolding after
argument_begins f n ts = go (name_at f n) refl
  where
    named : (name : List ℕ) → name_at f n ≡ Some name → (x : List ℕ × List Token) → named_at ts ≡ Some x → (b : Bool) → bytes_eq x.0 name ≡ b
        → Begins f n ts (if b then x.1 else ts)
    named name at x q true h = inr (name, at, named_at_is ts x q ∙ ap (λ m. token.Name m ∷ token.Operator operator.Assign ∷ x.1) (bytes_are x.0 name h))
    named name at x q false h = inl refl

    begin : (name : List ℕ) → name_at f n ≡ Some name → (o : Option (List ℕ × List Token)) → named_at ts ≡ o → Begins f n ts (after_name_by name ts o)
    begin name at None q = inl refl
    begin name at (Some x) q = named name at x q (bytes_eq x.0 name) refl

    go : (o : Option (List ℕ)) → name_at f n ≡ o → Begins f n ts (argument_by ts o)
    go None q = inl refl
    go (Some name) q = begin name q (named_at ts) refl
