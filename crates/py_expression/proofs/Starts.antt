-- How an expression begins, and what an operator's tokens are not.
use Rattle.std.proofs.Common.{◌≡◌, ◌≤◌, List, ◌∷◌, ◌++◌, None, refl, arith, true, false, pos, negsuc}
use Rattle.py_syntax.specs.ExpressionTrees.{Tree, Constant, FormatString, Name, Bracketed, Attribute, Subscript, Call, MethodCall, Unary, Infix}
use Rattle.py_syntax.specs.ExpressionTables.{operation_tokens, prefix_token}
use Rattle.py_syntax.specs.ExpressionSpells.{level, IsConstant, Spells}
use Rattle.py_syntax.specs.declared.constant.Const.{Const}
use Rattle.py_syntax.specs.declared.constant.Const.TheVariants as constants
use Rattle.py_syntax.specs.declared.token.Token.{Token}
use Rattle.py_syntax.specs.declared.expression.UnOp.{UnOp}
use Rattle.py_syntax.specs.declared.expression.UnOp.TheVariants as unary
use Rattle.py_syntax.specs.declared.expression.BinOp.TheVariants as binary
use Rattle.py_syntax.specs.declared.expression.BoolOp.TheVariants as bool
use Rattle.py_syntax.specs.declared.expression.Operation.{Operation}
use Rattle.py_syntax.specs.declared.expression.Operation.TheVariants as operation
use Rattle.py_expression.specs.Tokens.{after_not, attribute_at}
use Rattle.py_expression.specs.Phrase.Marks.{after, after_close, after_assign, named_at, after_open, after_open_square}
use Rattle.py_expression.specs.Ends.{begins_expression, starts_expression}
use Rattle.py_expression.proofs.Tables.{left_at_least}

-- an operator's tokens begin with no `=`, `.`, `[` or `(`
pub operation_plain : (op : Operation) (ts : List Token)
    → (after_assign (operation_tokens op ++ ts) ≡ None) × (attribute_at (operation_tokens op ++ ts) ≡ None)
    × (after_open_square (operation_tokens op ++ ts) ≡ None) × (after_open (operation_tokens op ++ ts) ≡ None)
unfolding after
operation_plain (operation.Bool bool.Or) ts = (refl, refl, refl, refl)
operation_plain (operation.Bool bool.And) ts = (refl, refl, refl, refl)
operation_plain (operation.Binary binary.Equal) ts = (refl, refl, refl, refl)
operation_plain (operation.Binary binary.NotEqual) ts = (refl, refl, refl, refl)
operation_plain (operation.Binary binary.Less) ts = (refl, refl, refl, refl)
operation_plain (operation.Binary binary.LessEqual) ts = (refl, refl, refl, refl)
operation_plain (operation.Binary binary.Greater) ts = (refl, refl, refl, refl)
operation_plain (operation.Binary binary.GreaterEqual) ts = (refl, refl, refl, refl)
operation_plain (operation.Binary binary.Is) ts = (refl, refl, refl, refl)
operation_plain (operation.Binary binary.IsNot) ts = (refl, refl, refl, refl)
operation_plain (operation.Binary binary.BitOr) ts = (refl, refl, refl, refl)
operation_plain (operation.Binary binary.BitXor) ts = (refl, refl, refl, refl)
operation_plain (operation.Binary binary.BitAnd) ts = (refl, refl, refl, refl)
operation_plain (operation.Binary binary.ShiftLeft) ts = (refl, refl, refl, refl)
operation_plain (operation.Binary binary.ShiftRight) ts = (refl, refl, refl, refl)
operation_plain (operation.Binary binary.Add) ts = (refl, refl, refl, refl)
operation_plain (operation.Binary binary.Subtract) ts = (refl, refl, refl, refl)
operation_plain (operation.Binary binary.Multiply) ts = (refl, refl, refl, refl)
operation_plain (operation.Binary binary.FloorDivide) ts = (refl, refl, refl, refl)
operation_plain (operation.Binary binary.Modulo) ts = (refl, refl, refl, refl)

-- how an expression begins: with no `)`, with no `not` where it binds tightly, and with no name before a `=`
abbrev pub Starts : Tree → List Token → List Token → Type 0
Starts e ts rest = (after_close ts ≡ None) × (4 ≤ level e → after_not ts ≡ None) × (after_assign rest ≡ None → named_at ts ≡ None)

constant_starts : (c : Const) (t : Token) (us : List Token) → IsConstant c t → (after_close (t ∷ us) ≡ None) × (after_not (t ∷ us) ≡ None) × (named_at (t ∷ us) ≡ None)
unfolding after
constant_starts constants.Absent t us h = rw h (refl, refl, refl)
constant_starts (constants.Truth true) t us h = rw h (refl, refl, refl)
constant_starts (constants.Truth false) t us h = rw h (refl, refl, refl)
constant_starts (constants.Whole (pos n)) t us h = rw h.0 (refl, refl, refl)
constant_starts (constants.Whole (negsuc n)) t us h = absurd h
constant_starts (constants.Text bytes) t us h = rw h (refl, refl, refl)
constant_starts (constants.Named n) t us h = absurd h

prefix_starts : (op : UnOp) (e : Tree) (us rest : List Token) → Starts (Unary op e) (prefix_token op ∷ us) rest
unfolding level after
prefix_starts unary.Not e us rest = (refl, λ h. absurd (omega arith), λ h. refl)
prefix_starts unary.Negative e us rest = (refl, λ h. refl, λ h. refl)
prefix_starts unary.Positive e us rest = (refl, λ h. refl, λ h. refl)
prefix_starts unary.Invert e us rest = (refl, λ h. refl, λ h. refl)

-- behind a tree, one that goes on with it
starts_more : (e f : Tree) (ts us rest : List Token) → Starts e ts us → (4 ≤ level f → 4 ≤ level e) → after_assign us ≡ None → Starts f ts rest
unfolding after
starts_more e f ts us rest (a, b, c) up h = (a, λ k. b (up k), λ _. c h)

pub starts : (e : Tree) (ts rest : List Token) → Spells e ts rest → Starts e ts rest
unfolding Spells level after
starts (Constant c) ts rest (t, is, eq) = rw eq (let k = constant_starts c t rest is in (k.0, λ h. k.1, λ h. k.2))
starts (FormatString ps) ts rest (us, eq, more) = rw eq (refl, λ h. refl, λ h. refl)
starts (Name n) ts rest eq = rw eq (refl, λ h. refl, λ h. rw h)
starts (Bracketed e) ts rest (us, vs, eq, more, close) = rw eq (refl, λ h. refl, λ h. refl)
starts (Attribute e n) ts rest (us, s, l, eq) = starts_more e (Attribute e n) ts us rest (starts e ts us s) (λ h. omega arith) (rw eq)
starts (Subscript e i) ts rest (us, vs, ws, s, l, eq, si, close) = starts_more e (Subscript e i) ts us rest (starts e ts us s) (λ h. omega arith) (rw eq)
starts (Call f es) ts rest (us, eq, more) = rw eq (refl, λ h. refl, λ h. refl)
starts (MethodCall e m) ts rest (us, s, l, eq) = starts_more e (MethodCall e m) ts us rest (starts e ts us s) (λ h. omega arith) (rw eq)
starts (Unary op e) ts rest (us, eq, s, l) = rw eq (prefix_starts op e us rest)
starts (Infix op l r) ts rest (us, vs, sl, ll, eq, sr, lr) =
    starts_more l (Infix op l r) ts us rest (starts l ts us sl) (λ h. omega (arith, left_at_least op)) (rw eq (operation_plain op vs).0)

constant_begins : (c : Const) (t : Token) → IsConstant c t → begins_expression t ≡ true
constant_begins constants.Absent t h = rw h
constant_begins (constants.Truth true) t h = rw h
constant_begins (constants.Truth false) t h = rw h
constant_begins (constants.Whole (pos n)) t h = rw h.0
constant_begins (constants.Whole (negsuc n)) t h = absurd h
constant_begins (constants.Text bytes) t h = rw h
constant_begins (constants.Named n) t h = absurd h

prefix_begins : (op : UnOp) → begins_expression (prefix_token op) ≡ true
prefix_begins unary.Not = refl
prefix_begins unary.Negative = refl
prefix_begins unary.Positive = refl
prefix_begins unary.Invert = refl

-- what an expression spells begins with a token that begins an expression
pub begins : (e : Tree) (ts rest : List Token) → Spells e ts rest → starts_expression ts ≡ true
unfolding Spells
begins (Constant c) ts rest (t, is, eq) = rw eq (constant_begins c t is)
begins (FormatString ps) ts rest (us, eq, more) = rw eq
begins (Name n) ts rest eq = rw eq
begins (Bracketed e) ts rest (us, vs, eq, more, close) = rw eq
begins (Attribute e n) ts rest (us, s, l, eq) = begins e ts us s
begins (Subscript e i) ts rest (us, vs, ws, s, l, eq, si, close) = begins e ts us s
begins (Call f es) ts rest (us, eq, more) = rw eq
begins (MethodCall e m) ts rest (us, s, l, eq) = begins e ts us s
begins (Unary op e) ts rest (us, eq, s, l) = rw eq (prefix_begins op)
begins (Infix op l r) ts rest (us, vs, sl, ll, eq, sr, lr) = begins l ts us sl
