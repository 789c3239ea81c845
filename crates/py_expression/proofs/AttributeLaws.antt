-- What splitting an attribute tells of it.
use Rattle.std.proofs.Common.{◌≡◌, ℕ, List, Option, Some, None, ap}
use Rattle.py_syntax.specs.ExpressionTrees.{Tree, Constant, FormatString, Name, Bracketed, Attribute, Subscript, Call, MethodCall, Unary, Infix}
use Rattle.py_expression.specs.Attributes.{split_of}

pub split_is : (t : Tree) (x : Tree × List ℕ) → split_of t ≡ Some x → t ≡ Attribute x.0 x.1
unfolding split_of
split_is (Attribute e n) x h = ap (λ (y : Tree × List ℕ). Attribute y.0 y.1) (ap (λ o. elim o as (λ _. Tree × List ℕ) [ None ↦ (e, n) | Some y ↦ y ]) h)
split_is (Constant c) x h = absurd cc
split_is (FormatString ps) x h = absurd cc
split_is (Name m) x h = absurd cc
split_is (Bracketed e) x h = absurd cc
split_is (Subscript e i) x h = absurd cc
split_is (Call f es) x h = absurd cc
split_is (MethodCall e m) x h = absurd cc
split_is (Unary op e) x h = absurd cc
split_is (Infix op l r) x h = absurd cc
