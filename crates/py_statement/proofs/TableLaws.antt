-- The names of kinds of faults and of methods, and the tokens that decide which form a line has.
use Rattle.std.proofs.Common.{◌≡◌, ℕ, List, [], ◌∷◌, Some, None, refl, sym, ap, ◌∙◌, true, false, Bool, cond}
use Rattle.std.specs.Str.{bytes_eq}
use Rattle.std.specs.List.{find}
use Rattle.py_syntax.specs.ExpressionTables.{method_of}
use Rattle.py_syntax.specs.StatementTables.{fault_name, fault_of, kinds, augmenting}
use Rattle.py_syntax.specs.StatementForms.{colon}
use Rattle.py_syntax.specs.declared.expression.BinOp.{BinOp}
use Rattle.py_syntax.specs.declared.fault_kind.FaultKind.{FaultKind}
use Rattle.py_syntax.specs.declared.fault_kind.FaultKind.TheVariants as kind
use Rattle.py_syntax.specs.declared.keyword.Keyword.{Keyword}
use Rattle.py_syntax.specs.declared.keyword.Keyword.TheVariants as keyword
use Rattle.py_syntax.specs.declared.operator.Operator.{Operator}
use Rattle.py_syntax.specs.declared.operator.Operator.TheVariants as operator
use Rattle.py_syntax.specs.declared.statement.Action.TheVariants as action
use Rattle.py_syntax.specs.declared.statement.LogLevel.TheVariants as level
use Rattle.py_syntax.specs.declared.token.Token.{Token}
use Rattle.py_syntax.specs.declared.token.Token.TheVariants as token
use Rattle.py_expression.specs.Tokens.{operation_at}
use Rattle.py_expression.specs.Phrase.Marks.{after, after_assign, name_at}
use Rattle.py_expression.proofs.Again.{Quiet}
use Rattle.py_expression.specs.declared.phrase.mark.Mark.TheVariants as mark
use Rattle.py_expression.proofs.PhraseLemmas.Facts.{after_is, some_same, name_at_is, bytes_are}
use Rattle.py_statement.specs.Call.Chosen.{made}
use Rattle.py_statement.proofs.CallLemmas.Chosen.{not_some, also_is, made_is}
use Rattle.py_statement.specs.Words.{called_name, all_called, called_of, keyword_at, augmenting_at, after_in, after_as, after_with, colon_of, kind_at}
use Rattle.py_statement.specs.declared.method.Called.{Called}
use Rattle.py_statement.specs.declared.method.Called.TheVariants as called

find_passes : {X : Type 0} (p : X → Bool) (xs : List X) (x : X) → find p xs ≡ Some x → p x ≡ true
unfolding after
find_passes p [] x e = absurd (not_some e)
find_passes p (y ∷ ys) x e = go (p y) refl e (λ h. find_passes p ys x h)
  where
    go : (b : Bool) → p y ≡ b → cond b (Some y) (find p ys) ≡ Some x → (find p ys ≡ Some x → p x ≡ true) → p x ≡ true
    go true q h more = rw (some_same h) at q
    go false q h more = more h

pub fault_is : (n : List ℕ) (k : FaultKind) → fault_of n ≡ Some k → n ≡ fault_name k
unfolding fault_of
fault_is n k e = sym (bytes_are (fault_name k) n (find_passes (λ j. bytes_eq (fault_name j) n) kinds k e))

pub fault_again : (k : FaultKind) → fault_of (fault_name k) ≡ Some k
unfolding fault_of after
fault_again kind.AssertionError = refl
fault_again kind.AttributeError = refl
fault_again kind.IndexError = refl
fault_again kind.OverflowError = refl
fault_again kind.QueueEmpty = refl
fault_again kind.QueueFull = refl
fault_again kind.RuntimeError = refl
fault_again kind.SimTimeoutError = refl
fault_again kind.TriggerException = refl
fault_again kind.TypeError = refl
fault_again kind.UnboundLocalError = refl
fault_again kind.ValueError = refl
fault_again kind.ZeroDivisionError = refl
fault_again kind.Exception = refl

pub called_is : (n : List ℕ) (m : Called) → called_of n ≡ Some m → n ≡ called_name m
unfolding called_of
called_is n m e = sym (bytes_are (called_name m) n (find_passes (λ j. bytes_eq (called_name j) n) all_called m e))

pub called_again : (m : Called) → called_of (called_name m) ≡ Some m
unfolding called_of after
called_again (called.Act action.Set) = refl
called_again (called.Act action.Clear) = refl
called_again (called.Act action.Release) = refl
called_again (called.Act action.Kill) = refl
called_again (called.Log level.Info) = refl
called_again (called.Log level.Warning) = refl
called_again (called.Log level.Error) = refl
called_again called.SetImmediateValue = refl
called_again called.PutNow = refl
called_again called.StartSoon = refl

-- no expression calls a method of such a name
pub called_plain : (m : Called) → method_of (called_name m) ≡ None
unfolding method_of after
called_plain (called.Act action.Set) = refl
called_plain (called.Act action.Clear) = refl
called_plain (called.Act action.Release) = refl
called_plain (called.Act action.Kill) = refl
called_plain (called.Log level.Info) = refl
called_plain (called.Log level.Warning) = refl
called_plain (called.Log level.Error) = refl
called_plain called.SetImmediateValue = refl
called_plain called.PutNow = refl
called_plain called.StartSoon = refl

pub kind_at_is : (ts : List Token) (x : FaultKind × List Token) → kind_at ts ≡ Some x → ts ≡ token.Name (fault_name x.0) ∷ x.1
kind_at_is ts x h =
    let (y, a, b) = also_is (name_at ts) (λ z. made (λ k. (k, z.1)) (fault_of z.0)) x h in
    let (k, c, d) = made_is (fault_of y.0) (λ j. (j, y.1)) x b in
    name_at_is ts y a ∙ ap (λ n. token.Name n ∷ y.1) (fault_is y.0 k c) ∙ ap (λ (z : FaultKind × List Token). token.Name (fault_name z.0) ∷ z.1) d

pub kind_at_again : (k : FaultKind) (ts : List Token) → kind_at (token.Name (fault_name k) ∷ ts) ≡ Some (k, ts)
unfolding after
kind_at_again k ts = rw (fault_again k)

pub keyword_at_is : (ts : List Token) (x : Keyword × List Token) → keyword_at ts ≡ Some x → ts ≡ token.Keyword x.0 ∷ x.1
keyword_at_is (token.Keyword k ∷ ts) x e = ap (λ (y : Keyword × List Token). token.Keyword y.0 ∷ y.1) (some_same e)
keyword_at_is _ x e = cc

pub after_in_is : (ts us : List Token) → after_in ts ≡ Some us → ts ≡ token.Keyword keyword.In ∷ us
unfolding after
after_in_is ts us e = after_is (mark.Keyword keyword.In) ts us e

pub after_as_is : (ts us : List Token) → after_as ts ≡ Some us → ts ≡ token.Keyword keyword.As ∷ us
unfolding after
after_as_is ts us e = after_is (mark.Keyword keyword.As) ts us e

pub after_with_is : (ts us : List Token) → after_with ts ≡ Some us → ts ≡ token.Keyword keyword.With ∷ us
unfolding after
after_with_is ts us e = after_is (mark.Keyword keyword.With) ts us e

pub colon_is : (ts : List Token) (u : Unit {0}) → colon_of ts ≡ Some u → ts ≡ colon
unfolding after
colon_is (token.Operator operator.Colon ∷ []) u e = refl
colon_is _ u e = cc

pub quiet_colon : Quiet colon
unfolding operation_at after
quiet_colon = (refl, refl, refl, refl)

pub quiet_assign : (ts : List Token) → Quiet (token.Operator operator.Assign ∷ ts)
unfolding operation_at after
quiet_assign ts = (refl, refl, refl, refl)

mark_is : (mark : Operator) (ts : List Token) (x : BinOp × List Token) → augmenting_at (token.Operator mark ∷ ts) ≡ Some x
    → (token.Operator mark ∷ ts ≡ token.Operator mark ∷ x.1) × (augmenting mark ≡ Some x.0)
mark_is mark ts x h =
    let (op, a, b) = made_is (augmenting mark) (λ j. (j, ts)) x h in
    (ap (λ (y : BinOp × List Token). token.Operator mark ∷ y.1) b, a ∙ ap (λ (y : BinOp × List Token). Some y.0) b)

pub augmenting_at_is : (ts : List Token) (x : BinOp × List Token) → augmenting_at ts ≡ Some x
    → (mark : Operator) × (ts ≡ token.Operator mark ∷ x.1) × (augmenting mark ≡ Some x.0)
augmenting_at_is (token.Operator mark ∷ ts) x e = let (a, b) = mark_is mark ts x e in (mark, a, b)
augmenting_at_is _ x e = absurd cc

-- the operator of an assignment goes on with no expression
pub quiet_mark : (mark : Operator) (op : BinOp) (ts : List Token) → augmenting mark ≡ Some op → Quiet (token.Operator mark ∷ ts) × (after_assign (token.Operator mark ∷ ts) ≡ None)
unfolding operation_at after
quiet_mark operator.PlusAssign op ts h = ((refl, refl, refl, refl), refl)
quiet_mark operator.MinusAssign op ts h = ((refl, refl, refl, refl), refl)
quiet_mark operator.TimesAssign op ts h = ((refl, refl, refl, refl), refl)
quiet_mark operator.FloorDivideAssign op ts h = ((refl, refl, refl, refl), refl)
quiet_mark operator.ModuloAssign op ts h = ((refl, refl, refl, refl), refl)
quiet_mark operator.AndAssign op ts h = ((refl, refl, refl, refl), refl)
quiet_mark operator.OrAssign op ts h = ((refl, refl, refl, refl), refl)
quiet_mark operator.XorAssign op ts h = ((refl, refl, refl, refl), refl)
quiet_mark operator.ShiftLeftAssign op ts h = ((refl, refl, refl, refl), refl)
quiet_mark operator.ShiftRightAssign op ts h = ((refl, refl, refl, refl), refl)
quiet_mark _ op ts h = absurd (not_some h)
