-- The names of kinds of faults, and which operators an assignment may have before its `=` (the library reference, "Built-in Exceptions";
-- the language reference, 7.2.1).
use Rattle.std.specs.Prelude.{ℕ, List, [], ◌∷◌, Option, Some, None, find, codes}
use Rattle.std.specs.Str.{bytes_eq}
use Rattle.py_syntax.specs.declared.operator.Operator.{Operator}
use Rattle.py_syntax.specs.declared.operator.Operator.TheVariants as operator
use Rattle.py_syntax.specs.declared.expression.BinOp.{BinOp}
use Rattle.py_syntax.specs.declared.expression.BinOp.TheVariants as binary
use Rattle.py_syntax.specs.declared.fault_kind.FaultKind.{FaultKind}
use Rattle.py_syntax.specs.declared.fault_kind.FaultKind.TheVariants as kind
use Rattle.py_syntax.specs.declared.statement.Action.{Action}
use Rattle.py_syntax.specs.declared.statement.Action.TheVariants as action
use Rattle.py_syntax.specs.declared.statement.LogLevel.{LogLevel}
use Rattle.py_syntax.specs.declared.statement.LogLevel.TheVariants as level

abbrev pub fault_name : FaultKind → List ℕ
fault_name kind.AssertionError = codes "AssertionError"
fault_name kind.AttributeError = codes "AttributeError"
fault_name kind.IndexError = codes "IndexError"
fault_name kind.OverflowError = codes "OverflowError"
fault_name kind.QueueEmpty = codes "QueueEmpty"
fault_name kind.QueueFull = codes "QueueFull"
fault_name kind.RuntimeError = codes "RuntimeError"
fault_name kind.SimTimeoutError = codes "SimTimeoutError"
fault_name kind.TriggerException = codes "TriggerException"
fault_name kind.TypeError = codes "TypeError"
fault_name kind.UnboundLocalError = codes "UnboundLocalError"
fault_name kind.ValueError = codes "ValueError"
fault_name kind.ZeroDivisionError = codes "ZeroDivisionError"
fault_name kind.Exception = codes "Exception"

abbrev pub kinds : List FaultKind
kinds = kind.AssertionError ∷ kind.AttributeError ∷ kind.IndexError ∷ kind.OverflowError ∷ kind.QueueEmpty ∷ kind.QueueFull ∷ kind.RuntimeError ∷ kind.SimTimeoutError ∷ kind.TriggerException ∷ kind.TypeError ∷ kind.UnboundLocalError ∷ kind.ValueError ∷ kind.ZeroDivisionError ∷ kind.Exception ∷ []

-- the kind of this name
unfoldable pub fault_of : List ℕ → Option FaultKind
fault_of name = find (λ k. bytes_eq (fault_name k) name) kinds

abbrev pub action_name : Action → List ℕ
action_name action.Set = codes "set"
action_name action.Clear = codes "clear"
action_name action.Release = codes "release"
action_name action.Kill = codes "kill"

abbrev pub level_name : LogLevel → List ℕ
level_name level.Info = codes "info"
level_name level.Warning = codes "warning"
level_name level.Error = codes "error"

-- the operator before the `=` of an assignment
abbrev pub augmenting : Operator → Option BinOp
augmenting operator.PlusAssign = Some binary.Add
augmenting operator.MinusAssign = Some binary.Subtract
augmenting operator.TimesAssign = Some binary.Multiply
augmenting operator.FloorDivideAssign = Some binary.FloorDivide
augmenting operator.ModuloAssign = Some binary.Modulo
augmenting operator.AndAssign = Some binary.BitAnd
augmenting operator.OrAssign = Some binary.BitOr
augmenting operator.XorAssign = Some binary.BitXor
augmenting operator.ShiftLeftAssign = Some binary.ShiftLeft
augmenting operator.ShiftRightAssign = Some binary.ShiftRight
augmenting _ = None
