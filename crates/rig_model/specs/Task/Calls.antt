-- Calls of functions, and starts of clocks, with their arguments (the language reference, 6.3.4; cocotb 1.8, `cocotb.clock.Clock.start`).
use Rattle.std.specs.Prelude.{ℕ, suc, ◌==◌, Bool, true, List, [], ◌∷◌, Ok, Err, if◌then◌else◌, pos}
use Rattle.py_syntax.specs.declared.fault_kind.FaultKind.TheVariants.{AttributeError}
use Rattle.py_value.specs.Answer.{Answer}
use Rattle.py_value.specs.Truth.{truth}
use Rattle.py_value.specs.declared.value.Value.{Value}
use Rattle.py_value.specs.declared.value.Value.TheVariants as value
use Rattle.py_evaluate.specs.Attribute.Outcome.{Outcome, Scope, gives, lift, bind}
use Rattle.py_value.specs.Integer.Integer.{truth_number}
use Rattle.py_evaluate.specs.Eval.{eval}
use Rattle.test_meaning.specs.Body.BodyTrees.{Operand, Call, FunctionCall, ClockStart, QueuePut, QueueGet}
use Rattle.rig_model.specs.Task.Moves.{At, Move, want, with_value}
use Rattle.rig_model.specs.declared.task.task.Turned.TheVariants as turned

-- ---- arguments

-- an operand's value, and the number of the parameter that it is for
pub record Argument : Type 0 where
  pub parameter : ℕ
  pub value : Value

-- the values of operands, from left to right
abbrev pub eval_operands : Scope → List Operand → ℕ → Outcome (List Argument)
eval_operands s [] k = gives [] k
eval_operands s (o ∷ os) k =
    bind (eval s o.value k) (λ v j. bind (eval_operands s os j) (λ xs i. gives (record { parameter = o.parameter; value = v } ∷ xs) i))

-- what the parameter of this number is given, or the other value where it is given nothing
abbrev pub argument : ℕ → Value → List Argument → Value
argument n other [] = other
argument n other (x ∷ xs) = if x.parameter == n then x.value else argument n other xs

-- in the order of the parameters, from the n-th on; there are as many parameters as operands
abbrev pub arguments : ℕ → List Operand → List Argument → List Value
arguments n [] xs = []
arguments n (o ∷ os) xs = argument n value.Absent xs ∷ arguments (suc n) os xs

-- What a clock's task is given: the signal, half of the period, the digit that is written first, and how many cycles there are. Of what is
-- started, parameter 0 is `cycles`, which is None where it isn't given, and parameter 1 `start_high`, which is True then.
abbrev pub clock_arguments : Value → List Argument → Answer (List Value)
clock_arguments (value.Clock sig half) xs =
    Ok (value.Signal sig ∷ value.Whole (pos half) ∷ value.Whole (truth_number (truth (argument 1 (value.Truth true) xs))) ∷ argument 0 value.Absent xs ∷ [])
clock_arguments _ xs = Err AttributeError

-- what a put or a get is given: the queue, and these
abbrev pub queue_arguments : Value → List Value → Answer (List Value)
queue_arguments (value.Queue q) vs = Ok (value.Queue q ∷ vs)
queue_arguments _ vs = Err AttributeError

-- ---- calls

-- the number of a function, and what it is called with
pub record Called : Type 0 where
  pub function : ℕ
  pub arguments : List Value

abbrev pub calls : ℕ → List Value → Called
calls n vs = record { function = n; arguments = vs }

-- all operands are evaluated before it is asked whether there is a clock
abbrev pub eval_call : Scope → Call → ℕ → Outcome Called
eval_call s (FunctionCall n os) k = bind (eval_operands s os k) (λ xs j. gives (calls n (arguments 0 os xs)) j)
-- a queue that is put into, and the item
eval_call s (QueuePut n e x) k =
    bind (eval s e k) (λ q j. bind (eval s x j) (λ v i. bind (lift (queue_arguments q (v ∷ [])) i) (λ vs l. gives (calls n vs) l)))
eval_call s (QueueGet n e) k = bind (eval s e k) (λ q j. bind (lift (queue_arguments q []) j) (λ vs i. gives (calls n vs) i))
eval_call s (ClockStart n e os) k =
    bind (eval s e k) (λ c j. bind (eval_operands s os j) (λ xs i. bind (lift (clock_arguments c xs) i) (λ vs l. gives (calls n vs) l)))

abbrev pub with_call : At → Call → (Called → At → Move) → Move
with_call a c f = with_value a (λ k. eval_call a.scope c k) f

-- a task of the call is started; with `give_way` it runs before this one goes on
abbrev pub starts : Bool → Called → At → Move
starts give_way c a = want (turned.Start c.function c.arguments give_way) a
