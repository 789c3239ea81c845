-- What is done with values: names, writes to signals, and what stands on a right side (the language reference, 7.2 and 7.6; cocotb 1.8, "Writing
-- values", "Triggers"; the library reference, `random.randint`).
use Rattle.std.specs.Prelude.{ℕ, zero, suc, ◌^◌, nat_le, false, List, [], ◌∷◌, ◌++◌, Option, Some, None, Ok, Err, if◌then◌else◌, ℤ, pos, negsuc, ◌+ℤ◌, ◌-ℤ◌}
use Rattle.gpi.specs.declared.types.SigId.{SigId}
use Rattle.gpi.specs.declared.types.Write.{Write}
use Rattle.gpi.specs.declared.types.Write.TheVariants as write
use Rattle.task_queue.specs.Queues.{item_limit}
use Rattle.py_value.specs.Integer.Integer.{held, truth_number}
use Rattle.py_syntax.specs.declared.fault_kind.FaultKind.TheVariants.{AttributeError, OverflowError, TypeError, ValueError}
use Rattle.py_value.specs.Answer.{Answer, and_then, answer_map}
use Rattle.py_value.specs.declared.value.Value.{Value}
use Rattle.py_value.specs.declared.value.Value.TheVariants as value
use Rattle.py_evaluate.specs.Attribute.Look.{View, width}
use Rattle.py_evaluate.specs.Attribute.Outcome.{Outcome, Scope, gives, bind}
use Rattle.py_evaluate.specs.Eval.{eval}
use Rattle.py_value.specs.Operator.Number.{two_numbers}
use Rattle.run_view.specs.SignalPort.Written.{written_bits}
use Rattle.test_meaning.specs.Body.BodyTrees as body
use Rattle.test_meaning.specs.Body.BodyTrees.{RightSide, RightValue, RightAwait, RightStart, RandomInt, NewQueue, GetNow, WriteAction}
use Rattle.rig_model.specs.Task.Frame.{Use, Assigns, Writes, Returns, Times, Limited, Enters, Uses, Holds, Return, Has, items}
use Rattle.rig_model.specs.Task.Moves.{At, Move, Nothing, moved, go_on, leave, want, first_do, named, with_eval, with_answer}
use Rattle.rig_model.specs.Task.Calls.{with_call, starts}
use Rattle.rig_model.specs.Task.Awaits.{await, wait_limited, queue_of}
use Rattle.rig_model.specs.declared.task.task.Turned.TheVariants as turned

-- ---- writes to signals

-- the signal whose `value` is assigned
abbrev pub target_of : Value → Answer SigId
target_of (value.Signal s) = Ok s
target_of _ = Err AttributeError

-- what is to be written: a value, or an action, whose operand is a value
pub data Source : Type 0 where
  Value' : Value → Source
  Force' : Value → Source
  Freeze' : Source
  Release' : Source

-- a signal, and what is written to it
pub record Written : Type 0 where
  pub sig : SigId
  pub act : Write

-- a value as the digits that it is at the signal's width
abbrev pub act_of : View → SigId → Source → Answer Write
act_of view s (Value' v) = answer_map write.Plain (written_bits (width view s) v)
act_of view s (Force' v) = answer_map write.Force (written_bits (width view s) v)
act_of view s Freeze' = Ok write.Freeze
act_of view s Release' = Ok write.Release

abbrev pub write_of : View → Value → Source → Answer Written
write_of view target x = and_then (target_of target) (λ s. answer_map (λ act. record { sig = s; act = act }) (act_of view s x))

abbrev pub stage : Value → Source → At → Move
stage target x a = with_answer a (write_of a.scope.view target x) (λ w b. want (turned.Stage w.sig w.act) b)

abbrev pub put_now : Value → Source → At → Move
put_now target x a = with_answer a (write_of a.scope.view target x) (λ w b. want (turned.Put w.sig w.act) b)

-- the operand of an action
abbrev pub eval_action : Scope → WriteAction → ℕ → Outcome Source
eval_action s (body.Force e) k = bind (eval s e k) (λ v j. gives (Force' v) j)
eval_action s body.Freeze k = gives Freeze' k
eval_action s body.Release k = gives Release' k

-- ---- the use of a value; its mark is taken off

abbrev pub use_value : Use → Value → At → Move
use_value (Assigns n) v a = go_on (named n (Some v) a)
-- the right side is evaluated before its target
use_value (Writes e) v a = with_eval a e (λ target b. stage target (Value' v) b)
use_value Returns v a = leave (Return v) a
use_value (Times steps) (value.Task t) a = wait_limited steps (value.Task t) (first_do (Uses (Limited t) ∷ []) a)
-- what a start gives is a task, and nothing else
use_value (Times steps) _ a = go_on a
-- what the task gave is what the `await` gives
use_value (Limited t) v a = moved a (Has v) Nothing
use_value (Enters l block) v a = go_on (first_do (items block ++ Holds l ∷ []) a)

-- ---- `random.randint`

-- how many numbers a draw may have to choose from
abbrev pub span_limit : ℕ
span_limit = 2 ^ 32

-- so many numbers: at least one
abbrev pub span_of : ℤ → Answer ℕ
span_of (pos zero) = Err ValueError
span_of (pos (suc n)) = if nat_le (suc n) span_limit then Ok (suc n) else Err ValueError
span_of (negsuc n) = Err ValueError

-- a number that a value can hold
abbrev pub whole_number : Option ℤ → Answer ℤ
whole_number (Some z) = Ok z
whole_number None = Err OverflowError

-- the least number that may be drawn, and how many there are
pub record Draw : Type 0 where
  pub low : ℤ
  pub span : ℕ

-- from one number to another, both counted; the span's faults come before those of bounds that no value can hold
abbrev pub draw_of : ℤ × ℤ → Answer Draw
draw_of p =
    and_then (span_of (p.1 -ℤ p.0 +ℤ pos 1)) (λ n. and_then (whole_number (held p.1)) (λ high. answer_map (λ low. record { low = low; span = n }) (whole_number (held p.0))))

abbrev pub drawn : Value → Value → Answer Draw
drawn low high = and_then (two_numbers low high) draw_of

-- ---- queues (cocotb 1.8, `cocotb.queue.Queue`)

-- a whole number or a truth value; over the greatest bound it is a fault, and under 1 it means that there is none, which is 0
abbrev pub bound_of : ℤ → Answer ℕ
bound_of (negsuc n) = Ok 0
bound_of (pos n) = if nat_le n item_limit then Ok n else Err ValueError

abbrev pub queue_bound : Value → Answer ℕ
queue_bound (value.Whole z) = bound_of z
queue_bound (value.Truth b) = bound_of (truth_number b)
queue_bound _ = Err TypeError

-- ---- right sides

-- a right side, whose value is used so: in the same step where it is there, else once it is given
abbrev pub right_side : RightSide → Use → At → Move
right_side (RightValue e) u a = with_eval a e (use_value u)
right_side (RightAwait w) u a = await w (first_do (Uses u ∷ []) a)
right_side (RightStart c) u a = with_call (first_do (Uses u ∷ []) a) c (starts false)
right_side body.NewEvent u a = want turned.NewEvent (first_do (Uses u ∷ []) a)
right_side body.NewLock u a = want turned.NewLock (first_do (Uses u ∷ []) a)
right_side (NewQueue None) u a = want (turned.NewQueue 0) (first_do (Uses u ∷ []) a)
right_side (NewQueue (Some e)) u a =
    with_eval a e (λ v b. with_answer b (queue_bound v) (λ n c. want (turned.NewQueue n) (first_do (Uses u ∷ []) c)))
right_side (GetNow e) u a = with_eval a e (λ v b. with_answer b (queue_of v) (λ q c. want (turned.GetNow q) (first_do (Uses u ∷ []) c)))
right_side (RandomInt low high) u a =
    with_eval a low (λ x b. with_eval b high (λ y c. with_answer c (drawn x y) (λ d f. want (turned.Draw d.low d.span) (first_do (Uses u ∷ []) f))))
