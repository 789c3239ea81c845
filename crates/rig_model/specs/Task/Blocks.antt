-- Statements with blocks, and the marks that these leave (the language reference, 8).
use Rattle.std.specs.Prelude.{ℕ, zero, Bool, true, false, List, [], ◌∷◌, ◌++◌, None, Some, Ok, Err, ℤ, pos, negsuc, ◌+ℤ◌, int_lt}
use Rattle.py_value.specs.Integer.Integer.{held}
use Rattle.py_syntax.specs.ExpressionTrees.{Tree}
use Rattle.py_syntax.specs.StatementTrees.{Span, Stop, StartStop, StartStopStep, Constants}
use Rattle.py_syntax.specs.declared.fault_kind.FaultKind.TheVariants.{TypeError, ValueError}
use Rattle.py_value.specs.Answer.{Answer, and_then}
use Rattle.py_value.specs.Trigger as trigger
use Rattle.py_value.specs.Truth.{truth}
use Rattle.py_value.specs.declared.trigger.LockNo.{LockNo}
use Rattle.py_value.specs.declared.value.Value.{Value}
use Rattle.py_value.specs.declared.value.Value.TheVariants as value
use Rattle.py_value.specs.Operator.Number.{Number, known, none, number_of, one_number, two_numbers, whole}
use Rattle.py_evaluate.specs.Attribute.Outcome.{Outcome, Scope, gives, lift, bind}
use Rattle.py_evaluate.specs.Function.Making.{new_trigger}
use Rattle.py_evaluate.specs.Eval.{constant_value, eval}
use Rattle.test_meaning.specs.Body.BodyTrees.{Item, Simple, If, While, For, Try, With, Block}
use Rattle.rig_model.specs.Task.Frame.{Left, Numbers, Listed, Todo, Do, Again, Each, Uses, Handles, Bound, Holds, Enters, items}
use Rattle.rig_model.specs.Task.Moves.{At, Move, go_on, want, first_do, named, with_value, with_eval, with_answer}
use Rattle.rig_model.specs.Task.Awaits.{waits}
use Rattle.rig_model.specs.Task.Statements.{do_statement}
use Rattle.rig_model.specs.declared.task.task.Turned.TheVariants as turned

-- ---- conditions (8.1 and 8.2)

abbrev pub choose : Bool → List Todo → List Todo → At → Move
choose true ts us a = go_on (first_do ts a)
choose false ts us a = go_on (first_do us a)

-- a condition, what is done where it holds, and what where it doesn't
abbrev pub ask : Tree → List Todo → List Todo → At → Move
ask e ts us a = with_eval a e (λ v b. choose (truth v) ts us b)

-- ---- what a `for` goes over (8.3)

-- the numbers of `range(start, stop, step)`, whose step isn't 0
abbrev pub numbers : ℤ → ℤ → ℤ → Answer Left
numbers start stop (pos zero) = Err ValueError
numbers start stop step = Ok (Numbers start stop step)

-- three operands: a kind without a number comes before an unknown digit
abbrev pub three_numbers : Number → Number → Number → Answer (ℤ × ℤ × ℤ)
three_numbers none b c = Err TypeError
three_numbers a none c = Err TypeError
three_numbers a b none = Err TypeError
three_numbers (known a) (known b) (known c) = Ok (a, b, c)
three_numbers _ _ _ = Err ValueError

abbrev pub eval_span : Scope → Span → ℕ → Outcome Left
eval_span s (Stop e) k = bind (eval s e k) (λ x j. lift (and_then (one_number x) (λ n. numbers (pos 0) n (pos 1))) j)
eval_span s (StartStop e f) k =
    bind (eval s e k) (λ x j. bind (eval s f j) (λ y i. lift (and_then (two_numbers x y) (λ p. numbers p.0 p.1 (pos 1))) i))
eval_span s (StartStopStep e f g) k =
    bind (eval s e k) (λ x j. bind (eval s f j) (λ y i. bind (eval s g i) (λ z l.
    lift (and_then (three_numbers (number_of x) (number_of y) (number_of z)) (λ p. numbers p.0 p.1 p.2)) l)))
eval_span s (Constants cs) k = gives (Listed cs) k

-- ---- the questions of a `for` (8.3)

-- a number stands before the bound, in the direction of the step
abbrev pub is_before : ℤ → ℤ → ℤ → Bool
is_before z stop (pos n) = int_lt z stop
is_before z stop (negsuc n) = int_lt stop z

-- the element is assigned, and the block is done before the next question
abbrev pub each : List ℕ → Answer Value → Left → Block → At → Move
each n element left block a = with_answer a element (λ v b. go_on (named n (Some v) (first_do (items block ++ Each n left block ∷ []) b)))

-- a number that no value can hold is a fault
abbrev pub ask_number : Bool → List ℕ → ℤ → ℤ → ℤ → Block → At → Move
ask_number true n z stop step block a = each n (whole (held z)) (Numbers (z +ℤ step) stop step) block a
ask_number false n z stop step block a = go_on a

-- the next element, where there is one
abbrev pub ask_next : List ℕ → Left → Block → At → Move
ask_next n (Numbers z stop step) block a = ask_number (is_before z stop step) n z stop step block a
ask_next n (Listed []) block a = go_on a
ask_next n (Listed (c ∷ cs)) block a = each n (constant_value c) (Listed cs) block a

-- ---- `async with` (8.9.3)

abbrev pub lock_of : Value → Answer LockNo
lock_of (value.Lock l) = Ok l
lock_of _ = Err TypeError

-- the lock is acquired, by a trigger that takes its number
abbrev pub enter : Tree → Block → At → Move
enter e block a =
    with_eval a e (λ v b. with_answer b (lock_of v) (λ l c. with_value c (λ k. new_trigger c.scope.task (trigger.Lock l) k)
    (λ t d. waits t (first_do (Uses (Enters l block) ∷ []) d))))

-- ---- the first thing to do, which is taken off

abbrev pub do_item : Item → At → Move
do_item (Simple s) a = do_statement s a
do_item (If e block other) a = ask e (items block) (items other) a
do_item (While e block) a = ask e (items block ++ Again e block ∷ []) [] a
do_item (For n span block) a = with_value a (λ k. eval_span a.scope span k) (λ left b. ask_next n left block b)
do_item (Try block handlers) a = go_on (first_do (items block ++ Handles handlers ∷ []) a)
do_item (With e block) a = enter e block a

abbrev pub do_first : Todo → At → Move
do_first (Do item) a = do_item item a
do_first (Again e block) a = ask e (items block ++ Again e block ∷ []) [] a
do_first (Each n left block) a = ask_next n left block a
-- no value was given for it
do_first (Uses u) a = go_on a
do_first (Handles handlers) a = go_on a
do_first (Bound n) a = go_on (named n None a)
do_first (Holds l) a = want (turned.Release l) a
