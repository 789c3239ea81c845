-- Statements of one line (the language reference, 7; cocotb 1.8, "Writing values", "Triggers", "Logging").
use Rattle.std.specs.Prelude.{ℕ, ◌==◌, Bool, true, false, List, [], ◌∷◌, ◌++◌, map, Option, None, Some, Ok, Err}
use Rattle.py_syntax.specs.ExpressionTrees.{Tree, Name, Infix}
use Rattle.py_syntax.specs.declared.expression.Operation.TheVariants.{Binary}
use Rattle.py_syntax.specs.declared.fault_kind.FaultKind.TheVariants.{AssertionError, AttributeError}
use Rattle.py_syntax.specs.declared.fault_kind.FaultKind.{FaultKind}
use Rattle.py_syntax.specs.declared.statement.Action.{Action}
use Rattle.py_syntax.specs.declared.statement.Action.TheVariants as action
use Rattle.py_syntax.specs.declared.statement.LogLevel.{LogLevel}
use Rattle.py_value.specs.Answer.{Answer}
use Rattle.py_value.specs.Places.{Places}
use Rattle.py_value.specs.Shown.{shown}
use Rattle.py_value.specs.Truth.{truth}
use Rattle.py_value.specs.declared.value.Value.{Value}
use Rattle.py_value.specs.declared.value.Value.TheVariants as value
use Rattle.py_evaluate.specs.Attribute.Outcome.{Outcome, Scope, gives, lift, bind}
use Rattle.py_evaluate.specs.Eval.{eval}
use Rattle.test_meaning.specs.Body.BodyTrees as body
use Rattle.test_meaning.specs.Body.BodyTrees.{Logger, CocotbLog, HierarchyLog, Statement}
use Rattle.rig_model.specs.Task.Frame.{Assigns, Writes, Returns, Throw, Return, Break, Continue}
use Rattle.rig_model.specs.Task.Moves.{At, Move, go_on, leave, want, with_value, with_eval, with_answer, eval_all, eval_text, short_text}
use Rattle.rig_model.specs.Task.Calls.{with_call, starts}
use Rattle.rig_model.specs.Task.Awaits.{await, queue_of}
use Rattle.rig_model.specs.Task.Values.{Value', stage, put_now, eval_action, right_side}
use Rattle.rig_model.specs.declared.task.task.Turned.{Turned}
use Rattle.rig_model.specs.declared.task.task.Turned.TheVariants as turned

-- ---- methods that act

-- `set()` and `clear()` of an event, `release()` of a lock, `kill()` of a task
abbrev pub act_of : Action → Value → Answer Turned
act_of action.Set (value.Event e) = Ok (turned.SetEvent e)
act_of action.Clear (value.Event e) = Ok (turned.ClearEvent e)
act_of action.Release (value.Lock l) = Ok (turned.Release l)
act_of action.Kill (value.Task t) = Ok (turned.Kill t)
act_of _ _ = Err AttributeError

-- ---- faults that are raised by hand

abbrev pub throw_text : FaultKind → Option Tree → At → Move
throw_text kind e a = with_value a (λ k. eval_text a.scope e k) (λ text b. leave (Throw (record { kind = kind; text = text })) b)

-- what an `assert` says is evaluated only where its condition is false
abbrev pub asserted : Bool → Option Tree → At → Move
asserted true e a = go_on a
asserted false e a = throw_text AssertionError e a

-- ---- log statements

-- the byte `%`
abbrev pub percent : ℕ
percent = 37

-- at a byte that is `%` the first of the texts stands in its place and that of the byte behind it, where there is one; another byte stays
abbrev pub filled_at : Bool → ℕ → List (List ℕ) → (Bool → List (List ℕ) → List ℕ) → List ℕ
filled_at true b (t ∷ ts) more = t ++ more true ts
filled_at true b [] more = b ∷ more false []
filled_at false b ts more = b ∷ more false ts

-- a text with these in the places of its `%s`, in order; no other `%` is in it; where a `%` was passed, the byte behind it is left out
abbrev pub filled : Bool → List ℕ → List (List ℕ) → List ℕ
filled passed [] ts = []
filled true (b ∷ bs) ts = filled false bs ts
filled false (b ∷ bs) ts = filled_at (b == percent) b ts (λ passed us. filled passed bs us)

-- what a log statement writes: one value as it is shown, or a text with values for its `%s`
abbrev pub log_text : Places → Value → List Value → List ℕ
log_text places v [] = shown places v
log_text places v (w ∷ ws) = filled false (shown places v) (map (shown places) (w ∷ ws))

-- `_log` is asked of a hierarchy
abbrev pub logged_for : Value → Answer Value
logged_for (value.Place n) = Ok (value.Place n)
logged_for _ = Err AttributeError

-- what a line is logged for; it isn't written
abbrev pub eval_logger : Scope → Logger → ℕ → Outcome Value
eval_logger s CocotbLog k = gives value.Absent k
eval_logger s (HierarchyLog e) k = bind (eval s e k) (λ v j. lift (logged_for v) j)

abbrev pub log : Logger → LogLevel → Tree → List Tree → At → Move
log logger level e es a =
    with_value a (λ k. eval_logger a.scope logger k) (λ _ b. with_eval b e (λ v c. with_value c (λ k. eval_all c.scope es k)
    (λ vs d. with_answer d (short_text (log_text d.scope.view.places v vs)) (λ text f. want (turned.Log level text) f))))

-- ---- a statement, which is taken off

abbrev pub do_statement : Statement → At → Move
do_statement body.Pass a = go_on a
do_statement body.Break a = leave Break a
do_statement body.Continue a = leave Continue a
do_statement (body.Return None) a = leave (Return value.Absent) a
do_statement (body.Return (Some s)) a = right_side s Returns a
do_statement (body.Raise kind e) a = throw_text kind e a
do_statement (body.Assert c e) a = with_eval a c (λ v b. asserted (truth v) e b)
do_statement (body.Assign n s) a = right_side s (Assigns n) a
-- `n += e` is `n = n + e`
do_statement (body.AugmentedAssign n o e) a = right_side (body.RightValue (Infix (Binary o) (Name n) e)) (Assigns n) a
do_statement (body.AssignValue e s) a = right_side s (Writes e) a
do_statement (body.SetImmediateValue e v) a = with_eval a e (λ target b. with_eval b v (λ w c. put_now target (Value' w) c))
do_statement (body.Await w) a = await w a
do_statement (body.Act e act) a = with_eval a e (λ v b. with_answer b (act_of act v) want)
do_statement (body.Log logger level e es) a = log logger level e es a
do_statement (body.StartSoon c) a = with_call a c (starts false)
do_statement (body.PutNow e x) a = with_eval a e (λ v b. with_eval b x (λ item c. with_answer c (queue_of v) (λ q d. want (turned.PutNow q item) d)))
-- the action is evaluated before its target
do_statement (body.AssignAction e w) a = with_value a (λ k. eval_action a.scope w k) (λ x b. with_eval b e (λ target c. stage target x c))
do_statement (body.SetImmediateAction e w) a =
    with_eval a e (λ target b. with_value b (λ k. eval_action b.scope w k) (λ x c. put_now target x c))
