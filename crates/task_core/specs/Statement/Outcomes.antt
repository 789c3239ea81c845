-- A means of proof: what statements evaluate, each as one outcome.
use Rattle.std.specs.Prelude.{ℕ, Bool, List, Option, None, Some}
use Rattle.py_syntax.specs.ExpressionTrees.{Tree}
use Rattle.py_syntax.specs.declared.statement.Action.{Action}
use Rattle.py_value.specs.Answer.{answer_map}
use Rattle.py_value.specs.Truth.{truth}
use Rattle.py_value.specs.declared.trigger.QueueNo.{QueueNo}
use Rattle.py_value.specs.declared.value.Value.{Value}
use Rattle.py_evaluate.specs.Attribute.Outcome.{Outcome, Scope, gives, lift, bind}
use Rattle.py_evaluate.specs.Eval.{eval}
use Rattle.test_meaning.specs.Body.BodyTrees.{Logger, CocotbLog, HierarchyLog, WriteAction}
use Rattle.rig_model.specs.Task.Moves.{eval_all, short_text}
use Rattle.rig_model.specs.Task.Statements.{act_of, log_text, logged_for}
use Rattle.rig_model.specs.Task.Awaits.{queue_of}
use Rattle.rig_model.specs.Task.Values.{Draw, Source, Value', Written, drawn, eval_action, queue_bound, write_of}
use Rattle.rig_model.specs.declared.task.task.Turned.{Turned}
use Rattle.task_core.specs.declared.statement.evaluations.QueuePut as put

-- whether a condition holds
abbrev pub eval_truth : Scope → Tree → ℕ → Outcome Bool
eval_truth s e k = bind (eval s e k) (λ v j. gives (truth v) j)

-- a write whose value or action is there: the signal is evaluated
abbrev pub eval_stage : Scope → Tree → Source → ℕ → Outcome Written
eval_stage s e x k = bind (eval s e k) (λ target j. lift (write_of s.view target x) j)

-- an action, and then the signal
abbrev pub eval_stage_action : Scope → Tree → WriteAction → ℕ → Outcome Written
eval_stage_action s e w k = bind (eval_action s w k) (λ x j. eval_stage s e x j)

-- a write that is done at once: the signal, and then the value
abbrev pub eval_put : Scope → Tree → Tree → ℕ → Outcome Written
eval_put s e v k = bind (eval s e k) (λ target j. bind (eval s v j) (λ w i. lift (write_of s.view target (Value' w)) i))

-- the signal, and then the action
abbrev pub eval_put_action : Scope → Tree → WriteAction → ℕ → Outcome Written
eval_put_action s e w k = bind (eval s e k) (λ target j. bind (eval_action s w j) (λ x i. lift (write_of s.view target x) i))

-- what a method that acts asks for
abbrev pub eval_act : Scope → Tree → Action → ℕ → Outcome Turned
eval_act s e act k = bind (eval s e k) (λ v j. lift (act_of act v) j)

-- the numbers of which one is drawn
abbrev pub eval_draw : Scope → Tree → Tree → ℕ → Outcome Draw
eval_draw s low high k = bind (eval s low k) (λ x j. bind (eval s high j) (λ y i. lift (drawn x y) i))

-- a queue
abbrev pub eval_queue : Scope → Tree → ℕ → Outcome QueueNo
eval_queue s e k = bind (eval s e k) (λ v j. lift (queue_of v) j)

-- the bound of a queue, which is none where it isn't given
abbrev pub eval_bound : Scope → Option Tree → ℕ → Outcome ℕ
eval_bound s None k = gives 0 k
eval_bound s (Some e) k = bind (eval s e k) (λ v j. lift (queue_bound v) j)

-- an item, and the queue that it is put into
pub record QueuePut : Type 0 where
  pub queue : QueueNo
  pub item : Value

-- the queue, and then the item
abbrev pub eval_queue_put : Scope → Tree → Tree → ℕ → Outcome QueuePut
eval_queue_put s e x k =
    bind (eval s e k) (λ v j. bind (eval s x j) (λ item i. bind (lift (queue_of v) i) (λ q l. gives (record { queue = q; item = item }) l)))

abbrev pub queue_put_in : put.QueuePut → QueuePut
queue_put_in p = record { queue = p.queue; item = p.item }

-- that there is something to log a line for
abbrev pub eval_logged : Scope → Logger → ℕ → Outcome Unit
eval_logged s CocotbLog k = gives tt k
eval_logged s (HierarchyLog e) k = bind (eval s e k) (λ v j. lift (answer_map (λ _. tt) (logged_for v)) j)

-- the text of a log statement
abbrev pub eval_log : Scope → Logger → Tree → List Tree → ℕ → Outcome (List ℕ)
eval_log s logger e es k =
    bind (eval_logged s logger k) (λ _ j. bind (eval s e j) (λ v i. bind (eval_all s es i) (λ vs l. lift (short_text (log_text s.view.places v vs)) l)))
