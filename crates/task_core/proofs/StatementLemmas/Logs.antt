-- A log statement is one evaluation, and then its line.
use Rattle.std.proofs.Common.{◌≡◌, ℕ, List, Ok, Err, refl, ◌∙◌}
use Rattle.py_syntax.specs.ExpressionTrees.{Tree}
use Rattle.py_syntax.specs.declared.statement.LogLevel.{LogLevel}
use Rattle.py_value.specs.Answer.{Answer, answer_map}
use Rattle.py_value.specs.declared.value.Value.{Value}
use Rattle.py_evaluate.specs.Attribute.Outcome.{after, bind, lift}
use Rattle.py_evaluate.specs.Eval.{eval}
use Rattle.test_meaning.specs.Body.BodyTrees.{Logger, CocotbLog, HierarchyLog}
use Rattle.rig_model.specs.Task.Moves.{At, Move, eval_all, outcome, short_text, want, with_answer, with_eval, with_value}
use Rattle.rig_model.specs.Task.Statements.{eval_logger, log, log_text, logged_for}
use Rattle.rig_model.specs.declared.task.task.Turned.TheVariants as turned
use Rattle.task_step.proofs.TaskValuesLemmas.Ways.{behind, step}
use Rattle.task_core.specs.Statement.Outcomes.{eval_log, eval_logged}

logged_at : (x : Answer Value) (k : ℕ) (a : At) (f : At → Move)
    → outcome (lift x k) a (λ _ b. f b) ≡ outcome (lift (answer_map (λ _. tt {0}) x) k) a (λ (_ : Unit) b. f b)
logged_at (Ok v) k a f = refl
logged_at (Err kind) k a f = refl

logger_at : (x : Answer Value) (k : ℕ) (a : At) (f : At → Move)
    → outcome (after x k (λ v j. lift (logged_for v) j)) a (λ _ b. f b)
    ≡ outcome (after x k (λ v j. lift (answer_map (λ _. tt {0}) (logged_for v)) j)) a (λ (_ : Unit) b. f b)
logger_at (Ok v) k a f = logged_at (logged_for v) k a f
logger_at (Err kind) k a f = refl

-- what it is logged for is of no account then
logger_is : (logger : Logger) (a : At) (f : At → Move)
    → with_value a (λ k. eval_logger a.scope logger k) (λ _ b. f b) ≡ with_value a (λ k. eval_logged a.scope logger k) (λ _ b. f b)
logger_is CocotbLog a f = refl
logger_is (HierarchyLog e) a f = logger_at (eval a.scope e a.next).answer (eval a.scope e a.next).next a f

pub log_is : (logger : Logger) (level : LogLevel) (e : Tree) (es : List Tree) (a : At)
    → log logger level e es a ≡ with_value a (λ k. eval_log a.scope logger e es k) (λ text f. want (turned.Log level text) f)
log_is logger level e es a =
    let last = λ (text : List ℕ) (f : At). want (turned.Log level text) f in
    let write = λ (v : Value) (vs : List Value) (d : At). with_answer d (short_text (log_text d.scope.view.places v vs)) last in
    let texts = λ (v : Value) (vs : List Value) (l : ℕ). lift (short_text (log_text a.scope.view.places v vs)) l in
    let values = λ (v : Value) (c : At). with_value c (λ k. eval_all c.scope es k) (write v) in
    logger_is logger a (λ b. with_eval b e values)
    ∙ step a (λ k. eval_logged a.scope logger k) (λ _ j. bind (eval a.scope e j) (λ v i. bind (eval_all a.scope es i) (texts v)))
    (λ _ b. with_eval b e values) last (λ x i.
    step (behind a i) (λ k. eval a.scope e k) (λ v j. bind (eval_all a.scope es j) (texts v)) values last (λ v j.
    step (behind a j) (λ k. eval_all a.scope es k) (texts v) (write v) last (λ vs l. refl)))
