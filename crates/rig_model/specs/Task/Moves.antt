-- The step of one call (the language reference, 7 and 8): what it leaves of the call, and what it wants.
use Rattle.std.specs.Prelude.{ℕ, List, [], ◌∷◌, ◌++◌, length, nat_lt, if◌then◌else◌, Option, None, Some, Ok, Err}
use Rattle.py_syntax.specs.ExpressionTrees.{Tree}
use Rattle.py_syntax.specs.declared.fault_kind.FaultKind.{FaultKind}
use Rattle.py_syntax.specs.declared.fault_kind.FaultKind.TheVariants.{OverflowError}
use Rattle.py_value.specs.Answer.{Answer, plain_fault}
use Rattle.py_value.specs.Limits.{text_limit}
use Rattle.py_value.specs.Shown.{shown}
use Rattle.py_value.specs.declared.value.Value.{Value}
use Rattle.py_evaluate.specs.Attribute.Outcome.{Outcome, Scope, gives, lift, bind}
use Rattle.py_evaluate.specs.Eval.{eval}
use Rattle.rig_model.specs.Task.Frame.{Frame, Todo, Jump, Throw, Course, On, Leaves, with_local}
use Rattle.rig_model.specs.declared.task.task.Turned.{Turned}

-- what a call wants: nothing, something of the runner, another call, or to end
pub data Wish : Type 0 where
  Nothing : Wish
  Asks : Turned → Wish
  Calls : ℕ → List Value → Wish
  Ends : Jump → Wish

-- the call after the step, the number of the task's next trigger, and what is wanted
pub record Move : Type 0 where
  pub frame : Frame
  pub next : ℕ
  pub wish : Wish

-- where the first thing to do is done: it is taken off, and `rest` stands behind it
pub record At : Type 0 where
  pub scope : Scope
  pub rest : List Todo
  pub next : ℕ

-- ---- how a step ends

abbrev pub moved : At → Course → Wish → Move
moved a course wish = record { frame = record { names = a.scope.names; course = course; todo = a.rest }; next = a.next; wish = wish }

abbrev pub go_on : At → Move
go_on a = moved a On Nothing

abbrev pub leave : Jump → At → Move
leave jump a = moved a (Leaves jump) Nothing

abbrev pub raise : FaultKind → At → Move
raise kind a = leave (Throw (plain_fault kind)) a

abbrev pub want : Turned → At → Move
want t a = moved a On (Asks t)

-- ---- what is changed on the way

-- these are to be done first
abbrev pub first_do : List Todo → At → At
first_do ts a = record a { rest = ts ++ a.rest }

abbrev pub named : List ℕ → Option Value → At → At
named n v a = record a { scope = record a.scope { names = with_local a.scope.names n v } }

-- ---- evaluations on the way: a fault is raised, and a value is handed on

abbrev pub answered : {A : Type 0} → Answer A → At → (A → At → Move) → Move
answered (Ok v) a f = f v a
answered (Err kind) a f = raise kind a

abbrev pub outcome : {A : Type 0} → Outcome A → At → (A → At → Move) → Move
outcome o a f = answered o.answer (record a { next = o.next }) f

abbrev pub with_value : {A : Type 0} → At → (ℕ → Outcome A) → (A → At → Move) → Move
with_value a o f = outcome (o a.next) a f

abbrev pub with_eval : At → Tree → (Value → At → Move) → Move
with_eval a e f = with_value a (λ k. eval a.scope e k) f

abbrev pub with_answer : {A : Type 0} → At → Answer A → (A → At → Move) → Move
with_answer a r f = with_value a (λ k. lift r k) f

-- the values of some expressions, from left to right
abbrev pub eval_all : Scope → List Tree → ℕ → Outcome (List Value)
eval_all s [] k = gives [] k
eval_all s (e ∷ es) k = bind (eval s e k) (λ v j. bind (eval_all s es j) (λ vs i. gives (v ∷ vs) i))

-- the value of an expression, where there is one
abbrev pub eval_some : Scope → Option Tree → ℕ → Outcome (Option Value)
eval_some s None k = gives None k
eval_some s (Some e) k = bind (eval s e k) (λ v j. gives (Some v) j)

-- ---- texts that statements make of values

-- a text that no value could hold is a fault
abbrev pub short_text : List ℕ → Answer (List ℕ)
short_text bs = if nat_lt text_limit (length bs) then Err OverflowError else Ok bs

-- the text that a fault says: the expression as it is shown, or nothing where there is none
abbrev pub eval_text : Scope → Option Tree → ℕ → Outcome (List ℕ)
eval_text s None k = gives [] k
eval_text s (Some e) k = bind (eval s e k) (λ v j. lift (short_text (shown s.view.places v)) j)
