-- A means of proof: what is true of each trigger in a value, those inside others among them, by its task and its number, for the proofs of
-- evaluation.
use Rattle.std.specs.Prelude.{ℕ, ◌<◌, ◌≤◌, ◌==◌, ◌||◌, not, nat_lt, Bool, IsTrue, List, Option, Some, None}
use Rattle.py_value.specs.Trigger.{Trig, Made, Form, Trigs, NoTrig, Then, First, Combine, Limit}
use Rattle.py_value.specs.declared.trigger.TaskNo.{TaskNo}
use Rattle.py_value.specs.declared.trigger.TrigId.{TrigId}
use Rattle.py_value.specs.declared.value.Value.{Value}
use Rattle.py_value.specs.declared.value.Value.TheVariants.{Trigger}
use Rattle.py_evaluate.specs.Attribute.Look.{Names, local}

abbrev mutual
  pub EachTrig : (TrigId → Bool) → Trig → Type 0
  EachTrig test (Made id form) = IsTrue (test id) × EachForm test form

  pub EachForm : (TrigId → Bool) → Form → Type 0
  EachForm test (First ts) = EachOf test ts
  EachForm test (Combine ts) = EachOf test ts
  EachForm test (Limit ts steps) = EachOf test ts
  EachForm test _ = Unit {0}

  pub EachOf : (TrigId → Bool) → Trigs → Type 0
  EachOf test NoTrig = Unit {0}
  EachOf test (Then t ts) = EachTrig test t × EachOf test ts

abbrev pub Each : (TrigId → Bool) → Value → Type 0
Each test (Trigger t) = EachTrig test t
Each test _ = Unit {0}

abbrev pub EachOption : (TrigId → Bool) → Option Value → Type 0
EachOption test (Some v) = Each test v
EachOption test None = Unit {0}

-- of the values of all names
abbrev pub EachName : (TrigId → Bool) → Names → Type 0
EachName test names = (n : List ℕ) → EachOption test (local names n)

-- of the triggers of a task whose numbers are k and more, but below j
abbrev pub EachNumber : (TrigId → Bool) → TaskNo → ℕ → ℕ → Type 0
EachNumber test task k j = (n : ℕ) → k ≤ n → n < j → IsTrue (test (record { task = task; number = n }))

-- a trigger of this task has a number below this one
abbrev pub is_below : TaskNo → ℕ → TrigId → Bool
is_below task k id = not (id.task.0 == task.0) || nat_lt id.number k
