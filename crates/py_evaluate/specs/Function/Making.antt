-- Triggers that an evaluation makes, with their numbers (cocotb 1.8, "Triggers").
use Rattle.std.specs.Prelude.{ℕ, suc, ◌^◌, nat_lt, Bool, true, false, List, [], ◌∷◌, Ok, Err, if◌then◌else◌}
use Rattle.std.specs.List.{list_all}
use Rattle.py_syntax.specs.declared.fault_kind.FaultKind.TheVariants.{RuntimeError, TypeError, ValueError}
use Rattle.py_value.specs.Answer.{Answer}
use Rattle.py_value.specs.Trigger.{Trig, Made, Form, Trigs, NoTrig, Then, Join, is_small}
use Rattle.py_value.specs.declared.trigger.TaskNo.{TaskNo}
use Rattle.py_value.specs.declared.value.Value.{Value}
use Rattle.py_value.specs.declared.value.Value.TheVariants as value
use Rattle.py_evaluate.specs.Attribute.Outcome.{Outcome, gives, refuses, bind}

-- how many triggers a task may make
abbrev pub trigger_limit : ℕ
trigger_limit = 2 ^ 63

-- a new trigger takes the next number
abbrev pub new_trigger : TaskNo → Form → ℕ → Outcome Trig
new_trigger task form k =
    if nat_lt k trigger_limit then gives (Made (record { task = task; number = k }) form) (suc k) else refuses RuntimeError k

-- one that holds others keeps within the limits of leaves and depth
abbrev pub new_tree : TaskNo → Form → ℕ → Outcome Trig
new_tree task form k = if is_small form then new_trigger task form k else refuses ValueError k

abbrev pub trigger_value : Outcome Trig → Outcome Value
trigger_value o = bind o (λ t k. gives (value.Trigger t) k)

-- a new trigger of this form, as a value, or why there is no such form
abbrev pub new_value : TaskNo → Answer Form → ℕ → Outcome Value
new_value task (Ok form) k = trigger_value (new_trigger task form k)
new_value task (Err kind) k = refuses kind k

abbrev pub is_waitable : Value → Bool
is_waitable (value.Trigger t) = true
is_waitable (value.Task t) = true
is_waitable _ = false

-- the trigger that a value is; a task is its join
abbrev pub as_trigger : TaskNo → Value → ℕ → Outcome Trig
as_trigger task (value.Trigger t) k = gives t k
as_trigger task (value.Task t) k = new_trigger task (Join t) k
as_trigger task _ k = refuses TypeError k

-- the triggers that values are, from left to right
abbrev pub as_triggers : TaskNo → List Value → ℕ → Outcome Trigs
as_triggers task [] k = gives NoTrig k
as_triggers task (v ∷ vs) k = bind (as_trigger task v k) (λ t j. bind (as_triggers task vs j) (λ ts i. gives (Then t ts) i))

-- their kinds are looked at first
abbrev pub parts : TaskNo → List Value → ℕ → Outcome Trigs
parts task vs k = if list_all is_waitable vs then as_triggers task vs k else refuses TypeError k

-- a trigger that holds those that values are
abbrev pub several : TaskNo → (Trigs → Form) → List Value → ℕ → Outcome Value
several task form vs k = trigger_value (bind (parts task vs k) (λ ts j. new_tree task (form ts) j))
