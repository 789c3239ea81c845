-- A means of proof: what is printed of a value or of a fault, for the test program of evaluation.
use Rattle.std.specs.Prelude.{ℕ, ◌+◌, Bool, true, false, List, ◌++◌, codes, length, nat_lt, if◌then◌else◌, Ok, Err}
use Rattle.std.specs.Fmt.{decimal}
use Rattle.py_syntax.specs.StatementTables.{fault_name}
use Rattle.py_value.specs.Answer.{Answer}
use Rattle.py_value.specs.Shown.{shown}
use Rattle.py_value.specs.Trigger.{Trig, Made, Form, Trigs, NoTrig, Then, Time, Rise, Fall, Change, ReadWrite, ReadOnly, NextStep, Cycles, Event, Lock, Join, First, Combine, Limit}
use Rattle.py_value.specs.declared.value.Value.{Value}
use Rattle.py_value.specs.declared.value.Value.TheVariants as value
use Rattle.value_tests.specs.Expressions.Scene.{places}

-- a word, and a number in decimal digits
abbrev pub numbered : List ℕ → ℕ → List ℕ
numbered word n = word ++ (codes " " ++ decimal n)

abbrev pub edges : Bool → List ℕ
edges true = codes "rises"
edges false = codes "falls"

-- how many triggers stand in a row
abbrev pub count : Trigs → ℕ
count NoTrig = 0
count (Then t ts) = count ts + 1

-- What a trigger waits for: its signal by its number, times in steps, events, locks and tasks by their numbers. Of those that hold
-- others it is how many they hold.
abbrev pub form_text : Form → List ℕ
form_text (Time steps) = numbered (codes "time") steps
form_text (Rise sig) = numbered (codes "rise") sig.0
form_text (Fall sig) = numbered (codes "fall") sig.0
form_text (Change sig) = numbered (codes "change") sig.0
form_text ReadWrite = codes "readwrite"
form_text ReadOnly = codes "readonly"
form_text NextStep = codes "nextstep"
form_text (Cycles sig n rising) = numbered (edges rising) sig.0 ++ numbered (codes " times") n
form_text (Event event) = numbered (codes "event") event.0
form_text (Lock lock) = numbered (codes "lock") lock.0
form_text (Join task) = numbered (codes "join") task.0
form_text (First ts) = numbered (codes "first of") (count ts)
form_text (Combine ts) = numbered (codes "all of") (count ts)
form_text (Limit ts steps) = numbered (codes "limit") steps

-- what it waits for, and its own number in its task
abbrev pub trigger_text : Trig → List ℕ
trigger_text (Made id form) = form_text form ++ numbered (codes " @") id.number

-- how many bytes of a text are printed at most
abbrev pub printed_limit : ℕ
printed_limit = 200

-- a text, or how long it is
abbrev pub cropped : List ℕ → List ℕ
cropped text = if nat_lt printed_limit (length text) then decimal (length text) ++ codes " bytes" else text

-- A trigger and a clock by their parts: a clock's signal, and half its period in steps. All else as Python shows it, with a quote before
-- a text and `#` before a vector's digits.
abbrev pub printed : Value → List ℕ
printed (value.Trigger t) = trigger_text t
printed (value.Clock sig half) = numbered (codes "clock") sig.0 ++ numbered (codes " half") half
printed (value.Text bytes) = codes "'" ++ cropped bytes
printed (value.Vector digits) = codes "#" ++ cropped (shown places (value.Vector digits))
printed v = cropped (shown places v)

-- the value, or the name of the fault's kind
abbrev pub answer_text : Answer Value → List ℕ
answer_text (Ok v) = printed v
answer_text (Err kind) = fault_name kind
