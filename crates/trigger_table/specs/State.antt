-- A means of proof: what a contract sees of `Records`.
use Rattle.std.specs.Prelude.{◌≡◌, ◌≢◌, ℕ, ◌==◌, Bool, true, false, not, List, [], ◌∷◌, ◌++◌, map, filter, Option, Some, None, slice_index_or, if◌then◌else◌, ◌⊎◌}
use Rattle.trigger_table.specs.Links.{IsIn}
use Rattle.py_value.specs.declared.trigger.TaskNo.{TaskNo}
use Rattle.await_tree.specs.WaitList.Waiting.{Waiting}
use Rattle.trigger_table.specs.declared.entries.CauseRecord.{CauseRecord}

-- one waiter: its number, and the number of the record of its cause
pub record Link : Type 0 where
  pub waiter : ℕ
  pub cause : ℕ

-- one waiting task: its number among the records, what is kept of it, and its waiters from left to right
pub record Row : Type 0 where
  pub number : ℕ
  pub entry : Option Waiting
  pub links : List Link

-- the waiting tasks in the order in which they began to wait, and the records of causes by number
pub record State : Type 0 where
  pub rows : List Row
  pub causes : List (Option CauseRecord)

-- all that these give, one after the other
abbrev pub concat_by : {A B : Type 0} → (A → List B) → List A → List B
concat_by f [] = []
concat_by f (x ∷ xs) = f x ++ concat_by f xs

-- the links of the tasks, in order
abbrev pub links_of : List Row → List Link
links_of rows = concat_by (λ (row : Row). row.links) rows

-- the links of one cause
abbrev pub waiters_on : ℕ → List Row → List Link
waiters_on cause rows = filter (λ (link : Link). link.cause == cause) (links_of rows)

-- a waiter joins this task as its last
abbrev pub add_link : ℕ → Link → List Row → List Row
add_link number link rows =
    map (λ (row : Row). if row.number == number then record row { links = row.links ++ link ∷ [] } else row) rows

-- the row without a waiter
abbrev pub row_without : ℕ → Row → Row
row_without waiter row = record row { links = filter (λ (link : Link). not (link.waiter == waiter)) row.links }

-- a waiter leaves its task
abbrev pub drop_link : ℕ → List Row → List Row
drop_link waiter rows = map (row_without waiter) rows

-- a task leaves
abbrev pub without_row : ℕ → List Row → List Row
without_row number rows = filter (λ (row : Row). not (row.number == number)) rows

-- the last task has this number
abbrev pub IsLast : ℕ → List Row → Type 0
IsLast number rows = (front : List Row) × (row : Row) × (rows ≡ front ++ row ∷ []) × (row.number ≡ number)

-- a waiting task has this number, and no waiter
abbrev pub HasNoLinks : ℕ → List Row → Type 0
HasNoLinks number [] = ⊥
HasNoLinks number (row ∷ rows) = ((row.number ≡ number) × (row.links ≡ [])) ⊎ HasNoLinks number rows

-- some task has this waiter
abbrev pub HasLink : ℕ → List Row → Type 0
HasLink waiter rows = IsIn waiter (map (λ (link : Link). link.waiter) (links_of rows))

-- the list isn't empty
abbrev pub has_some : {X : Type 0} → List X → Bool
has_some [] = false
has_some (x ∷ xs) = true

abbrev pub tail_of : {X : Type 0} → List X → List X
tail_of [] = []
tail_of (x ∷ xs) = xs

-- the numbers of the waiting tasks
abbrev pub numbers_of : List Row → List ℕ
numbers_of rows = map (λ (row : Row). row.number) rows

-- a waiting task has this number
abbrev pub HasRow : ℕ → List Row → Type 0
HasRow number rows = IsIn number (numbers_of rows)

-- the waiters of the task of this number
abbrev pub links_at : ℕ → List Row → List Link
links_at number [] = []
links_at number (row ∷ rows) = if row.number == number then row.links else links_at number rows

-- what is kept of the task of this number
abbrev pub entry_at : ℕ → List Row → Option Waiting
entry_at number [] = None
entry_at number (row ∷ rows) = if row.number == number then row.entry else entry_at number rows

-- the leftmost waiter of a task leaves
abbrev pub row_behead : ℕ → Row → Row
row_behead number row = if row.number == number then record row { links = tail_of row.links } else row

abbrev pub behead : ℕ → List Row → List Row
behead number rows = map (row_behead number) rows

-- what is kept of the task of this number is another now
abbrev pub with_entry : ℕ → Option Waiting → List Row → List Row
with_entry number entry rows = map (λ (row : Row). if row.number == number then record row { entry = entry } else row) rows

-- no task of these is this one
abbrev pub IsAbsent : TaskNo → List Row → Type 0
IsAbsent task rows = (number : ℕ) (w : Waiting) → entry_at number rows ≡ Some w → w.task ≢ task

-- the task has a waiter on the cause
abbrev pub waits_on : ℕ → Row → Bool
waits_on cause row = has_some (filter (λ (link : Link). link.cause == cause) row.links)

-- the first task that waits on the cause
abbrev pub first_on : ℕ → List Row → Option ℕ
first_on cause [] = None
first_on cause (row ∷ rows) = if waits_on cause row then Some row.number else first_on cause rows

-- the cause of this record has a waiter, or the runner holds it
abbrev pub IsNeeded : ℕ → State → Type 0
IsNeeded number s =
    (waiters_on number s.rows ≢ []) ⊎ ((record_of : CauseRecord) × (slice_index_or s.causes number None ≡ Some record_of) × (record_of.held ≡ true))

-- a cause has a record only where it is needed
abbrev pub AllNeeded : State → Type 0
AllNeeded s = (number : ℕ) → slice_index_or s.causes number None ≢ None → IsNeeded number s

-- the runner's own references stay
abbrev pub HeldStays : List (Option CauseRecord) → List (Option CauseRecord) → Type 0
HeldStays old new = (number : ℕ) (kept : CauseRecord) → slice_index_or old number None ≡ Some kept → kept.held ≡ true → slice_index_or new number None ≡ Some kept
