-- A means of proof: the waiters on one cause, in the order in which their tasks began to wait.
use Rattle.std.specs.Prelude.{ℕ, ◌==◌, List, [], ◌∷◌, map, filter, Option, Some, None, if◌then◌else◌}
use Rattle.trigger_table.specs.State.{Link, Row, concat_by}
use Rattle.trigger_table.specs.declared.members.Member.{Member}

-- the waiters of a task on a cause, from left to right
abbrev pub members_of : ℕ → Row → List Member
members_of cause row =
    map (λ (link : Link). let m : Member = record { waiter = link.waiter; number = row.number } in m) (filter (λ (link : Link). link.cause == cause) row.links)

-- those of all tasks, in order
abbrev pub members_on : ℕ → List Row → List Member
members_on cause rows = concat_by (members_of cause) rows

-- their numbers
abbrev pub waiters_of : List Member → List ℕ
waiters_of ms = map (λ (m : Member). m.waiter) ms

-- those behind this waiter
abbrev pub after : ℕ → List Member → List Member
after waiter [] = []
after waiter (m ∷ ms) = if m.waiter == waiter then ms else after waiter ms

-- those of one task
abbrev pub own_members : ℕ → List Member → List Member
own_members number ms = filter (λ (m : Member). m.number == number) ms

-- those from the first one of another task on
abbrev pub beyond : ℕ → List Member → List Member
beyond number [] = []
beyond number (m ∷ ms) = if m.number == number then beyond number ms else m ∷ ms

-- those from this one on
abbrev pub rest_from : Option Member → List Member → List Member
rest_from None ms = []
rest_from (Some m) ms = m ∷ after m.waiter ms

-- the waiter with its task, if it has one
abbrev pub with_task : ℕ → Option ℕ → Option Member
with_task waiter None = None
with_task waiter (Some number) = Some (record { waiter = waiter; number = number })
