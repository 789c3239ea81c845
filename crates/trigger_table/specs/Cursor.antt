-- A means of proof: the waiters of one task, from left to right, and what they are on.
use Rattle.std.specs.Prelude.{ℕ, ◌==◌, List, [], ◌∷◌, map, Option, Some, None, if◌then◌else◌}
use Rattle.trigger_table.specs.State.{Link, Row, links_at}

-- the numbers of the waiters of a task, from left to right
abbrev pub waiters_at : ℕ → List Row → List ℕ
waiters_at number rows = map (λ (link : Link). link.waiter) (links_at number rows)

-- the number of the record that the waiter is on
abbrev pub cause_at : ℕ → List Link → Option ℕ
cause_at waiter [] = None
cause_at waiter (link ∷ links) = if link.waiter == waiter then Some link.cause else cause_at waiter links
