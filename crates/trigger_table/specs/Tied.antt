-- A means of proof: how the waiters of tasks stand for the waiting leaves of their trees.
use Rattle.std.specs.Prelude.{◌≡◌, ◌≢◌, ℕ, Bool, true, false, not, ◌&&◌, ◌||◌, List, [], ◌∷◌, Option, Some, None, slice_index_or}
use Rattle.await_tree.specs.Fire.{is_same}
use Rattle.await_tree.specs.Settled.{IsSettled}
use Rattle.await_tree.specs.Tree.{Tree, Trees, Over, Leaf, Cycles, First, Combine, Limit, NoTree, Then, leaves, is_over, first_over, first_faulted, are_over}
use Rattle.await_tree.specs.WaitList.Edges.{has_edges}
use Rattle.await_tree.specs.WaitList.Waiting.{Waiting}
use Rattle.await_tree.specs.declared.cause.Awaited.{Awaited}
use Rattle.trigger_table.specs.Entries.{HasCause}
use Rattle.trigger_table.specs.State.{Link, Row, State, concat_by, has_some, waiters_on}
use Rattle.trigger_table.specs.declared.entries.CauseRecord.{CauseRecord}

-- ---- the waiting tasks

abbrev pub entry_list : Option Waiting → List Waiting
entry_list None = []
entry_list (Some w) = w ∷ []

-- the waiting tasks with their trees, in the order in which they began to wait
abbrev pub waiting_in : List Row → List Waiting
waiting_in rows = concat_by (λ (row : Row). entry_list row.entry) rows

-- ---- waiters and leaves

-- the waiters are on these, one on each, from left to right
abbrev pub AreOn : List (Option CauseRecord) → List Link → List Awaited → Type 0
AreOn causes [] [] = Unit {0}
AreOn causes [] (on ∷ ons) = ⊥
AreOn causes (link ∷ links) [] = ⊥
AreOn causes (link ∷ links) (on ∷ ons) = HasCause causes link.cause on × AreOn causes links ons

-- A task may wait for this tree: it isn't done, no part of it that waits would be done, and it counts edges alone.
pub record IsWaitable (tree : Tree) : Type 0 where
  pub waits : is_over tree ≡ false
  pub settled : IsSettled tree
  pub edges : has_edges tree ≡ true

-- A task waits for a tree, and its waiters are on the waiting leaves of that, from left to right.
pub record IsTied (causes : List (Option CauseRecord)) (row : Row) : Type 0 where
  pub waiting : Waiting
  pub entry : row.entry ≡ Some waiting
  pub on : AreOn causes row.links (leaves waiting.tree)
  pub tree : IsWaitable waiting.tree

abbrev pub AreTied : List (Option CauseRecord) → List Row → Type 0
AreTied causes [] = Unit {0}
AreTied causes (row ∷ rows) = IsTied causes row × AreTied causes rows

-- ---- what becomes of records

-- no record came, and none changed
abbrev pub Shrinks : List (Option CauseRecord) → List (Option CauseRecord) → Type 0
Shrinks old new = (number : ℕ) (kept : CauseRecord) → slice_index_or new number None ≡ Some kept → slice_index_or old number None ≡ Some kept

-- the same records have the same numbers
abbrev pub SameSlots : List (Option CauseRecord) → List (Option CauseRecord) → Type 0
SameSlots old new = (number : ℕ) → slice_index_or new number None ≡ slice_index_or old number None

-- no record went, and none changed
abbrev pub Grows : List (Option CauseRecord) → List (Option CauseRecord) → Type 0
Grows old new = Shrinks new old

-- ---- tests

abbrev pub is_none : {T : Type 0} → Option T → Bool
is_none None = true
is_none (Some x) = false

abbrev mutual
  pub is_settled : Tree → Bool
  is_settled (Over f) = true
  is_settled (Leaf on trig) = true
  is_settled (Cycles key left trig) = true
  is_settled (First ts) = is_none (first_over ts) && are_settled ts
  is_settled (Combine trig ts) = is_none (first_faulted ts) && (not (are_over ts) && are_settled ts)
  is_settled (Limit due t) = not (is_over t) && is_settled t

  pub are_settled : Trees → Bool
  are_settled NoTree = true
  are_settled (Then t ts) = is_settled t && are_settled ts

abbrev pub is_waitable : Tree → Bool
is_waitable tree = not (is_over tree) && (is_settled tree && has_edges tree)

abbrev pub slot_is_on : Option CauseRecord → Awaited → Bool
slot_is_on None on = false
slot_is_on (Some kept) on = is_same kept.on on

abbrev pub are_on : List (Option CauseRecord) → List Link → List Awaited → Bool
are_on causes [] [] = true
are_on causes [] (on ∷ ons) = false
are_on causes (link ∷ links) [] = false
are_on causes (link ∷ links) (on ∷ ons) = slot_is_on (slice_index_or causes link.cause None) on && are_on causes links ons

abbrev pub entry_is_tied : List (Option CauseRecord) → Option Waiting → List Link → Bool
entry_is_tied causes None links = false
entry_is_tied causes (Some w) links = are_on causes links (leaves w.tree) && is_waitable w.tree

abbrev pub are_tied : List (Option CauseRecord) → List Row → Bool
are_tied causes [] = true
are_tied causes (row ∷ rows) = entry_is_tied causes row.entry row.links && are_tied causes rows

abbrev pub slot_is_held : Option CauseRecord → Bool
slot_is_held None = false
slot_is_held (Some kept) = kept.held

abbrev pub is_needed : ℕ → State → Bool
is_needed number s = has_some (waiters_on number s.rows) || slot_is_held (slice_index_or s.causes number None)

-- Between calls of the table each record is needed, and the waiters of each task are on the waiting leaves of its tree.
pub record IsKept (s : State) : Type 0 where
  pub needed : (number : ℕ) → slice_index_or s.causes number None ≢ None → is_needed number s ≡ true
  pub tied : are_tied s.causes s.rows ≡ true
