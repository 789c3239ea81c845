-- Triggers, without where their parts lie in memory (cocotb 1.8, "Triggers").
use Rattle.std.specs.Prelude.{ℕ, ◌+◌, ◌≤◌, ◌&&◌, max, nat_le, Bool, IsTrue, List, [], ◌∷◌}
use Rattle.gpi.specs.declared.types.SigId.{SigId}
use Rattle.py_value.specs.Limits.{step_limit, leaf_limit, depth_limit}
use Rattle.py_value.specs.declared.trigger.TaskNo.{TaskNo}
use Rattle.py_value.specs.declared.trigger.EventNo.{EventNo}
use Rattle.py_value.specs.declared.trigger.LockNo.{LockNo}
use Rattle.py_value.specs.declared.trigger.TrigId.{TrigId}

mutual
  -- which trigger it is, and what it waits for
  pub data Trig : Type 0 where
    Made : TrigId → Form → Trig

  pub data Form : Type 0 where
    Time : ℕ → Form
    Rise : SigId → Form
    Fall : SigId → Form
    Change : SigId → Form
    ReadWrite : Form
    ReadOnly : Form
    NextStep : Form
    Cycles : SigId → ℕ → Bool → Form
    Event : EventNo → Form
    Lock : LockNo → Form
    Join : TaskNo → Form
    First : Trigs → Form
    Combine : Trigs → Form
    -- of one trigger
    Limit : Trigs → ℕ → Form

  -- triggers in order
  pub data Trigs : Type 0 where
    NoTrig : Trigs
    Then : Trig → Trigs → Trigs

abbrev pub id_of : Trig → TrigId
id_of (Made id form) = id

abbrev pub form_of : Trig → Form
form_of (Made id form) = form

abbrev pub row : List Trig → Trigs
row [] = NoTrig
row (t ∷ ts) = Then t (row ts)

-- how many leaves a trigger has; the time of a limit is one
abbrev mutual
  pub leaves : Trig → ℕ
  leaves (Made id form) = form_leaves form

  pub form_leaves : Form → ℕ
  form_leaves (First ts) = row_leaves ts
  form_leaves (Combine ts) = row_leaves ts
  form_leaves (Limit ts steps) = row_leaves ts + 1
  form_leaves _ = 1

  pub row_leaves : Trigs → ℕ
  row_leaves NoTrig = 0
  row_leaves (Then t ts) = leaves t + row_leaves ts

-- how many triggers stand inside one another
abbrev mutual
  pub depth : Trig → ℕ
  depth (Made id form) = form_depth form

  pub form_depth : Form → ℕ
  form_depth (First ts) = row_depth ts + 1
  form_depth (Combine ts) = row_depth ts + 1
  form_depth (Limit ts steps) = row_depth ts + 1
  form_depth _ = 1

  pub row_depth : Trigs → ℕ
  row_depth NoTrig = 0
  row_depth (Then t ts) = max (depth t) (row_depth ts)

-- ---- limits

-- a trigger that is made keeps within the limits of leaves and depth, and has a leaf
abbrev pub is_small : Form → Bool
is_small form = nat_le 1 (form_leaves form) && (nat_le (form_leaves form) leaf_limit && nat_le (form_depth form) depth_limit)

-- ---- sound triggers

-- a time that a trigger waits for
abbrev pub AreSteps : ℕ → Type 0
AreSteps n = (1 ≤ n) × (n ≤ step_limit)

abbrev pub IsOne : Trigs → Type 0
IsOne (Then t NoTrig) = Unit {0}
IsOne _ = ⊥

-- each time in it can be waited for, each count is at least 1, each tree keeps within the limits, and a limit holds one trigger
abbrev mutual
  pub IsSound : Trig → Type 0
  IsSound (Made id form) = IsSoundForm form

  pub IsSoundForm : Form → Type 0
  IsSoundForm (Time n) = AreSteps n
  IsSoundForm (Cycles s n rising) = 1 ≤ n
  IsSoundForm (First ts) = IsTrue (is_small (First ts)) × AreSound ts
  IsSoundForm (Combine ts) = IsTrue (is_small (Combine ts)) × AreSound ts
  IsSoundForm (Limit ts n) = IsTrue (is_small (Limit ts n)) × AreSound ts × IsOne ts × AreSteps n
  IsSoundForm _ = Unit {0}

  pub AreSound : Trigs → Type 0
  AreSound NoTrig = Unit {0}
  AreSound (Then t ts) = IsSound t × AreSound ts
