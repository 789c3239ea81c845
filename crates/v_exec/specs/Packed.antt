-- A means of proof: what is promised of the instructions of statements.
use Rattle.std.specs.Prelude.{◌≡◌, ℕ, ◌+◌, ◌-◌, ◌<◌, ◌≤◌, List, [], ◌∷◌, ◌++◌, length, slice_get, slice_index, Some}
use Rattle.four_value.specs.declared.Digit.{Digit}
use Rattle.gpi.specs.declared.acts.Act.{Act}
use Rattle.gpi.specs.declared.acts.CaseKind.{CaseKind}
use Rattle.gpi.specs.declared.acts.Label.{Label}
use Rattle.gpi.specs.declared.design.Process.{Process}
use Rattle.gpi.specs.Activation.{Run, activation, run_list, IsSound, SoundList}
use Rattle.v_exec.specs.declared.instruction.Instruction.{Instruction}
use Rattle.v_exec.specs.declared.instruction.Instruction.TheVariants as code
use Rattle.v_exec.specs.declared.packing.needs.Needs.{Needs}
use Rattle.v_exec.specs.Machine.{Machine, exec}
use Rattle.v_exec.specs.Fits.{Room, Fits}
use Rattle.v_exec.specs.Packing.{term_front, term_depth, deepest}

-- new ends by these instructions
abbrev pub EndsBy : List Instruction → List Instruction → Type 0
EndsBy is new = (front : List Instruction) × (new ≡ front ++ is)

-- a machine between two statements
abbrev pub between : List (List Digit) → Run → Machine
between st r = record { stack = st; run = r; noted = [] }

-- the instructions fit where no more than k stores were done before
abbrev pub FitsUpTo : Room → List ℕ → List Instruction → List ℕ → ℕ → Type 0
FitsUpTo room ws is st k = (j : ℕ) → j ≤ k → Fits room ws is 0 (record { stack = st; stores = j })

-- these instructions fit over operands of such widths where those at the end do
abbrev pub FitsBefore : List Instruction → List Instruction → (List ℕ → List ℕ) → (List ℕ → Type 0) → Needs → Type 0
FitsBefore is new operands Sound needs = (room : Room) (ws st : List ℕ) (k : ℕ) → Sound ws → length st + needs.depth ≤ room.depth
    → k + needs.stores ≤ room.stores → FitsUpTo room ws is st (k + needs.stores) → FitsUpTo room ws new (operands st) k

-- new does this to a run and goes on with the instructions at its end
pub record Packs (is new : List Instruction) (run : Run → Run) (Sound : List ℕ → Type 0) (needs : Needs) : Type 0 where
  pub ends : EndsBy is new
  pub runs : (st : List (List Digit)) (r : Run) → exec new 0 (between st r) ≡ exec is 0 (between st (run r))
  pub fits : FitsBefore is new (λ st. st) Sound needs
  pub depth : needs.depth + length is ≤ length new
  pub stores : needs.stores + length is ≤ length new

abbrev pub PacksAct : List Instruction → List Instruction → Act → Needs → Type 0
PacksAct is new a needs = Packs is new (activation a) (IsSound a) needs

abbrev pub PacksActs : List Instruction → List Instruction → List Act → Needs → Type 0
PacksActs is new list needs = Packs is new (run_list list) (SoundList list) needs

-- ---- case statements

-- an item stands in the code, so many instructions from its end: it takes the value off and goes on at the end of the statement
pub record ItemStands (is all : List Instruction) (place : ℕ) (a : Act) (needs : Needs) : Type 0 where
  pub here : List Instruction
  pub ends : EndsBy here all
  pub long : length here ≡ place
  pub runs : (ds : List Digit) (st : List (List Digit)) (r : Run) → exec here 0 (between (ds ∷ st) r) ≡ exec is 0 (between st (activation a r))
  pub fits : (w : ℕ) → FitsBefore is here (λ st. w ∷ st) (IsSound a) needs

-- all items do
pub record ItemsStand (is all : List Instruction) (starts : List ℕ) (items : List Act) (needs : Needs) : Type 0 where
  pub ends : EndsBy is all
  pub count : length starts ≡ length items
  pub each : (k : ℕ) (a : Act) → slice_get items k ≡ Some a → ItemStands is all (slice_index starts k) a needs
  pub depth : needs.depth + length is ≤ length all
  pub stores : needs.stores + length is ≤ length all

-- each start lies in the code
abbrev pub AreStarts : List ℕ → ℕ → Type 0
AreStarts starts n = (k : ℕ) → k < length starts → slice_index starts k ≤ n

-- the labels, each of which leads to the start of its item; in front of these instructions
abbrev pub labels_front : CaseKind → List ℕ → List Label → List Instruction → List Instruction
labels_front kind starts [] is = is
labels_front kind starts (l ∷ ls) is =
    term_front l.value
    (code.Match kind (length (labels_front kind starts ls is) - slice_index starts l.item) ∷ labels_front kind starts ls is)

-- how many operands they need room for, the value of the case statement among them
abbrev pub labels_depth : List Label → ℕ
labels_depth [] = 1
labels_depth (l ∷ ls) = deepest (labels_depth ls) (term_depth l.value)

-- ---- processes

-- a process stands in the code, so many instructions from its end
pub record ProcessStands (all : List Instruction) (place : ℕ) (p : Process) (needs : Needs) : Type 0 where
  pub here : List Instruction
  pub ends : EndsBy here all
  pub long : length here ≡ place
  pub runs : (st : List (List Digit)) (r : Run) → exec here 0 (between st r) ≡ between st (activation p.body r)
  pub fits : (room : Room) (ws : List ℕ) → IsSound p.body ws → needs.depth ≤ room.depth → needs.stores ≤ room.stores
      → Fits room ws here 0 (record { stack = []; stores = 0 })

-- all processes do
pub record ProcessesStand (all : List Instruction) (places : List ℕ) (ps : List Process) (needs : Needs) : Type 0 where
  pub count : length places ≡ length ps
  pub each : (k : ℕ) (p : Process) → slice_get ps k ≡ Some p → ProcessStands all (slice_index places k) p needs
