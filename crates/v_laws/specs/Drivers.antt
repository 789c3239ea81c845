-- A means of proof: laws of drivers (IEEE 1364-2005, clauses 6.1 and 9.2), for the proofs of elaboration: what each process gives a value
-- to.
use Rattle.std.specs.Prelude.{◌≡◌, ◌≤◌, ℕ, List, Option, Some, None, length, slice_get}
use Rattle.four_value.specs.declared.Digit.{Digit}
use Rattle.four_value.specs.declared.Digit.TheVariants.{X, Z}
use Rattle.gpi.specs.declared.design.Kind.{Kind}
use Rattle.gpi.specs.declared.design.Kind.TheVariants as process_kind
use Rattle.gpi.specs.Design.{Proc}
use Rattle.v_syntax.specs.ExpressionTrees.{TargetTree}
use Rattle.v_flat.specs.declared.scope.meaning.DataKind.TheVariants.{Net}
use Rattle.v_flat.specs.declared.scope.meaning.DataObject.{DataObject}
use Rattle.v_flat.specs.declared.scope.meaning.Meaning.TheVariants.{Object}
use Rattle.v_flat.specs.Scope.Found.{Holds, HoldsOk}
use Rattle.v_flat.specs.Scope.Scope.{Scope, find}
use Rattle.v_flat.specs.Expressions.{Values}
use Rattle.v_flat.specs.Targets.{Drive, driving, target_width, updates}
use Rattle.v_flat.specs.Paths.{SignalAt}
use Rattle.v_flat.specs.Design.{Design, Modules, flat_design}
use Rattle.v_laws.specs.Digits.{Gives, IsDriven, IsWritten}

-- no net has words, as each scope of a design has it
abbrev pub NetsHaveNoWords : Scope → Type 0
NetsHaveNoWords s = (n : List ℕ) (o : DataObject) → find n s ≡ Some (Object o) → o.kind ≡ Net → o.words ≡ None

-- where no rule is broken in the target of a continuous assignment, each digit that it updates, on any map, lies in a drive that is recorded
-- for it, and in none that was recorded before
abbrev pub Updates_are_recorded : Type 0
Updates_are_recorded = (q : Option ℕ) (s : Scope) (t : TargetTree) (ds : List Drive) → NetsHaveNoWords s
    → Holds (λ (w : ℕ). (m : Values) (bits : List Digit) (n k : ℕ) → length bits ≤ target_width s t → IsWritten (updates s t m bits) n k
    → IsDriven (driving q s t ds).driven n k × (IsDriven ds n k → ⊥)) (driving q s t ds).width

-- a digit that a continuous assignment gives a value, one of a connected port among them, gets none from any other process, whatever the maps are
abbrev pub One_driver : Type 0
One_driver = (ms : Modules) (top : Option (List ℕ)) → HoldsOk (λ (d : Design). (i j : ℕ) (p q : Proc) (n k : ℕ)
    → slice_get d.processes i ≡ Some p → slice_get d.processes j ≡ Some q → p.kind ≡ process_kind.Assign → Gives p n k → Gives q n k → i ≡ j) (flat_design ms top)

-- signal n begins with this digit everywhere
pub record Begins (d : Design) (n : ℕ) (digit : Digit) : Type 0 where
  pub signal : SignalAt
  pub there : slice_get d.signals n ≡ Some signal
  pub is : signal.start ≡ digit

-- nets begin with z, registers and words of memories with x
abbrev pub start_for : Kind → Digit
start_for process_kind.Assign = Z
start_for process_kind.Always = X
start_for process_kind.Initial = X

-- continuous assignments give values to nets alone, and procedures to registers and words of memories
abbrev pub Processes_keep_to_their_kind : Type 0
Processes_keep_to_their_kind = (ms : Modules) (top : Option (List ℕ)) → HoldsOk (λ (d : Design). (i : ℕ) (p : Proc) (n k : ℕ)
    → slice_get d.processes i ≡ Some p → Gives p n k → Begins d n (start_for p.kind)) (flat_design ms top)
