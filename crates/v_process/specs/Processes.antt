-- A means of proof: what it means that a process was found (IEEE 1364-2005, clauses 6.1, 6.2.1 and 9.9), for the proofs of elaboration: the
-- first broken rule, and what the simulator sees of it.
use Rattle.std.specs.Prelude.{◌≡◌, ℕ, List, None}
use Rattle.gpi.specs.declared.design.Kind.{Kind}
use Rattle.gpi.specs.declared.design.Kind.TheVariants.{Assign, Always}
use Rattle.gpi.specs.declared.design.Wake.{Wake}
use Rattle.gpi.specs.declared.design.Process.{Process}
use Rattle.gpi.specs.Activation.{IsSound}
use Rattle.gpi.specs.Design.{Proc, proc_of}
use Rattle.v_syntax.specs.declared.statement.AssignmentKind.TheVariants.{Blocking}
use Rattle.v_syntax.specs.ExpressionTrees.{Tree, TargetTree}
use Rattle.v_syntax.specs.StatementTrees.{StatementTree, Assignment}
use Rattle.v_flat.specs.declared.scope.found.Found.{Found}
use Rattle.v_flat.specs.declared.scope.found.Found.TheVariants.{Sound}
use Rattle.v_flat.specs.Scope.Found.{both, Holds}
use Rattle.v_flat.specs.Scope.Scope.{Scope}
use Rattle.v_flat.specs.Checks.{checked}
use Rattle.v_flat.specs.Targets.{Drive, Driving, driving}
use Rattle.v_flat.specs.declared.timing.Timing.{Timing}
use Rattle.v_flat.specs.Statements.{done, statement_checked}
use Rattle.v_flat.specs.Design.{running}
use Rattle.v_process.specs.declared.drive.digits.DrivenDigits.{DrivenDigits}
use Rattle.v_process.specs.Drive.Digits.{Keeps}
use Rattle.v_process.specs.Act.Statements.{StatementNamesOf}

-- the simulator sees x of the process; and its statement is sound in each design in which the names are signals
pub record IsProcess (x : Proc) (Names : List ℕ → Type 0) (p : Process) : Type 0 where
  pub is : proc_of p ≡ x
  pub sound : (ws : List ℕ) → Names ws → IsSound p.body ws

-- a process that runs the statement a in the scope s; `assigning` and `beginning` of the definition run an assignment
abbrev pub Runs : Timing → Kind → List Wake → Scope → StatementTree → Process → Type 0
Runs timing k ws s a p = IsProcess (record { kind = k; wakes = ws; run = running timing s a }) (StatementNamesOf s a) p

-- of assignments that have no delay: whatever the unit and the step are, they do the same
abbrev pub untimed : Timing
untimed = record { unit_fs = 0; step_fs = 0 }

-- the same rule is broken first as in what the definition finds, which is b; and where none is, the process runs the statement a
pub record IsFoundProcess (timing : Timing) (k : Kind) (ws : List Wake) (s : Scope) (a : StatementTree) (b : Found (Unit {0})) (f : Found Process) : Type 0 where
  pub finds : done f ≡ b
  pub holds : Holds (λ (p : Process). Runs timing k ws s a p) f

-- ---- continuous assignments

-- a process that assigns e to t continuously, where x is what the definition finds in the target; and y has the digits that are driven
-- after it
pub record DrivesBy (s : Scope) (t : TargetTree) (e : Tree) (ws : List Wake) (x : Driving) (f : Found Process) (y : DrivenDigits) : Type 0 where
  pub process : IsFoundProcess untimed Assign ws s (Assignment Blocking t e) (done (both x.width (checked s e))) f
  pub driven : Keeps y x.driven

-- whatever was driven before
abbrev pub IsDriver : Scope → TargetTree → Tree → List Wake → DrivenDigits → Found Process → DrivenDigits → Type 0
IsDriver s t e ws x f y = (ds : List Drive) → Keeps x ds → DrivesBy s t e ws (driving None s t ds) f y

-- ---- procedures

-- w is what was found in the events that it waits for: the same rule is broken first as in these or in the statement a; and where none is,
-- the process waits for these, and runs the statement
pub record IsAlways (timing : Timing) (w : Found (List Wake)) (s : Scope) (a : StatementTree) (f : Found Process) : Type 0 where
  pub finds : done f ≡ done (both w (statement_checked timing s a))
  pub waits : Holds (λ (p : Process). w ≡ Sound p.wakes) f
  pub holds : Holds (λ (p : Process). Runs timing Always p.wakes s a p) f
