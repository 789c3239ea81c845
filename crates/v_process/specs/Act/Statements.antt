-- A means of proof: what it means that a statement was checked (IEEE 1364-2005, clause 9), for the proofs of elaboration: the first broken
-- rule, and its activation.
use Rattle.std.specs.Prelude.{◌≡◌, ℕ, List, [], ◌∷◌, Option, Some}
use Rattle.four_value.specs.declared.Digit.{Digit}
use Rattle.gpi.specs.declared.acts.Act.{Act}
use Rattle.gpi.specs.declared.types.Update.{Update}
use Rattle.gpi.specs.Activation.{Run, IsSound, SoundList, blocking, nonblocking}
use Rattle.gpi.specs.Activation as act
use Rattle.v_syntax.specs.declared.statement.AssignmentKind.{AssignmentKind}
use Rattle.v_syntax.specs.ExpressionTrees.{Tree, TargetTree}
use Rattle.v_syntax.specs.StatementTrees.{StatementTree, Null, Block, Assignment, If, IfElse, Case, For, TaskEnable, Delay, StatementTrees, no_statement, more_statements, CaseTree, Match, Default, CaseTrees, no_case, more_cases}
use Rattle.v_flat.specs.declared.scope.found.Found.{Found}
use Rattle.v_flat.specs.Scope.Found.{fine, both, Holds}
use Rattle.v_flat.specs.declared.scope.meaning.DataObject.{DataObject}
use Rattle.v_flat.specs.declared.scope.meaning.Meaning.{Meaning}
use Rattle.v_flat.specs.declared.scope.meaning.Meaning.TheVariants.{Object}
use Rattle.v_flat.specs.Scope.Scope.{Scope, find}
use Rattle.v_flat.specs.Checks.{checked}
use Rattle.v_flat.specs.declared.timing.Timing.{Timing}
use Rattle.v_flat.specs.Statements.{done, turn, turns, known_turns, loop_name, statement_checked, take_updates, activation, activations}
use Rattle.v_check.specs.declared.constants.checked.Checked.{Checked}
use Rattle.v_check.specs.Constants.Checked.{IsObjectOf, AreNamesOf, IsChecked}
use Rattle.v_process.specs.declared.act.moment.Moment.{Moment}
use Rattle.v_process.specs.declared.act.moment.Moment.TheVariants.{AtOnce, Later}
use Rattle.v_process.specs.declared.target.checked.CheckedTarget.{CheckedTarget}
use Rattle.v_process.specs.Assign.Targets.{TargetNamesOf, IsTarget}
use Rattle.v_process.specs.declared.act.sequences.BlockParts.{BlockParts}

-- ---- what a statement names

abbrev pub LabelsNamesOf : Scope → List Tree → List ℕ → Type 0
LabelsNamesOf s [] ws = Unit {0}
LabelsNamesOf s (e ∷ es) ws = AreNamesOf s e ws × LabelsNamesOf s es ws

-- the register that a loop counts in
abbrev pub OfCounter : Option Meaning → (DataObject → Type 0) → Type 0
OfCounter (Some (Object o)) F = F o
OfCounter _ F = Unit {0}

abbrev pub InTurns : (List Digit → Type 0) → List (List Digit) → Type 0
InTurns F [] = Unit {0}
InTurns F (v ∷ vs) = F v × InTurns F vs

-- each name in it is a signal of the design, with its width; ws are the widths of the signals
abbrev mutual
  pub StatementNamesOf : Scope → StatementTree → List ℕ → Type 0
  StatementNamesOf s Null ws = Unit {0}
  StatementNamesOf s (Block l ss) ws = StatementsNamesOf s ss ws
  StatementNamesOf s (Assignment k t e) ws = TargetNamesOf s t ws × AreNamesOf s e ws
  StatementNamesOf s (If c a) ws = AreNamesOf s c ws × StatementNamesOf s a ws
  StatementNamesOf s (IfElse c a b) ws = AreNamesOf s c ws × (StatementNamesOf s a ws × StatementNamesOf s b ws)
  StatementNamesOf s (Case k e cs) ws = AreNamesOf s e ws × CasesNamesOf s cs ws
  StatementNamesOf s (For p h body) ws =
      OfCounter (find (loop_name h).name s) (λ o. IsObjectOf o o.words ws
      × InTurns (λ v. StatementNamesOf (turn (loop_name h).name o v s) body ws) (known_turns (turns p h s o)).0)
  StatementNamesOf s (TaskEnable t es) ws = Unit {0}
  StatementNamesOf s (Delay p ds) ws = Unit {0}

  pub StatementsNamesOf : Scope → StatementTrees → List ℕ → Type 0
  StatementsNamesOf s no_statement ws = Unit {0}
  StatementsNamesOf s (more_statements a rest) ws = StatementNamesOf s a ws × StatementsNamesOf s rest ws

  pub CaseNamesOf : Scope → CaseTree → List ℕ → Type 0
  CaseNamesOf s (Match es a) ws = LabelsNamesOf s es ws × StatementNamesOf s a ws
  CaseNamesOf s (Default a) ws = StatementNamesOf s a ws

  pub CasesNamesOf : Scope → CaseTrees → List ℕ → Type 0
  CasesNamesOf s no_case ws = Unit {0}
  CasesNamesOf s (more_cases c cs) ws = CaseNamesOf s c ws × CasesNamesOf s cs ws

-- ---- what was found

-- the same activation on every run; and sound wherever the names are signals of the design
pub record DoesAs (timing : Timing) (s : Scope) (st : StatementTree) (a : Act) : Type 0 where
  pub runs : (r : Run) → act.activation a r ≡ activation timing s st r
  pub sound : (ws : List ℕ) → StatementNamesOf s st ws → IsSound a ws

-- the same rule is broken first as in what the definition finds, which is b; and where none is, it has the same activation
pub record IsStatement (timing : Timing) (s : Scope) (st : StatementTree) (b : Found (Unit {0})) (f : Found Act) : Type 0 where
  pub finds : done f ≡ b
  pub holds : Holds (λ (a : Act). DoesAs timing s st a) f

-- what the last one does after those before it; the first one is the last of the list
abbrev pub run_back : List Act → Run → Run
run_back [] r = r
run_back (a ∷ rest) r = act.activation a (run_back rest r)

-- the statements of a block, together
pub record DoAsAll (timing : Timing) (s : Scope) (ss : StatementTrees) (x : BlockParts) : Type 0 where
  pub runs : (r : Run) → run_back x.acts.items r ≡ activations timing s ss r
  pub sound : (ws : List ℕ) → StatementsNamesOf s ss ws → SoundList x.acts.items ws

pub record AreStatements (timing : Timing) (s : Scope) (ss : StatementTrees) (b : Found (Unit {0})) (f : Found BlockParts) : Type 0 where
  pub finds : done f ≡ b
  pub holds : Holds (λ (x : BlockParts). DoAsAll timing s ss x) f

-- ---- what is found in the whole, from what was found in the parts

-- a statement without effect
pub record ChecksNull (f : Found Act) : Type 0 where
  pub null : (timing : Timing) (s : Scope) → IsStatement timing s Null fine f
  pub task : (timing : Timing) (s : Scope) (t : _) (es : _) → IsStatement timing s (TaskEnable t es) fine f
  pub delay : (timing : Timing) (s : Scope) (p : ℕ) (ds : List Digit) → IsStatement timing s (Delay p ds) fine f

-- what an assignment of this moment does with updates
abbrev pub taking : Moment → List Update → Run → Run
taking AtOnce us r = blocking us r
taking (Later n) us r = nonblocking n us r

-- so it is of this kind of assignment
abbrev pub TakesAt : Timing → AssignmentKind → Moment → Type 0
TakesAt timing k m = (us : List Update) (r : Run) → taking m us r ≡ take_updates timing k us r

-- a is what the definition finds in the target, by the manner in which it is assigned to
abbrev pub ChecksAssignment : Moment → Found CheckedTarget → Found Checked → Found Act → Type 0
ChecksAssignment m x y f =
    (timing : Timing) (s : Scope) (k : AssignmentKind) (t : TargetTree) (e : Tree) (a : Found ℕ) → TakesAt timing k m → IsTarget s t a x → IsChecked s e y
    → IsStatement timing s (Assignment k t e) (done (both a (checked s e))) f

abbrev pub ChecksIf : Found Checked → Found Act → Found Act → Type 0
ChecksIf x y f =
    (timing : Timing) (s : Scope) (c : Tree) (a : StatementTree) (b : Found (Unit {0})) → IsChecked s c x → IsStatement timing s a b y
    → IsStatement timing s (If c a) (done (both (checked s c) b)) f

abbrev pub ChecksIfElse : Found Checked → Found Act → Found Act → Found Act → Type 0
ChecksIfElse x y z f =
    (timing : Timing) (s : Scope) (c : Tree) (a1 a2 : StatementTree) (b1 b2 : Found (Unit {0})) → IsChecked s c x → IsStatement timing s a1 b1 y → IsStatement timing s a2 b2 z
    → IsStatement timing s (IfElse c a1 a2) (done (both (checked s c) (both b1 b2))) f

abbrev pub ChecksNoStatement : Found BlockParts → Type 0
ChecksNoStatement f = (timing : Timing) (s : Scope) → AreStatements timing s no_statement fine f

abbrev pub ChecksMoreStatements : Found Act → Found BlockParts → Found BlockParts → Type 0
ChecksMoreStatements x y f =
    (timing : Timing) (s : Scope) (a : StatementTree) (ss : StatementTrees) (b c : Found (Unit {0})) → IsStatement timing s a b x → AreStatements timing s ss c y
    → AreStatements timing s (more_statements a ss) (done (both b c)) f

abbrev pub ChecksBlock : Found BlockParts → Found Act → Type 0
ChecksBlock y f = (timing : Timing) (s : Scope) (l : Option (List ℕ)) (ss : StatementTrees) (b : Found (Unit {0})) → AreStatements timing s ss b y → IsStatement timing s (Block l ss) b f

-- ---- whole statements

abbrev pub IsFoundStatement : Timing → Scope → StatementTree → Found Act → Type 0
IsFoundStatement timing s st f = IsStatement timing s st (statement_checked timing s st) f
