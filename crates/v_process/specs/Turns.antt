-- A means of proof: what it means that the turns of a loop were checked, each in its own scope (IEEE 1364-2005, clause 9.6), for the proofs
-- of elaboration.
use Rattle.std.specs.Prelude.{◌≡◌, ℕ, List, [], None}
use Rattle.four_value.specs.declared.Digit.{Digit}
use Rattle.gpi.specs.declared.acts.Act.{Act}
use Rattle.gpi.specs.Activation.{Run, MakesAct, SoundList}
use Rattle.v_syntax.specs.StatementTrees.{StatementTree}
use Rattle.v_flat.specs.declared.scope.found.Found.{Found}
use Rattle.v_flat.specs.Scope.Found.{Holds}
use Rattle.v_flat.specs.declared.scope.meaning.DataObject.{DataObject}
use Rattle.v_flat.specs.Scope.Scope.{Scope}
use Rattle.v_flat.specs.declared.timing.Timing.{Timing}
use Rattle.v_flat.specs.Statements.{Turns, done, turn, all_turns, statement_checked, activation, run_turns, leave_counter}
use Rattle.v_check.specs.Constants.Checked.{IsObjectOf}
use Rattle.v_process.specs.declared.act.sequences.BlockParts.{BlockParts}
use Rattle.v_process.specs.Act.Statements.{InTurns, StatementNamesOf, run_back}

-- the register o has the value v at once; and it is sound wherever the register is a signal of the design
abbrev pub AssignsLast : DataObject → List Digit → Act → Type 0
AssignsLast o v a = MakesAct a (leave_counter o v) (IsObjectOf o None)

-- the body runs in each turn, and then the register o with the name n has its last value; and all is sound wherever the register and the
-- names in each turn are signals of the design
pub record DoAsTurns (timing : Timing) (s : Scope) (n : List ℕ) (o : DataObject) (body : StatementTree) (x : Turns) (y : BlockParts) : Type 0 where
  pub runs : (r : Run) → run_back y.acts.items r ≡ leave_counter o x.1 (run_turns (λ v. activation timing (turn n o v s) body) x.0 r)
  pub sound : (ws : List ℕ) → IsObjectOf o o.words ws × InTurns (λ v. StatementNamesOf (turn n o v s) body ws) x.0 → SoundList y.acts.items ws

-- the same rule is broken first as in the turns of the definition; and where none is, they do what the turns do
pub record AreTurns (timing : Timing) (s : Scope) (n : List ℕ) (o : DataObject) (body : StatementTree) (x : Turns) (f : Found BlockParts) : Type 0 where
  pub finds : done f ≡ all_turns (λ v. statement_checked timing (turn n o v s) body) x.0
  pub holds : Holds (λ (y : BlockParts). DoAsTurns timing s n o body x y) f

-- what stands behind the last turn of each loop with this register and last value
abbrev pub EndsTurns : DataObject → List Digit → Found BlockParts → Type 0
EndsTurns o v f = (timing : Timing) (s : Scope) (n : List ℕ) (body : StatementTree) → AreTurns timing s n o body ([], v) f
