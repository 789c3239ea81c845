-- Each name in an expression, a target or a statement is one of its scope.
use Rattle.std.proofs.Common.{ℕ, List, [], ◌∷◌, Option, Some, None, Bool, true, false, bytes_eq, if◌then◌else◌}
use Rattle.four_value.specs.declared.Digit.{Digit}
use Rattle.v_syntax.specs.ExpressionTrees.{Tree, Number, Named, Bracketed, Unary, Binary, Conditional, Concatenation, Replication, SelectsTree, Whole, One, OfWord, SelectTree, Bit, Part, IndexedPart, Trees, none, more, TargetTree, NamedTarget, JoinedTarget, TargetTrees, no_target, more_targets}
use Rattle.v_syntax.specs.StatementTrees.{StatementTree, Null, Block, Assignment, If, IfElse, Case, For, TaskEnable, Delay, StatementTrees, no_statement, more_statements, CaseTree, Match, Default, CaseTrees, no_case, more_cases}
use Rattle.v_flat.specs.declared.scope.meaning.DataObject.{DataObject}
use Rattle.v_flat.specs.declared.scope.meaning.Meaning.{Meaning}
use Rattle.v_flat.specs.declared.scope.meaning.Meaning.TheVariants.{Constant, Object, Later}
use Rattle.v_flat.specs.Scope.Scope.{Scope, find}
use Rattle.v_flat.specs.Statements.{turn, turns, known_turns, loop_name}
use Rattle.v_check.specs.Constants.Checked.{IsNameOf, IsObjectOf, AreNamesOf, AllNamesOf, SelectsNamesOf, SelectNamesOf}
use Rattle.v_process.specs.Assign.Targets.{TargetNamesOf, TargetsNamesOf}
use Rattle.v_process.specs.Act.Statements.{LabelsNamesOf, OfCounter, InTurns, StatementNamesOf, StatementsNamesOf, CaseNamesOf, CasesNamesOf}
use Rattle.v_layout.specs.Named.{AreSignals}

-- ---- expressions

mutual
  pub expression_names : (s : Scope) (ws : List ℕ) → AreSignals s ws → (e : Tree) → AreNamesOf s e ws
  expression_names s ws h (Number p ds) = tt
  expression_names s ws h (Named p n sel) = (h n, selects_names s ws h sel)
  expression_names s ws h (Bracketed p e) = expression_names s ws h e
  expression_names s ws h (Unary p op e) = expression_names s ws h e
  expression_names s ws h (Binary op l r) = (expression_names s ws h l, expression_names s ws h r)
  expression_names s ws h (Conditional c a b) = (expression_names s ws h c, (expression_names s ws h a, expression_names s ws h b))
  expression_names s ws h (Concatenation p es) = all_names s ws h es
  expression_names s ws h (Replication p c es) = (expression_names s ws h c, all_names s ws h es)

  pub all_names : (s : Scope) (ws : List ℕ) → AreSignals s ws → (es : Trees) → AllNamesOf s es ws
  all_names s ws h none = tt
  all_names s ws h (more e es) = (expression_names s ws h e, all_names s ws h es)

  pub selects_names : (s : Scope) (ws : List ℕ) → AreSignals s ws → (sel : SelectsTree) → SelectsNamesOf s sel ws
  selects_names s ws h Whole = tt
  selects_names s ws h (One sel) = select_names s ws h sel
  selects_names s ws h (OfWord p i sel) = (expression_names s ws h i, select_names s ws h sel)

  pub select_names : (s : Scope) (ws : List ℕ) → AreSignals s ws → (sel : SelectTree) → SelectNamesOf s sel ws
  select_names s ws h (Bit p i) = expression_names s ws h i
  select_names s ws h (Part p l r) = (expression_names s ws h l, expression_names s ws h r)
  select_names s ws h (IndexedPart p b n) = (expression_names s ws h b, expression_names s ws h n)

-- ---- targets

mutual
  pub target_names : (s : Scope) (ws : List ℕ) → AreSignals s ws → (t : TargetTree) → TargetNamesOf s t ws
  target_names s ws h (NamedTarget p n sel) = (h n, selects_names s ws h sel)
  target_names s ws h (JoinedTarget p ts) = targets_names s ws h ts

  pub targets_names : (s : Scope) (ws : List ℕ) → AreSignals s ws → (ts : TargetTrees) → TargetsNamesOf s ts ws
  targets_names s ws h no_target = tt
  targets_names s ws h (more_targets t ts) = (target_names s ws h t, targets_names s ws h ts)

-- ---- statements

labels_names : (s : Scope) (ws : List ℕ) → AreSignals s ws → (es : List Tree) → LabelsNamesOf s es ws
labels_names s ws h [] = tt
labels_names s ws h (e ∷ es) = (expression_names s ws h e, labels_names s ws h es)

of_counter : (x : Option Meaning) (ws : List ℕ) (F : DataObject → Type 0) → IsNameOf x ws → ((o : DataObject) → IsObjectOf o o.words ws → F o) → OfCounter x F
of_counter None ws F h k = tt
of_counter (Some Later) ws F h k = tt
of_counter (Some (Constant ds b)) ws F h k = tt
of_counter (Some (Object o)) ws F h k = k o h

in_turns : (F : List Digit → Type 0) (vs : List (List Digit)) → ((v : List Digit) → F v) → InTurns F vs
in_turns F [] k = tt
in_turns F (v ∷ vs) k = (k v, in_turns F vs k)

constant_or : (b : Bool) (x : Option Meaning) (ds : List Digit) (o : DataObject) (ws : List ℕ) → IsNameOf x ws → IsNameOf (if b then Some (Constant ds o.bounds) else x) ws
constant_or true x ds o ws h = tt
constant_or false x ds o ws h = h

-- in a turn the loop's variable is a constant
turned : (k : List ℕ) (o : DataObject) (v : List Digit) (s : Scope) (ws : List ℕ) → AreSignals s ws → AreSignals (turn k o v s) ws
turned k o v s ws h = λ n. constant_or (bytes_eq n k) (find n s) v o ws (h n)

mutual
  pub statement_names : (s : Scope) (ws : List ℕ) → AreSignals s ws → (a : StatementTree) → StatementNamesOf s a ws
  statement_names s ws h Null = tt
  statement_names s ws h (Block l ss) = statements_names s ws h ss
  statement_names s ws h (Assignment k t e) = (target_names s ws h t, expression_names s ws h e)
  statement_names s ws h (If c a) = (expression_names s ws h c, statement_names s ws h a)
  statement_names s ws h (IfElse c a b) = (expression_names s ws h c, (statement_names s ws h a, statement_names s ws h b))
  statement_names s ws h (Case k e cs) = (expression_names s ws h e, cases_names s ws h cs)
  statement_names s ws h (For p g body) =
      of_counter (find (loop_name g).name s) ws
      (λ o. IsObjectOf o o.words ws × InTurns (λ v. StatementNamesOf (turn (loop_name g).name o v s) body ws) (known_turns (turns p g s o)).0)
      (h (loop_name g).name)
      (λ o k. (
        k,
        in_turns (λ v. StatementNamesOf (turn (loop_name g).name o v s) body ws) (known_turns (turns p g s o)).0
            (λ v. statement_names (turn (loop_name g).name o v s) ws (turned (loop_name g).name o v s ws h) body),
      ))
  statement_names s ws h (TaskEnable t es) = tt
  statement_names s ws h (Delay p ds) = tt

  pub statements_names : (s : Scope) (ws : List ℕ) → AreSignals s ws → (ss : StatementTrees) → StatementsNamesOf s ss ws
  statements_names s ws h no_statement = tt
  statements_names s ws h (more_statements a rest) = (statement_names s ws h a, statements_names s ws h rest)

  pub case_names : (s : Scope) (ws : List ℕ) → AreSignals s ws → (c : CaseTree) → CaseNamesOf s c ws
  case_names s ws h (Match es a) = (labels_names s ws h es, statement_names s ws h a)
  case_names s ws h (Default a) = statement_names s ws h a

  pub cases_names : (s : Scope) (ws : List ℕ) → AreSignals s ws → (cs : CaseTrees) → CasesNamesOf s cs ws
  cases_names s ws h no_case = tt
  cases_names s ws h (more_cases c cs) = (case_names s ws h c, cases_names s ws h cs)
