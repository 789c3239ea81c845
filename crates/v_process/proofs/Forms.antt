-- The forms of statements, from what was found in their parts.
use Rattle.std.proofs.Common.{ℕ, List, Option, Result, Ok, Err, IfOk}
use Rattle.gpi.specs.declared.acts.Act.{Act}
use Rattle.v_syntax.specs.declared.statement.CaseKind.{CaseKind}
use Rattle.v_syntax.specs.ExpressionTrees.{Tree}
use Rattle.v_syntax.specs.StatementTrees.{StatementTree, StatementTrees, CaseTrees, Block, If, IfElse, Case, Match, Default}
use Rattle.v_flat.specs.declared.scope.found.Found.{Found}
use Rattle.v_flat.specs.Scope.Scope.{Scope}
use Rattle.v_flat.specs.declared.timing.Timing.{Timing}
use Rattle.v_flat.specs.Statements.{statement_checked, statements_checked, cases_checked}
use Rattle.v_check.specs.declared.constants.checked.Checked.{Checked}
use Rattle.v_check.specs.Constants.Checked.{IsChecked}
use Rattle.v_process.specs.declared.act.sequences.BlockParts.{BlockParts}
use Rattle.v_process.specs.declared.act.cases.CaseLabels.{CaseLabels}
use Rattle.v_process.specs.declared.act.cases.CaseParts.{CaseParts}
use Rattle.v_process.specs.Act.Statements.{ChecksBlock, ChecksIf, ChecksIfElse, IsFoundStatement}
use Rattle.v_process.specs.Act.Cases.{AreLabels, ChecksCase, ChecksItem, ChecksDefault}
use Rattle.v_process.specs.Lists.{AreFoundStatements, AreFoundCases, IsFoundCase}

module _ (timing : Timing) (s : Scope) where
  pub block_found : {E : Type 0} (l : Option (List ℕ)) (ss : StatementTrees) (x : Found BlockParts) (r : Result (Found Act) E) → AreFoundStatements timing s ss x
      → IfOk r (ChecksBlock x) → IfOk r (IsFoundStatement timing s (Block l ss))
  block_found l ss x (Ok f) h made = made timing s l ss (statements_checked timing s ss) h
  block_found l ss x (Err e) h made = tt

  pub then_found : {E : Type 0} (c : Tree) (a : StatementTree) (x : Found Checked) (y : Found Act) (r : Result (Found Act) E) → IsChecked s c x
      → IsFoundStatement timing s a y → IfOk r (ChecksIf x y) → IfOk r (IsFoundStatement timing s (If c a))
  then_found c a x y (Ok f) g h made = made timing s c a (statement_checked timing s a) g h
  then_found c a x y (Err e) g h made = tt

  pub else_found : {E : Type 0} (c : Tree) (a b : StatementTree) (x : Found Checked) (y z : Found Act) (r : Result (Found Act) E) → IsChecked s c x
      → IsFoundStatement timing s a y → IsFoundStatement timing s b z → IfOk r (ChecksIfElse x y z) → IfOk r (IsFoundStatement timing s (IfElse c a b))
  else_found c a b x y z (Ok f) g h k made = made timing s c a b (statement_checked timing s a) (statement_checked timing s b) g h k
  else_found c a b x y z (Err e) g h k made = tt

  pub case_found : {E : Type 0} (kind : CaseKind) (e : Tree) (cs : CaseTrees) (x : Found Checked) (y : Found CaseParts) (r : Result (Found Act) E) → IsChecked s e x
      → AreFoundCases timing s cs y → IfOk r (ChecksCase kind x y) → IfOk r (IsFoundStatement timing s (Case kind e cs))
  case_found kind e cs x y (Ok f) g h made = made timing s e cs (cases_checked timing s cs) g h
  case_found kind e cs x y (Err d) g h made = tt

  pub item_found : {E : Type 0} (es : List Tree) (a : StatementTree) (x : Found CaseLabels) (y : Found Act) (z : Found CaseParts) (r : Result (Found CaseParts) E)
      → AreLabels s es x → IsFoundStatement timing s a y → IfOk r (ChecksItem x y z) → IfOk r (IsFoundCase timing s (Match es a) z)
  item_found es a x y z (Ok f) g h made = λ cs k. made timing s es a cs (statement_checked timing s a) (cases_checked timing s cs) g h k
  item_found es a x y z (Err e) g h made = tt

  pub default_found : (a : StatementTree) (y : Found Act) (z f : Found CaseParts) → IsFoundStatement timing s a y → ChecksDefault y z f
      → IsFoundCase timing s (Default a) z f
  default_found a y z f h made = λ cs k. made timing s a cs (statement_checked timing s a) (cases_checked timing s cs) h k
