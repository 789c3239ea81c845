-- One more before those behind it.
use Rattle.std.proofs.Common.{◌≡◌, ℕ, ◌+◌, ◌<◌, List, ◌∷◌, length, map, drop, get_or, sym, subst}
use Rattle.std.proofs.lemmas.List.{drop_more}
use Rattle.v_syntax.specs.declared.expression.Expression as code_expression
use Rattle.v_syntax.specs.declared.statement.Statement as code
use Rattle.v_syntax.specs.declared.statement.CaseItem as code_item
use Rattle.v_syntax.specs.ExpressionTrees as expression
use Rattle.v_syntax.specs.StatementTrees.{more_statements, more_cases, view, view_case}
use Rattle.v_flat.specs.declared.scope.found.Found.{Found}
use Rattle.v_flat.specs.Scope.Scope.{Scope}
use Rattle.v_flat.specs.declared.timing.Timing.{Timing}
use Rattle.v_flat.specs.Statements.{statement_checked, statements_checked}
use Rattle.v_check.specs.declared.constants.checked.Checked.{Checked}
use Rattle.v_check.specs.Constants.Checked.{IsChecked}
use Rattle.gpi.specs.declared.acts.Act.{Act}
use Rattle.v_process.specs.declared.act.sequences.BlockParts.{BlockParts}
use Rattle.v_process.specs.declared.act.cases.CaseLabels.{CaseLabels}
use Rattle.v_process.specs.declared.act.cases.CaseParts.{CaseParts}
use Rattle.v_process.specs.Act.Statements.{ChecksMoreStatements, IsFoundStatement}
use Rattle.v_process.specs.Act.Cases.{AreLabels, ChecksMoreLabels}
use Rattle.v_process.specs.Lists.{AreFoundStatements, AreFoundCases, IsFoundCase, statement_list, case_list}

pub more_labels : (s : Scope) (xs : List code_expression.Expression) (i : ℕ) (d : code_expression.Expression) (x : Found Checked) (y f : Found CaseLabels)
    → i < length xs → d ≡ get_or xs i d → IsChecked s (expression.view d) x → AreLabels s (map expression.view (drop (i + 1) xs)) y → ChecksMoreLabels x y f
    → AreLabels s (map expression.view (drop i xs)) f
more_labels s xs i d x y f h q g k made =
    subst (λ (ys : List code_expression.Expression). AreLabels s (map expression.view ys) f) (sym (drop_more xs i d h))
    (subst (λ (z : code_expression.Expression). AreLabels s (expression.view z ∷ map expression.view (drop (i + 1) xs)) f) q
    (made s (expression.view d) (map expression.view (drop (i + 1) xs)) g k))

pub more_found : (timing : Timing) (s : Scope) (xs : List code.Statement) (i : ℕ) (d : code.Statement) (x : Found Act) (y f : Found BlockParts)
    → i < length xs → d ≡ get_or xs i d → IsFoundStatement timing s (view d) x → AreFoundStatements timing s (statement_list (drop (i + 1) xs)) y → ChecksMoreStatements x y f
    → AreFoundStatements timing s (statement_list (drop i xs)) f
more_found timing s xs i d x y f h q g k made =
    let rest = statement_list (drop (i + 1) xs) in
    subst (λ (ys : List code.Statement). AreFoundStatements timing s (statement_list ys) f) (sym (drop_more xs i d h))
    (subst (λ (z : code.Statement). AreFoundStatements timing s (more_statements (view z) rest) f) q
    (made timing s (view d) rest (statement_checked timing s (view d)) (statements_checked timing s rest) g k))

pub more_items : (timing : Timing) (s : Scope) (xs : List code_item.CaseItem) (i : ℕ) (d : code_item.CaseItem) (y f : Found CaseParts)
    → i < length xs → d ≡ get_or xs i d → AreFoundCases timing s (case_list (drop (i + 1) xs)) y → IsFoundCase timing s (view_case d) y f
    → AreFoundCases timing s (case_list (drop i xs)) f
more_items timing s xs i d y f h q k made =
    let rest = case_list (drop (i + 1) xs) in
    subst (λ (ys : List code_item.CaseItem). AreFoundCases timing s (case_list ys) f) (sym (drop_more xs i d h))
    (subst (λ (z : code_item.CaseItem). AreFoundCases timing s (more_cases (view_case z) rest) f) q (made rest k))
