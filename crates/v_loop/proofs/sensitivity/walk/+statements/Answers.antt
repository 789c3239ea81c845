-- Blocks, case statements and loops.
use Rattle.std.proofs.Common.{rules, ◌≡◌, ℕ, List, map, None, Some, ap, subst, sym, ◌∙◌}
use Rattle.v_syntax.specs.declared.statement.CaseItem.TheViews.{the_lemmas}
use Rattle.v_syntax.specs.declared.statement.CaseItem as code_item
use Rattle.v_syntax.specs.ExpressionTrees as expression
use Rattle.v_syntax.specs.StatementTrees.{StatementTree, Case, case_trees, view, view_case, view_header}
use Rattle.v_flat.specs.declared.scope.found.Found.{Found}
use Rattle.v_flat.specs.declared.scope.meaning.DataObject.{DataObject}
use Rattle.v_flat.specs.Scope.Scope.{find, means}
use Rattle.v_flat.specs.Statements.{Span, Turns, cases_read, known_turns, read_in_turns, reads, statement_reads, turn, turns, with_counter}
use Rattle.v_loop.specs.Reads.Reads.{Adds}
use Rattle.v_loop.proofs.Rows.{row_cases, row_statements}
use Rattle.v_loop.proofs.SensitivityLemmas.Looping.{adds_then, counted_read, object_read}
use Rattle.v_loop.proofs.sensitivity.walk.+statements.Goals as goal

pub add-returns-in-Block-clause-added : goal.add-returns-in-Block-clause-added
add-returns-in-Block-clause-added t c = search (rules, the_lemmas, row_statements)

pub add-returns-in_ok-add_expression-in-Case-clause-added : goal.add-returns-in_ok-add_expression-in-Case-clause-added
add-returns-in_ok-add_expression-in-Case-clause-added t c =
    let s = means c.args.scope.now in
    let xs = c.in-Case.items.items in
    let v = expression.view c.in-Case.selector in
    let e : view c.args.tree.now ≡ Case c.in-Case.kind v (case_trees (map view_case xs)) = search (rules, the_lemmas, row_cases) in
    let a = c.add_expression-in-Case.new.spans.items in
    let done = c.in_ok-add_expression-in-Case.ensures in
    let more : Adds a c.add_items.new.spans.items (cases_read s (case_trees (map view_case xs))) c.add_items.result =
    subst (λ (ys : List code_item.CaseItem). Adds a c.add_items.new.spans.items (cases_read s (case_trees (map view_case ys))) c.add_items.result)
    c.deref-in-Case.ensures.value c.add_items.ensures.added in
    let h = adds_then c.args.spans.now.items a c.add_items.new.spans.items (reads s v) (cases_read s (case_trees (map view_case xs))) c.add_items.result
    done.all done.front more in
    subst (λ (x : StatementTree). Adds c.args.spans.now.items c.add_items.new.spans.items (statement_reads s x) c.add_items.result) (sym e) h

pub add_counted-returns-in-Sound-clause-added : goal.add_counted-returns-in-Sound-clause-added
add_counted-returns-in-Sound-clause-added t c =
    subst (λ (xs : List Span). Adds c.args.spans.now.items c.add_turns.new.spans.items xs c.add_turns.result)
    (counted_read (means c.args.scope.now) (means c.turns.new.scope) c.bytes-name.result.now c.args.header.now.initial.name.name c.args.object c.args.place
    (view_header c.args.header.now) (view c.args.body.now) c.in_ok-turns.field-0 c.in-Sound.turns c.values.result.now c.in_ok-turns.ensures.scope c.bytes-name.ensures
    c.in_ok-turns.ensures.value (ap (λ (f : Found Turns). known_turns f) c.in-Sound.is) c.values.ensures)
    c.add_turns.ensures.added

pub add_counted-returns-in-Noted-clause-added : goal.add_counted-returns-in-Noted-clause-added
add_counted-returns-in-Noted-clause-added t c =
    subst (λ (xs : List Span). Adds c.args.spans.now.items c.add_turns-in-Noted.new.spans.items xs c.add_turns-in-Noted.result)
    (counted_read (means c.args.scope.now) (means c.turns.new.scope) c.bytes-name.result.now c.args.header.now.initial.name.name c.args.object c.args.place
    (view_header c.args.header.now) (view c.args.body.now) c.in_ok-turns.field-0 c.in-Noted.turns c.values-in-Noted.result.now c.in_ok-turns.ensures.scope
    c.bytes-name.ensures c.in_ok-turns.ensures.value (ap (λ (f : Found Turns). known_turns f) c.in-Noted.is) c.values-in-Noted.ensures)
    c.add_turns-in-Noted.ensures.added

pub add_loop-returns-in-Some-clause-added : goal.add_loop-returns-in-Some-clause-added
add_loop-returns-in-Some-clause-added t c =
    let s = means c.args.scope.now in
    let n = c.args.header.now.initial.name.name in
    subst (λ (xs : List Span). Adds c.args.spans.now.items c.add_counted.new.spans.items xs c.add_counted.result)
    (sym (object_read (find n s) c.in-Some.object
    (λ o. read_in_turns (λ v. statement_reads (turn n o v s) (view c.args.body.now)) (known_turns (turns c.args.place (view_header c.args.header.now) s o)).0)
    (ap (λ (k : List ℕ). with_counter (find k s) (λ (q : DataObject). Some q) None) (sym c.bytes.ensures) ∙ sym c.counter.ensures ∙ c.in-Some.is)))
    c.add_counted.ensures.added
