-- What was read, what is left, what stood before, and what names mean.
use Rattle.std.proofs.Common.{◌≡◌, ◌++◌, drop, length, map, take}
use Rattle.v_flat.specs.Scope.Scope.{means}
use Rattle.v_syntax.specs.StatementTrees.{case_trees, statement_trees, view, view_case}
use Rattle.v_flat.specs.Statements.{cases_read, read_in_turns, statement_reads, statements_read, turn}
use Rattle.v_loop.specs.Reads.Reads.{spans_of}
use Rattle.v_loop.proofs.sensitivity.walk.+statements.Given as goal

abbrev pub invariant-add_all-loop-statement : goal.invariant-add_all-loop-statement
invariant-add_all-loop-statement l = record {
  all : spans_of l.initial.spans.items ++ statements_read (means l.initial.scope) (statement_trees (map view l.statements))
      ≡ spans_of l.spans.items ++ statements_read (means l.initial.scope) (statement_trees (map view (drop l.statement-index l.statements)));
  front : take (length l.initial.spans.items) l.spans.items ≡ l.initial.spans.items;
  same : means l.scope ≡ means l.initial.scope;
}

abbrev pub invariant-add_items-loop-item : goal.invariant-add_items-loop-item
invariant-add_items-loop-item l = record {
  all : spans_of l.initial.spans.items ++ cases_read (means l.initial.scope) (case_trees (map view_case l.items))
      ≡ spans_of l.spans.items ++ cases_read (means l.initial.scope) (case_trees (map view_case (drop l.item-index l.items)));
  front : take (length l.initial.spans.items) l.spans.items ≡ l.initial.spans.items;
  same : means l.scope ≡ means l.initial.scope;
}

abbrev pub invariant-add_turns-loop-value : goal.invariant-add_turns-loop-value
invariant-add_turns-loop-value l = record {
  all : spans_of l.initial.spans.items ++ read_in_turns (λ v. statement_reads (turn l.name l.object v (means l.initial.scope)) (view l.body)) l.values
      ≡ spans_of l.spans.items ++ read_in_turns (λ v. statement_reads (turn l.name l.object v (means l.initial.scope)) (view l.body)) (drop l.value-index l.values);
  front : take (length l.initial.spans.items) l.spans.items ≡ l.initial.spans.items;
  same : means l.scope ≡ means l.initial.scope;
}
