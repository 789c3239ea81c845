use Rattle.std.proofs.Common.{◌≤◌, length, drop}
use Rattle.test_meaning.specs.Body.Views.{block_of, else_of, handlers_of}
use Rattle.task_compile.specs.Reading.{Adds, AddsHandlers, block_at}
use Rattle.task_compile.proofs.blocks.+blocks.Given as goal

abbrev pub invariant-add_block-loop-at : goal.invariant-add_block-loop-at
invariant-add_block-loop-at l = record {
  inside : l.at ≤ length l.block;
  added : Adds l.fn.states.items l.states.items l.next (block_of (drop l.at l.block));
}

abbrev pub decreases-add_block-loop-at : goal.decreases-add_block-loop-at
decreases-add_block-loop-at l = l.at

abbrev pub invariant-add_elifs-loop-at : goal.invariant-add_elifs-loop-at
invariant-add_elifs-loop-at l = record {
  inside : l.at ≤ length l.elifs;
  added : Adds l.fn.states.items l.states.items l.second (else_of (drop l.at l.elifs) (block_at l.fn.states.items l.fn.second));
}

abbrev pub decreases-add_elifs-loop-at : goal.decreases-add_elifs-loop-at
decreases-add_elifs-loop-at l = l.at

abbrev pub invariant-add_handlers-loop-at : goal.invariant-add_handlers-loop-at
invariant-add_handlers-loop-at l = record {
  inside : l.at ≤ length l.handlers;
  added : AddsHandlers l.fn.states.items l.states.items l.next (handlers_of (drop l.at l.handlers));
}

abbrev pub decreases-add_handlers-loop-at : goal.decreases-add_handlers-loop-at
decreases-add_handlers-loop-at l = l.at
