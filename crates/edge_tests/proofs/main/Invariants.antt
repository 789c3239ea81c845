use Rattle.fast_kernel.specs.Whole.{HoldsDesign, kernel_content}
use Rattle.list_kernel.specs.Kernel.{IsLoaded, content_of}
use Rattle.edge_tests.specs.Kernel.Calls.{IsBook}
use Rattle.edge_tests.proofs.main.Given as goal

abbrev pub invariant-loop-line : goal.invariant-loop-line
invariant-loop-line l =
    (goal.iterator-loop-line).can_next l.line-iterator × (goal.iterator-loop-line).is_finite l.line-iterator
    × IsLoaded l.plain × IsBook l.plain_book (content_of l.plain)
    × HoldsDesign l.fast × IsBook l.fast_book (kernel_content l.fast)
