-- The words that are left.
use Rattle.std.proofs.Common.{◌+◌, ◌-◌, option_map}
use Rattle.v_flat.specs.Scope.Scope.{width_of}
use Rattle.v_flat.specs.Declarations.{kind_of}
use Rattle.v_flat.specs.Design.{start_of}
use Rattle.v_layout.specs.Kept.{sort_in}
use Rattle.v_layout.specs.Steps.{memory_at, words_at}
use Rattle.v_layout.proofs.Adding.{IsLeft}
use Rattle.v_layout.proofs.signals.add_words.Given as goal

abbrev pub invariant-loop-index : goal.invariant-loop-index
invariant-loop-index l =
    IsLeft l.initial.signals (memory_at l.path l.declared l.fn.words)
    (words_at l.path (width_of l.declared.bounds) (start_of (kind_of l.declared.direction (option_map sort_in l.declared.sort))) l.index ((l.high + 1) - l.index))
    l.signals
