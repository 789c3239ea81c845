-- A means of proof: what a process waits for that reads some signals (IEEE 1364-2005, clauses 6.1.2 and 9.7.5), for the proofs of
-- elaboration.
use Rattle.std.specs.Prelude.{◌≡◌, ℕ, List, length}
use Rattle.std.specs.List.{filter, range_with_len}
use Rattle.gpi.specs.declared.design.Wake.{Wake}
use Rattle.v_flat.specs.Statements.{Span}
use Rattle.v_flat.specs.Design.{Design, is_read, wakes_of}
use Rattle.v_loop.specs.declared.reads.span.Span as code

-- in each design of so many signals they are the wakes of a process that reads these
abbrev pub WaitForAll : List Span → ℕ → List Wake → Type 0
WaitForAll xs count ws = (d : Design) → length d.signals ≡ count → ws ≡ wakes_of xs d

-- the numbers below this one that are read, by rising number
abbrev pub read_below : List Span → ℕ → List ℕ
read_below xs count = filter (λ n. is_read n xs) (range_with_len 0 count)

-- the first signal of a span
abbrev pub first_of : code.Span → ℕ
first_of x = x.first
