-- A means of proof: the signals that the code tells, as the definition has them, and what a list of them holds to which more are added, for
-- the proofs of elaboration.
use Rattle.std.specs.Prelude.{◌≡◌, List, ◌++◌, length, map, take, Result, OnOk}
use Rattle.port_io.specs.declared.ports.NoMemory.{NoMemory}
use Rattle.v_flat.specs.Statements.{Span}
use Rattle.v_loop.specs.declared.reads.span.Span as code

abbrev pub span_of : code.Span → Span
span_of x = record { first = x.first; count = x.count }

abbrev pub spans_of : List code.Span → List Span
spans_of xs = map span_of xs

-- what is read stands behind what stood before; after want of memory, which may leave some of it behind, what stood before is the front
pub record Adds (old new : List code.Span) (read : List Span) (done : Result (Unit {0}) NoMemory) : Type 0 where
  pub all : OnOk done (spans_of new ≡ spans_of old ++ read)
  pub front : take (length old) new ≡ old
