-- A means of proof: what the code keeps, without where it lies in memory.
use Rattle.std.specs.Prelude.{reverse}
use Rattle.test_functions.specs.declared.blocks.tail.Tail as code
use Rattle.test_meaning.specs.Body.Views.{block_of, else_of, handlers_of}
use Rattle.test_meaning.specs.Bodies.{Tail}

-- what stands in a block from some place on; the code has items, each `elif`, and handlers with the last one first
abbrev pub tail_in : code.Tail → Tail
tail_in t = record {
  items = block_of (reverse t.items.items);
  other = else_of (reverse t.elifs.items) (block_of t.other.items);
  handlers = handlers_of (reverse t.handlers.items);
}
