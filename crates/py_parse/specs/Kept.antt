-- A means of proof: what the code keeps, without where it lies in memory.
use Rattle.std.specs.Prelude.{List, map, reverse}
use Rattle.py_syntax.specs.BlockTrees.{block_of, view_module_item}
use Rattle.py_parse.specs.declared.partial_block.PartialBlock as code
use Rattle.py_parse.specs.declared.partial_block.PartialBlocks.{PartialBlocks}
use Rattle.py_parse.specs.declared.nest.Nest as code_nest
use Rattle.py_parse.specs.Nesting.{PartialBlock, Nest}

abbrev pub block_in : code.PartialBlock → PartialBlock
block_in l = record { depth = l.depth; block = block_of (reverse l.items.items) }

abbrev pub blocks_in : PartialBlocks → List PartialBlock
blocks_in ls = map block_in (reverse ls.blocks.items)

abbrev pub nest_in : code_nest.Nest → Nest
nest_in n = record { items = map view_module_item (reverse n.items.items); blocks = blocks_in n.blocks }
