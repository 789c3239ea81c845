-- A means of proof: what contracts see of the open blocks.
use Rattle.std.specs.Prelude.{List, reverse}
use Rattle.py_syntax.specs.declared.outline.OpenBlock.{OpenBlock}
use Rattle.py_parse.specs.declared.blocks.Blocks.TheInside.{Inside}

abbrev pub blocks_view : Inside → List OpenBlock
blocks_view a = reverse a.blocks.items
