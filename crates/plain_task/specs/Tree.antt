-- A means of proof: what stands at a place in the trees of a file, for the proofs of tasks that keep such places.
use Rattle.test_meaning.specs.Body.BodyTrees.{NoHandler, NoItem}
use Rattle.test_meaning.specs.Body.Views.{block_of, else_of, handlers_of}
use Rattle.task_core.specs.Code.Reading.{Reading}
use Rattle.plain_task.specs.declared.tree.Tree.{Tree}
use Rattle.plain_task.specs.declared.tree.Tree.TheVariants as tree

abbrev pub read_tree : Tree → Reading
read_tree (tree.Items is) = record { block = block_of is.now; handlers = NoHandler }
read_tree (tree.Else elifs other) = record { block = else_of elifs.now (block_of other.now); handlers = NoHandler }
read_tree (tree.Handlers hs) = record { block = NoItem; handlers = handlers_of hs.now }
