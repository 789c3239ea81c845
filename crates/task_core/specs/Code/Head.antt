-- A means of proof: the statement that stands at a place, for the proofs of tasks that keep such places.
use Rattle.py_syntax.specs.ExpressionTrees.{view}
use Rattle.test_meaning.specs.Body.BodyTrees.{Block, Handlers, Item, If}
use Rattle.task_compile.specs.Reading.{with_blocks}
use Rattle.task_core.specs.Code.Reading.{Reading}
use Rattle.task_core.specs.declared.code.first.Begun.{Begun}
use Rattle.task_core.specs.declared.code.first.Begun.TheVariants as begun
use Rattle.task_core.specs.declared.code.first.Head.{Head}

-- with these blocks, and these handlers
abbrev pub begun_with : Begun → Block → Block → Handlers → Item
begun_with (begun.Item i) a b hs = with_blocks i.now a b hs
begun_with (begun.Elif e) a b hs = If (view e.now) a b

abbrev pub head_in : {C : Type 0} → (C → Reading) → Head C → Item
head_in r h = begun_with h.begun (r h.first).block (r h.second).block (r h.second).handlers
