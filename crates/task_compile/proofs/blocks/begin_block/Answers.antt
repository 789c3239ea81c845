use Rattle.std.proofs.lemmas.Result.{IfOk-weaker}
use Rattle.task_compile.specs.Reading.{block_at}
use Rattle.task_compile.proofs.Reading.{block_begun}
use Rattle.task_compile.proofs.blocks.begin_block.Goals as goal

pub returns : goal.returns
returns c =
    IfOk-weaker c.begin.result _ _ (λ n h. block_begun c.args.states.now.items c.begin.new.states.items n c.args.item.now
    (block_at c.args.states.now.items c.args.first) (block_at c.args.states.now.items c.args.next) h) c.begin.ensures
