use Rattle.std.proofs.Common.{refl}
use Rattle.task_compile.proofs.Reading.{compiled_more}
use Rattle.task_compile.proofs.compiling.compile.Goals as goal

pub loop-at-preserved : goal.loop-at-preserved
loop-at-preserved c =
    compiled_more c.loop-at.states.items c.add_block.new.states.items c.loop-at.functions.items c.push.new.self.items c.args.file.now.functions c.loop-at.at
    c.in_ok-first.first c.get-function.result.now _ c.get-function.ensures c.loop-at.invariant (rw c.deref.ensures.value at c.in_ok-first.ensures) c.in_ok-push.ensures.items refl refl refl
