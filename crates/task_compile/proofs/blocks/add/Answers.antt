use Rattle.std.proofs.Common.{◌≡◌, suc, length, arith}
use Rattle.std.proofs.lemmas.Grind.{common_steps}
use Rattle.task_compile.proofs.Reading.{added}
use Rattle.task_compile.proofs.blocks.add.Goals as goal

pub returns : goal.returns
returns c =
    let n : c.len.result ≡ suc (length c.args.states.now.items) = grind (arith, common_steps) in
    added c.args.states.now.items c.push.new.self.items c.args.state c.len.result c.in_ok-push.ensures.items c.requires n
