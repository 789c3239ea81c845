use Rattle.std.proofs.Common.{◌≤◌, ◌<◌, ◌+◌, length, refl, rules}
use Rattle.task_core.proofs.FlowLemmas.Calls.{settles_opened, settles_refused}
use Rattle.task_core.proofs.flow.flow.CodeFlow.open.Goals as goal

pub returns-in_ok-push-clause-opened : goal.returns-in_ok-push-clause-opened
returns-in_ok-push-clause-opened g c =
    let few : length c.args.self.now.around.items + 1 < 1000 = search rules in
    settles_opened g.C.Code.reads c.args.self.now (record c.args.self.now { call = c.replace.new.dest; around = c.push.new.self }) c.args.function c.args.arguments.now c.in_ok-inner.inner
    few refl refl c.requires (search rules) c.in_ok-inner.ensures (search rules)

pub returns-else-len-lt-FRAME_LIMIT-clause-opened : goal.returns-else-len-lt-FRAME_LIMIT-clause-opened
returns-else-len-lt-FRAME_LIMIT-clause-opened g c =
    let many : 1000 ≤ length c.args.self.now.around.items + 1 = search rules in
    settles_refused g.C.Code.reads c.args.self.now (record c.args.self.now { call = record c.args.self.now.call { course = c.put.new.place } }) c.args.function c.args.arguments.now
    many refl refl c.requires refl (search rules)
