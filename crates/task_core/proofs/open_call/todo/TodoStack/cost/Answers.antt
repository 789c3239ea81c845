use Rattle.std.proofs.Common.{◌≤◌, length, sym, ◌∙◌, rules}
use Rattle.task_core.proofs.OpenCallLemmas.Unwound.{cost_found, cost_passed}
use Rattle.task_core.proofs.open_call.todo.TodoStack.cost.Goals as goal

pub returns-in-Some : goal.returns-in-Some
returns-in-Some g c =
    let some : 1 ≤ c.loop-at.at = search rules in
    let inside : c.loop-at.at ≤ length c.args.self.now.parts.items = search rules in
    sym (c.loop-at.invariant ∙ cost_found g.C.Code.reads c.args.self.now.parts.items c.loop-at.at c.index.result.now c.in-Some.cost some inside c.index.ensures c.in-Some.ensures)

pub loop-at-preserved : goal.loop-at-preserved
loop-at-preserved g c =
    let some : 1 ≤ c.loop-at.at = search rules in
    let inside : c.loop-at.at ≤ length c.args.self.now.parts.items = search rules in
    c.loop-at.invariant ∙ cost_passed g.C.Code.reads c.args.self.now.parts.items c.loop-at.at c.index.result.now some inside c.index.ensures c.in-None.ensures
