use Rattle.std.proofs.Common.{◌++◌, None, Some, sym, ap, ◌∙◌}
use Rattle.test_meaning.specs.Body.BodyTrees.{Block}
use Rattle.rig_model.specs.Task.Cost.{first_cost}
use Rattle.rig_model.specs.Task.Frame.{items}
use Rattle.task_core.proofs.StatesLemmas.{read_begun, read_no_block}
use Rattle.task_core.proofs.states.numbered.NumberedCode.cost.Goals as goal

pub returns-in-Some-begun_of : goal.returns-in-Some-begun_of
returns-in-Some-begun_of c rest =
    ap (λ (b : Block). first_cost (items b ++ rest))
    (read_begun c.args.self.program.now.states.items c.args.self.number c.in-Some.state (Some c.in-Some-begun_of.begun) c.in-Some.ensures c.in-Some-begun_of.ensures)
    ∙ sym (c.cost.ensures _ _ _)

pub returns-in-None-begun_of : goal.returns-in-None-begun_of
returns-in-None-begun_of c =
    read_begun c.args.self.program.now.states.items c.args.self.number c.in-Some.state None c.in-Some.ensures c.in-None-begun_of.ensures

pub returns-in-None : goal.returns-in-None
returns-in-None c = read_no_block c.args.self.program.now.states.items c.args.self.number c.in-None.ensures
