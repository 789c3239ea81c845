use Rattle.std.proofs.Common.{None, Some, refl, ◌∙◌}
use Rattle.task_core.proofs.StatesLemmas.{read_begun, read_no_block}
use Rattle.task_core.proofs.states.numbered.NumberedCode.first.Goals as goal

pub returns-in-Some-begun_of : goal.returns-in-Some-begun_of
returns-in-Some-begun_of c =
    read_begun c.args.self.program.now.states.items c.args.self.number c.in-Some.state (Some c.in-Some-begun_of.begun) c.in-Some.ensures c.in-Some-begun_of.ensures
    ∙ rw (c.lower.ensures, c.lower-in-Some-begun_of.ensures, c.lower-in-Some-begun_of-2.ensures) refl

pub returns-in-None-begun_of : goal.returns-in-None-begun_of
returns-in-None-begun_of c =
    read_begun c.args.self.program.now.states.items c.args.self.number c.in-Some.state None c.in-Some.ensures c.in-None-begun_of.ensures

pub returns-in-None : goal.returns-in-None
returns-in-None c = read_no_block c.args.self.program.now.states.items c.args.self.number c.in-None.ensures
