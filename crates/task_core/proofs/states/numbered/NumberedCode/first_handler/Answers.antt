use Rattle.std.proofs.Common.{inl, inr, refl, ◌∙◌}
use Rattle.task_compile.specs.declared.program.Action.TheVariants as action
use Rattle.task_core.proofs.StatesLemmas.{read_handler, read_no_handler}
use Rattle.task_core.proofs.states.numbered.NumberedCode.first_handler.Goals as goal

pub returns-in-Except : goal.returns-in-Except
returns-in-Except c =
    read_handler c.args.self.program.now.states.items c.args.self.number c.in-Some.state (action.Except c.in-Except.caught) c.in-Some.ensures c.in-Except.is
    ∙ rw (c.lower.ensures, c.lower-in-Except.ensures) refl

pub returns-in-Begin : goal.returns-in-Begin
returns-in-Begin c = elim c.in-Begin.is [
  | inl x ↦ read_handler c.args.self.program.now.states.items c.args.self.number c.in-Some.state (action.Begin x.0) c.in-Some.ensures x.1
  | inr x ↦ read_handler c.args.self.program.now.states.items c.args.self.number c.in-Some.state (action.Elif x.0) c.in-Some.ensures x.1
]

pub returns-in-None : goal.returns-in-None
returns-in-None c = read_no_handler c.args.self.program.now.states.items c.args.self.number c.in-None.ensures
