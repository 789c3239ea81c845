-- What is found behind what was found before.
use Rattle.std.proofs.Common.{sym, subst}
use Rattle.std.proofs.lemmas.Result.{IfOk-weaker}
use Rattle.v_flat.specs.declared.scope.found.Found.{Found}
use Rattle.v_elab.specs.declared.state.State as code
use Rattle.v_elab.specs.ItemsSteps.{GoesThrough, IsStep}
use Rattle.v_elab.proofs.Turns.{after_value, after_noted}
use Rattle.v_elab.proofs.lists.then.Goals as goal

pub returns-in-Sound : goal.returns-in-Sound
returns-in-Sound g c =
    let step = g.T.Step.step c.args.element.now in
    IfOk-weaker c.found.result (IsStep step c.in-Sound.state) (GoesThrough step c.args.found)
    (λ (more : Found code.State) is. subst (λ (f : Found code.State). GoesThrough step f more) (sym c.in-Sound.is) (after_value step c.in-Sound.state more is))
    c.found.ensures

pub returns-in_ok-found-in-Noted : goal.returns-in_ok-found-in-Noted
returns-in_ok-found-in-Noted g c =
    let step = g.T.Step.step c.args.element.now in
    subst (λ (f : Found code.State). GoesThrough step f c.noted.result) (sym c.in-Noted.is)
    (after_noted step c.in-Noted.fault c.in-Noted.state c.in_ok-found-in-Noted.field-0 c.noted.result c.in_ok-found-in-Noted.ensures c.noted.ensures)
