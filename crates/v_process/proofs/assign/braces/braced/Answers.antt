-- Braces where no rule is broken in the parts, and where one is.
use Rattle.std.proofs.Common.{IfOk, sym, subst}
use Rattle.v_flat.specs.declared.scope.found.Found.{Found}
use Rattle.v_flat.specs.declared.scope.found.Found.TheVariants.{Noted}
use Rattle.v_process.specs.declared.target.checked.CheckedTarget.{CheckedTarget}
use Rattle.v_process.specs.declared.assign.parts.TargetParts.{TargetParts}
use Rattle.v_process.specs.Assign.Targets.{ChecksBraces}
use Rattle.v_process.proofs.AssignLemmas.Whole.{noted_result, sound_result}
use Rattle.v_process.proofs.assign.braces.braced.Goals as goal

pub returns-in-Sound : goal.returns-in-Sound
returns-in-Sound c =
    subst (λ (y : Found TargetParts). IfOk c.closed.result (ChecksBraces c.args.place y)) (sym c.in-Sound.is)
    (sound_result c.args.place c.in-Sound.x c.closed.result c.closed.ensures)

pub returns-in_ok-closed-in-Noted : goal.returns-in_ok-closed-in-Noted
returns-in_ok-closed-in-Noted c =
    let p = c.args.place in
    let a = c.in-Noted.fault in
    let x = c.in-Noted.x in
    subst (λ (y : Found TargetParts). ChecksBraces p y c.noted.result) (sym c.in-Noted.is)
    (subst (λ (g : Found CheckedTarget). ChecksBraces p (Noted a x) g) (sym c.noted.ensures)
    (noted_result p a x c.in_ok-closed-in-Noted.field-0 c.in_ok-closed-in-Noted.ensures))
