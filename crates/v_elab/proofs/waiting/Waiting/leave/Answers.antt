-- The name is known, and nothing waits.
use Rattle.std.proofs.Common.{sym, subst}
use Rattle.v_elab.specs.declared.walked.Walked.{Walked}
use Rattle.v_elab.specs.Enters.{Leaves}
use Rattle.v_elab.proofs.InnerMade.{leaves_all}
use Rattle.v_elab.proofs.waiting.Waiting.leave.Goals as goal

pub returns : goal.returns
returns c =
    subst (λ (z : Walked). Leaves c.args.name.now c.args.self c.args.parts z) (sym c.walked.ensures) (leaves_all c.args.name.now c.args.self c.note.new.self c.args.parts c.in_ok-note.ensures)
