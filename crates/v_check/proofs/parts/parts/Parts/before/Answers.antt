-- A part before others.
use Rattle.std.proofs.Common.{IfOk, subst}
use Rattle.v_flat.specs.declared.scope.found.Found.{Found}
use Rattle.v_check.specs.declared.constants.checked.Checked.{Checked}
use Rattle.v_check.specs.declared.parts.parts.Parts.{Parts}
use Rattle.v_check.specs.Parts.Made.{AreMore}
use Rattle.v_check.proofs.PartsLemmas.Added.{more_result}
use Rattle.v_check.proofs.parts.parts.Parts.before.Goals as goal

pub returns : goal.returns
returns c = more_result c.args.part c.args.rest c.of_both.result
    (subst (λ (x : Found (Checked × Parts)). IfOk c.of_both.result (AreMore x)) c.both.ensures c.of_both.ensures)
