-- The state, by the declared names in their order.
use Rattle.std.proofs.Common.{◌∙◌, IfOk, ap, length, subst, sym}
use Rattle.v_layout.specs.Fits.{Fit}
use Rattle.v_layout.specs.Order.{lines_in}
use Rattle.v_elab.specs.Opens.{Opens}
use Rattle.v_elab.proofs.opened.opening.Goals as goal

pub with_lines-requires-clause-fit : goal.with_lines-requires-clause-fit
with_lines-requires-clause-fit c =
    subst (λ ds. Fit (length c.args.parts.signals) ds) (sym (ap lines_in c.deref.ensures.value ∙ c.in_ok-lines.ensures)) c.requires.fit

pub returns-clause-opens : goal.returns-clause-opens
returns-clause-opens c = subst (λ ds. IfOk c.with_lines.result (Opens c.args.path.now c.args.constants.now ds c.args.parts)) (ap lines_in c.deref.ensures.value ∙ c.in_ok-lines.ensures) c.with_lines.ensures.opens
