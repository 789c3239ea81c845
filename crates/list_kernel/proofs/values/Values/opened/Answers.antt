use Rattle.std.proofs.Common.{◌∙◌, sym}
use Rattle.kernel_base.proofs.Hiding.{start_unforced}
use Rattle.list_kernel.proofs.Hiding.{values_opened}
use Rattle.list_kernel.proofs.values.Values.opened.Goals as goal

pub returns-clause-hidden : goal.returns-clause-hidden
returns-clause-hidden c = (rw c.len.ensures at c.in_ok-hidden.ensures) ∙ sym (start_unforced c.args.signals.now)

pub returns-clause-values : goal.returns-clause-values
returns-clause-values c =
    values_opened c.args.signals.now _ c.requires.few c.in_ok-shown.ensures (c.in_ok-shown_before.ensures.items ∙ (c.deref.ensures.value ∙ c.in_ok-shown.ensures))
    (rw c.len.ensures at c.in_ok-hidden.ensures) (rw c.len-2.ensures at c.in_ok-hidden_before.ensures)
