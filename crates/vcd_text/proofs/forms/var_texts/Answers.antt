use Rattle.vcd_text.proofs.FormLaws.{no_var_code, no_var_width}
use Rattle.vcd_text.proofs.forms.var_texts.Goals as goal

pub returns-in_err-width : goal.returns-in_err-width
returns-in_err-width c =
    rw c.from_residual-in_err-width.ensures (no_var_width c.args.line.now c.in_ok-behind.field-0.now c.in_ok-kind.kind.now c.in_ok-kind.behind_kind.now c.in_ok-behind.ensures c.in_ok-kind.ensures c.in_err-width.ensures)

pub returns-in_err-code : goal.returns-in_err-code
returns-in_err-code c =
    rw c.from_residual-in_err-code.ensures (no_var_code c.args.line.now c.in_ok-behind.field-0.now c.in_ok-kind.kind.now c.in_ok-kind.behind_kind.now c.in_ok-width.width.now c.in_ok-width.behind_width.now c.in_ok-behind.ensures c.in_ok-kind.ensures c.in_ok-width.ensures c.in_err-code.ensures)
