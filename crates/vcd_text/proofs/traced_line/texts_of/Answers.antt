use Rattle.vcd_text.proofs.SplitLaws.{no_digits, no_word}
use Rattle.vcd_text.proofs.traced_line.texts_of.Goals as goal

pub returns-in_err-behind_word : goal.returns-in_err-behind_word
returns-in_err-behind_word c =
    rw c.from_residual-in_err-behind_word.ensures
    (no_word c.args.line.now c.in_ok-text.text.now c.in_ok-text.ensures c.in_ok-time.time.now c.in_ok-time.rest.now c.in_ok-time.ensures c.in_err-behind_word.ensures)

pub returns-in_err-path : goal.returns-in_err-path
returns-in_err-path c =
    rw c.from_residual-in_err-path.ensures
    (no_digits c.args.line.now c.in_ok-text.text.now c.in_ok-text.ensures c.in_ok-time.time.now c.in_ok-time.rest.now c.in_ok-time.ensures
    c.in_ok-behind_word.field-0.now c.in_ok-behind_word.ensures c.in_err-path.ensures)
