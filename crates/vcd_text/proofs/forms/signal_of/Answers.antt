use Rattle.vcd_text.proofs.FormLaws.{large_signal, signal_said}
use Rattle.vcd_text.proofs.forms.signal_of.Goals as goal

pub returns-then-number-ge-MOST_SIGNALS : goal.returns-then-number-ge-MOST_SIGNALS
returns-then-number-ge-MOST_SIGNALS c =
    large_signal c.args.text.now c.in-Some.number c.in-Some.ensures c.if-number-ge-MOST_SIGNALS.true

pub returns : goal.returns
returns c =
    signal_said c.args.text.now c.in-Some.number c.in-Some.ensures c.if-number-ge-MOST_SIGNALS.false c.as_coded.result c.as_coded.ensures
