use Rattle.std.proofs.Common.{◌∙◌}
use Rattle.py_lex.proofs.Digits.{digits_stop}
use Rattle.py_lex.proofs.numbers.digits_value.Goals as goal

pub returns-in_default : goal.returns-in_default
returns-in_default c =
    digits_stop c.args.base c.loop-byte.after_digit c.loop-byte.value c.loop-byte.byte-index c.digit_value-digit.result c.args.digits.now
    c.loop-byte-test.true c.requires.low c.if-byte-eq95.false c.digit_value-digit.ensures.value c.if-digit-base.false c.in_default.ensures
    ∙ c.loop-byte.invariant.same
