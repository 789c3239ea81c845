use Rattle.value_tests.proofs.ExpressionsLemmas.WholeLaws.{all_read, more_left, none_read}
use Rattle.value_tests.proofs.expressions.answer.read.Goals as goal

pub returns-in-Ok-default-empty : goal.returns-in-Ok-default-empty
returns-in-Ok-default-empty c =
    let arm = c.in-Ok-default-empty in
    rw c.low.ensures (all_read c.args.tokens.now (arm.read, arm.field-0-1) arm.len_below arm.ensures.found arm.ensures.only)

pub returns-in-Ok-default-len1-up : goal.returns-in-Ok-default-len1-up
returns-in-Ok-default-len1-up c =
    let arm = c.in-Ok-default-len1-up in
    more_left c.args.tokens.now (arm.field-0-0, arm.field-0-1) arm.len_at_least arm.ensures.only

pub returns-in-Err-Wrong : goal.returns-in-Err-Wrong
returns-in-Err-Wrong c = none_read c.args.tokens.now (rw c.in-Err-Wrong.field-0-is at c.in-Err-Wrong.ensures.only)
