use Rattle.std.proofs.Common.{◌≤◌, ◌+◌, ◌^◌, get_or, ap, ◌∙◌, arith, drop}
use Rattle.v_lex.specs.Numbers.{decimal_step, decimal_from}
use Rattle.v_lex.proofs.NumberLaws.{decimal_more, decimal_large, decimal_all}
use Rattle.v_lex.proofs.numbers.decimal_of.Goals as goal

pub returns-in_default : goal.returns-in_default
returns-in_default c =
    let no = c.in_default.ensures in
    let large : 2 ^ 128 ≤ decimal_step c.loop-byte.n (get_or c.args.text.now c.loop-byte.byte-index 0) = omega (arith, no) in
    decimal_large c.args.text.now c.loop-byte.byte-index c.loop-byte.n c.loop-byte-test.true c.loop-byte.invariant.rest large

pub loop-byte-preserved : goal.loop-byte-preserved
loop-byte-preserved c =
    let yes = c.in-Some.ensures in record {
      rest = ap (λ n. decimal_from n (drop (c.loop-byte.byte-index + 1) c.args.text.now)) yes.1
          ∙ decimal_more c.args.text.now c.loop-byte.byte-index c.loop-byte.n c.loop-byte-test.true c.loop-byte.invariant.rest;
      fits = rw yes.1 yes.0;
    }

pub returns : goal.returns
returns c =
    decimal_all c.args.text.now c.loop-byte.byte-index c.loop-byte.n c.loop-byte-test.false c.loop-byte.invariant.fits
    c.loop-byte.invariant.rest
