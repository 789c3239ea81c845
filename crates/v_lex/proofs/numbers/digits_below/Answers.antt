use Rattle.std.proofs.Common.{◌≡◌, ◌≤◌, None, Some, length, get_or, sym, ◌∙◌, arith, eq-eqb, ne_eqb}
use Rattle.v_lex.specs.Digits.{digits_of}
use Rattle.v_lex.proofs.NumberLaws.{digits_skip, digits_wrong, digits_more, digits_all}
use Rattle.v_lex.proofs.numbers.digits_below.Goals as goal

pub loop-byte-preserved-then-byte-eq95 : goal.loop-byte-preserved-then-byte-eq95
loop-byte-preserved-then-byte-eq95 c = record {
  rest = digits_skip _ c.args.bits c.loop-byte.read c.args.text.now c.loop-byte.byte-index _ c.loop-byte-test.true
      (eq-eqb _ _ c.if-byte-eq95.true) c.loop-byte.invariant.rest;
  width = c.loop-byte.invariant.width;
}

pub returns-in_default : goal.returns-in_default
returns-in_default c =
    let n = get_or c.args.text.now c.loop-byte.byte-index 0 in
    let e : digits_of c.args.bits n ≡ None = sym c.digits_of.ensures ∙ c.in_default.is in
    digits_wrong _ c.args.bits c.loop-byte.read c.args.text.now c.loop-byte.byte-index _ c.loop-byte-test.true
    (ne_eqb _ _ c.if-byte-eq95.false) e c.loop-byte.invariant.rest

pub loop-byte-preserved : goal.loop-byte-preserved
loop-byte-preserved c =
    let n = get_or c.args.text.now c.loop-byte.byte-index 0 in
    let e : digits_of c.args.bits n ≡ Some c.in-Some.digits = sym c.digits_of.ensures ∙ c.in-Some.is in record {
      rest = digits_more _ c.args.bits c.loop-byte.read c.in-Some.digits c.below-read.result c.args.text.now c.loop-byte.byte-index _
          c.loop-byte-test.true (ne_eqb _ _ c.if-byte-eq95.false) e (rw (← c.loop-byte.invariant.width) c.below-read.ensures.is)
          c.loop-byte.invariant.rest;
      width = c.below-read.ensures.wide ∙ c.loop-byte.invariant.width;
    }

pub returns : goal.returns
returns c =
    let h : length c.loop-byte.read ≤ length c.args.above = omega arith in
    digits_all _ c.args.bits c.loop-byte.read c.args.text.now c.loop-byte.byte-index _ c.loop-byte-test.false h c.loop-byte.invariant.rest
