use Rattle.std.proofs.Common.{arith, ◌≡◌, ◌<◌, ◌-◌, ◌+◌, suc, [], length, ap, sym, ◌∙◌, Some, None, take}
use Rattle.std.proofs.lemmas.List.{nil_from_length}
use Rattle.std.proofs.lemmas.Bool.{eqb-true, eqb-false}
use Rattle.v_lex.specs.DirectiveScan.{is_blank, gap_size}
use Rattle.v_lex.specs.declared.bytes.ByteClass.TheVariants as class
use Rattle.v_lex.specs.Bytes.{run}
use Rattle.v_lex.proofs.GapLaws.{blank_nil, blank_zero, blank_at_end, blank_wrong, blank_past, blank_goes_on}
use Rattle.v_lex.proofs.gaps.is_blank.Goals as goal

pub returns-then-is_empty : goal.returns-then-is_empty
returns-then-is_empty c =
    let e : c.loop.rest.now ≡ [] = nil_from_length _ (eqb-true _ _ (sym c.is_empty.ensures ∙ c.if-is_empty.true)) in
    sym (ap (is_blank (length c.args.text.now - c.loop.counter)) e ∙ blank_nil _) ∙ c.loop.invariant

pub returns : goal.returns
returns c =
    let k : length c.args.text.now - c.loop.counter ≡ 0 = omega arith in
    sym (ap (λ n. is_blank n c.loop.rest.now) k ∙ blank_zero c.loop.rest.now) ∙ c.loop.invariant

pub returns-then-rest-eq10 : goal.returns-then-rest-eq10
returns-then-rest-eq10 c =
    let n = length c.args.text.now - c.loop.counter in
    let k : n ≡ suc (n - 1) = omega arith in
    let ne = eqb-false (length c.loop.rest.now) 0 (sym c.is_empty.ensures ∙ c.if-is_empty.false) in
    let h : 0 < length c.loop.rest.now = omega arith in
    sym (blank_at_end n (n - 1) c.loop.rest.now k h c.if-rest-eq10.true) ∙ c.loop.invariant

pub returns-in_default : goal.returns-in_default
returns-in_default c =
    let n = length c.args.text.now - c.loop.counter in
    let k : n ≡ suc (n - 1) = omega arith in
    let ne = eqb-false (length c.loop.rest.now) 0 (sym c.is_empty.ensures ∙ c.if-is_empty.false) in
    let h : 0 < length c.loop.rest.now = omega arith in
    let g : gap_size c.loop.rest.now ≡ None = sym c.gap_size.ensures.is ∙ c.in_default.is in
    sym (blank_wrong n (n - 1) c.loop.rest.now k h c.if-rest-eq10.false g) ∙ c.loop.invariant

pub returns-then-in_line-n : goal.returns-then-in_line-n
returns-then-in_line-n c =
    let n = length c.args.text.now - c.loop.counter in
    let k : n ≡ suc (n - 1) = omega arith in
    let ne = eqb-false (length c.loop.rest.now) 0 (sym c.is_empty.ensures ∙ c.if-is_empty.false) in
    let h : 0 < length c.loop.rest.now = omega arith in
    let g : gap_size c.loop.rest.now ≡ Some c.in-Some.n = sym c.gap_size.ensures.is ∙ c.in-Some.is in
    let r : c.run-in_line.result ≡ run class.Line (take c.in-Some.n c.loop.rest.now) =
    c.run-in_line.ensures.is ∙ ap (run class.Line) c.split_at.ensures.front in
    sym (blank_past n (n - 1) c.in-Some.n c.loop.rest.now k h c.if-rest-eq10.false g (λ e. c.if-in_line-n.true (r ∙ e)))
    ∙ c.loop.invariant

pub loop-preserved : goal.loop-preserved
loop-preserved c =
    let n = length c.args.text.now - c.loop.counter in
    let m = length c.args.text.now - (c.loop.counter + 1) in
    let k : n ≡ suc m = omega arith in
    let ne = eqb-false (length c.loop.rest.now) 0 (sym c.is_empty.ensures ∙ c.if-is_empty.false) in
    let h : 0 < length c.loop.rest.now = omega arith in
    let g : gap_size c.loop.rest.now ≡ Some c.in-Some.n = sym c.gap_size.ensures.is ∙ c.in-Some.is in
    let r : c.run-in_line.result ≡ run class.Line (take c.in-Some.n c.loop.rest.now) =
    c.run-in_line.ensures.is ∙ ap (run class.Line) c.split_at.ensures.front in
    ap (is_blank m) c.split_at.ensures.back
    ∙ sym (blank_goes_on n m c.in-Some.n c.loop.rest.now k h c.if-rest-eq10.false g (sym r ∙ c.if-in_line-n.false)) ∙ c.loop.invariant
