use Rattle.std.proofs.Common.{arith, ◌≡◌, ◌<◌, true, false, nat_eq, length, drop}
use Rattle.std.specs.List.{starts_with}
use Rattle.std.proofs.lemmas.List.{length-drop}
use lib.Chars.{codes}
use Rattle.v_lex.proofs.GapLaws.{comment_end_here, comment_end_later, comment_end_none}
use Rattle.v_lex.proofs.gaps.comment_end.Goals as goal

pub returns-then-starts_with-clause-is : goal.returns-then-starts_with-clause-is
returns-then-starts_with-clause-is c =
    let h : 0 < length (drop c.loop-i.i c.args.text.now) = omega (arith, length-drop c.loop-i.i c.args.text.now) in
    let t : starts_with nat_eq (drop c.loop-i.i c.args.text.now) (codes "*/") ≡ true = cc in
    comment_end_here c.args.text.now c.loop-i.i h t c.loop-i.invariant

pub loop-i-preserved : goal.loop-i-preserved
loop-i-preserved c =
    let h : 0 < length (drop c.loop-i.i c.args.text.now) = omega (arith, length-drop c.loop-i.i c.args.text.now) in
    let t : starts_with nat_eq (drop c.loop-i.i c.args.text.now) (codes "*/") ≡ false = cc in
    comment_end_later c.args.text.now c.loop-i.i h t c.loop-i.invariant

pub returns-clause-is : goal.returns-clause-is
returns-clause-is c = comment_end_none c.args.text.now c.loop-i.i c.loop-i-test.false c.loop-i.invariant
