use Rattle.std.proofs.Common.{◌+◌, drop, ap, ◌∙◌}
use Rattle.v_lex.specs.Lexing.{earlier, earliest, left_open}
use Rattle.v_lex.proofs.ScanLaws.{open_more, open_all}
use Rattle.v_lex.proofs.scanner.first_open.Goals as goal

pub loop-conditional-preserved : goal.loop-conditional-preserved
loop-conditional-preserved c =
    let cs = c.args.conditionals.now in
    let i = c.loop-conditional.conditional-index in
    ap (λ f. earlier f (earliest (left_open (drop (i + 1) cs)))) c.earlier-first.ensures
    ∙ open_more cs i _ c.loop-conditional.first c.loop-conditional-test.true c.loop-conditional.invariant

pub returns : goal.returns
returns c =
    open_all c.args.conditionals.now c.loop-conditional.conditional-index c.loop-conditional.first c.loop-conditional-test.false
    c.loop-conditional.invariant
