use Rattle.std.proofs.Common.{◌≡◌, ◌≤◌, ◌-◌, ◌++◌, length, take, ap, ◌∙◌, arith}
use Rattle.v_lex.proofs.NumberLaws.{take_front}
use Rattle.v_lex.proofs.numbers.below.Goals as goal

pub returns-then-new-width-clause-is : goal.returns-then-new-width-clause-is
returns-then-new-width-clause-is c =
    let low = c.args.low in
    let above = c.args.above in
    let k : length low ≤ length above = omega arith in
    let s : c.slice.result ≡ take (length above - length low) above =
    rw (← c.width-width.ensures.is, ← c.width-new.ensures.is) c.slice.ensures.is in
    c.concat.ensures.is ∙ ap (λ xs. low ++ xs) s ∙ take_front (length above) low above k
