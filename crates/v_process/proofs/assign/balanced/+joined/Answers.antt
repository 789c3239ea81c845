-- The lower and the higher parts together.
use Rattle.std.proofs.Common.{◌≡◌, ◌/◌, List, length, subst, arith, rules}
use Rattle.gpi.specs.declared.targets.Target.{Target}
use Rattle.v_process.specs.Assign.Braces.{MakesAll}
use Rattle.v_process.proofs.AssignLemmas.Halves.{joined_boxes}
use Rattle.v_process.proofs.assign.balanced.+joined.Goals as goal

pub returns : goal.returns
returns t c =
    let ts = c.args.targets.items in
    let n = c.len-count.result in
    let is : n ≡ length ts = search rules in
    let some = c.requires in
    let more = c.if-count-eq1.false in
    let p = c.in_ok-high-3.high in
    let q = c.in_ok-high-3.low in
    joined_boxes ts (n / 2) c.in_ok-high-2.high c.in_ok-low.low p q
    (omega (arith, is, some, more)) (omega (arith, is)) (omega (arith, is))
    (subst (λ (xs : List Target). MakesAll xs c.in_ok-low.low) c.in_ok-high.ensures.items c.in_ok-low.ensures)
    (subst (λ (xs : List Target). MakesAll xs c.in_ok-high-2.high) c.in_ok-high.ensures.tail c.in_ok-high-2.ensures)
    c.in_ok-high-3.ensures.0 c.in_ok-high-3.ensures.1
