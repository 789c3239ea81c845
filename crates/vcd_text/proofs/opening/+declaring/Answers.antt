use Rattle.std.specs.Prelude.{◌≡◌, ◌-◌, ◌++◌, ◌∷◌, [], suc, List, ℕ}
use Rattle.std.proofs.Common.{arith, ap, ◌∙◌}
use Rattle.vcd_text.specs.OpeningLines.{inner_lines}
use Rattle.vcd_text.proofs.ListSteps.{one_more}
use Rattle.vcd_text.proofs.LineSteps.{inner_split, instance_made, no_children, on_ok}
use Rattle.vcd_text.proofs.opening.+declaring.Goals as goal

pub add_inside-returns-then-node-len : goal.add_inside-returns-then-node-len
add_inside-returns-then-node-len t c =
    let past = c.if-node-len.true in let size = c.len.ensures in
    no_children c.args.flat.now c.args.room c.args.node c.args.lines.now (omega (arith, past, size))

pub add_instance-returns : goal.add_instance-returns
add_instance-returns t c =
    let some = c.if-room-eq0.false in let less : c.args.room ≡ suc (c.args.room - 1) = omega (arith, some) in
    on_ok c.add_line-2.result
    (λ last. instance_made c.args.flat.now c.args.room (c.args.room - 1) c.args.name.now c.args.node c.args.lines.now c.add_line.new.lines c.add_inside.new.lines c.add_line-2.new.lines less
    (c.in_ok-add_line.ensures ∙ ap (λ (line : List ℕ). c.args.lines.now ++ line ∷ []) (c.deref.ensures.value ∙ c.in_ok-line.ensures))
    c.in_ok-add_inside.ensures last)
    c.add_line-2.ensures

pub add_instances-loop-at-preserved : goal.add_instances-loop-at-preserved
add_instances-loop-at-preserved t c =
    one_more (inner_lines c.args.flat.now c.args.room) (inner_split c.args.flat.now c.args.room) c.loop-at.lines c.add_inner.new.lines _ c.args.children.now c.loop-at.at c.get.result.now
    c.get.ensures c.in_ok-add_inner.ensures c.loop-at.invariant
