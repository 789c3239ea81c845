-- One child more.
use Rattle.std.proofs.Common.{◌≡◌, ℕ, ◌+◌, ◌++◌, List, drop, get_or, sym, subst, arith}
use Rattle.v_flat.specs.Design.{children}
use Rattle.v_layout.specs.Order.{lines_in}
use Rattle.v_layout.specs.declared.details.Line.{Line}
use Rattle.v_layout.proofs.InOrder.{no_line}
use Rattle.v_layout.proofs.Turns.{one_child, signals_here}
use Rattle.v_layout.proofs.spots.children.Goals as goal

pub loop-line-preserved : goal.loop-line-preserved
loop-line-preserved c =
    let ls : List Line = c.args.lines.now in
    let i : ℕ = c.loop-line.line-index in
    let e = signals_here ls i no_line c.loop-line-test.true in
    let k = c.signal_count-next.ensures in
    let v = c.loop-line.invariant.1 in (
      subst (λ (n : ℕ). children c.args.first (lines_in ls) ≡ c.push.new.self ++ children (c.loop-line.next + n) (lines_in (drop (i + 1) ls))) (sym k)
          (one_child ls i c.loop-line.next no_line _ c.loop-line.found c.push.new.self c.in_ok-name.name c.spot.result c.loop-line-test.true c.loop-line.invariant.0 c.in_ok-name.ensures
          (c.spot.ensures (get_or ls i no_line).name.now) c.in_ok-push.ensures.ok),
      omega (arith, e, k, v),
    )
