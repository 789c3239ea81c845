-- One name more, before those behind it.
use Rattle.std.proofs.Common.{◌≡◌, ℕ, ◌+◌, ◌-◌, ◌<◌, List, length, drop, get_or, sym, ap, subst, arith}
use Rattle.v_flat.specs.Scope.Scope.{means}
use Rattle.v_flat.specs.Declarations.{signals_in}
use Rattle.v_flat.specs.Design.{entries}
use Rattle.v_layout.specs.declared.details.Line.{Line}
use Rattle.v_layout.specs.Order.{lines_in}
use Rattle.v_layout.proofs.InOrder.{no_line, line_proper}
use Rattle.v_layout.proofs.Turns.{one_name, signals_here, signals_left}
use Rattle.v_layout.proofs.meanings.declared_scope.Goals as goal

pub signal_count-next-requires : goal.signal_count-next-requires
signal_count-next-requires c = (line_proper c.args.lines.now (c.loop-at.at - 1) no_line (omega arith) c.requires.proper).1

pub overflow_sub-next : goal.overflow_sub-next
overflow_sub-next c =
    let ls : List Line = c.args.lines.now in
    let i : ℕ = c.loop-at.at - 1 in
    let at : i + 1 ≡ c.loop-at.at = omega arith in
    let e = signals_here ls i no_line (omega arith) in
    let f = ap (λ (n : ℕ). signals_in (lines_in (drop n ls))) at in
    let g = signals_left ls i in
    let k = c.signal_count-next.ensures in
    let v = c.loop-at.invariant.1 in
    omega (arith, e, f, g, k, v)

pub loop-at-preserved : goal.loop-at-preserved
loop-at-preserved c =
    let ls : List Line = c.args.lines.now in
    let i : ℕ = c.loop-at.at - 1 in
    let at : i + 1 ≡ c.loop-at.at = omega arith in
    let inside : i < length ls = omega arith in
    let e = signals_here ls i no_line inside in
    let f = ap (λ (n : ℕ). signals_in (lines_in (drop n ls))) at in
    let g = signals_left ls i in
    let k = c.signal_count-next.ensures in
    let v = c.loop-at.invariant.1 in (
      one_name ls i (c.loop-at.next - c.signal_count-next.result) c.loop-at.next no_line (means c.loop-at.scope) (means c.declare.new.self) c.object.result inside
          (omega (arith, e, f, g, k, v))
          (subst (λ (n : ℕ). means c.loop-at.scope ≡ means (entries c.loop-at.next (lines_in (drop n ls)))) (sym at) c.loop-at.invariant.0)
          (c.object.ensures (get_or ls i no_line).name.now) c.in_ok-declare.ensures.ok,
      omega (arith, e, f, g, k, v),
    )
