-- The next name, unless it is that of a port.
use Rattle.std.proofs.Common.{rules, ◌≡◌, ℕ, ◌++◌, List, drop, map, Option, option_map, arith}
use Rattle.v_flat.specs.Headers.{port_name}
use Rattle.v_flat.specs.Declarations.{Declared, listed, other_lines}
use Rattle.v_layout.specs.Order.{line_in, lines_in}
use Rattle.v_layout.proofs.InOrder.{other_step, more_lines, pushed, not_pushed}
use Rattle.v_layout.proofs.order.add_others.Goals as goal
use Rattle.v_layout.proofs.order.add_others.Goals.{in-Some+in_ok-push, in_default}

pub loop-index-preserved : goal.loop-index-preserved
loop-index-preserved c =
    let r : Option Declared = option_map line_in c.other_line.result in
    let ns : List (List ℕ) = map port_name c.args.ports.now in
    let new : lines_in c.match-other_line.lines.items ≡ lines_in c.loop-index.lines.items ++ listed r = elim c.match-other_line.branch [
      | in-Some+in_ok-push w ↦ pushed c.loop-index.lines.items c.match-other_line.lines.items _ c.other_line.result w.in-Some.is (search rules)
      | in_default w ↦ not_pushed c.loop-index.lines.items c.match-other_line.lines.items c.other_line.result w.in_default.is (search rules)
    ] in
    more_lines _ (lines_in c.loop-index.lines.items) (lines_in c.match-other_line.lines.items) (other_lines ns (drop c.loop-index.index c.args.declared.now)) _ r
    c.loop-index.invariant (other_step ns c.args.declared.now c.loop-index.index r (omega arith) c.other_line.ensures) new
