-- The next port, if it is declared.
use Rattle.std.proofs.Common.{rules, ◌≡◌, ◌++◌, drop, Option, option_map, arith}
use Rattle.v_flat.specs.Declarations.{Declared, listed, port_lines}
use Rattle.v_layout.specs.Order.{line_in, lines_in}
use Rattle.v_layout.proofs.InOrder.{port_step, more_lines, pushed, not_pushed}
use Rattle.v_layout.proofs.order.add_ports.Goals as goal
use Rattle.v_layout.proofs.order.add_ports.Goals.{in-Some+in_ok-push, in_default}

pub loop-index-preserved : goal.loop-index-preserved
loop-index-preserved c =
    let r : Option Declared = option_map line_in c.port_line.result in
    let new : lines_in c.match-port_line.lines.items ≡ lines_in c.loop-index.lines.items ++ listed r = elim c.match-port_line.branch [
      | in-Some+in_ok-push w ↦ pushed c.loop-index.lines.items c.match-port_line.lines.items _ c.port_line.result w.in-Some.is (search rules)
      | in_default w ↦ not_pushed c.loop-index.lines.items c.match-port_line.lines.items c.port_line.result w.in_default.is (search rules)
    ] in
    more_lines _ (lines_in c.loop-index.lines.items) (lines_in c.match-port_line.lines.items) (port_lines (drop c.loop-index.index c.args.ports.now) c.args.declared.now) _ r
    c.loop-index.invariant (port_step c.args.ports.now c.args.declared.now c.loop-index.index r (omega arith) c.port_line.ensures) new
