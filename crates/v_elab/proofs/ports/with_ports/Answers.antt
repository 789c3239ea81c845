-- One port more.
use Rattle.std.proofs.Common.{◌+◌, [], None, ap, arith, option_map, sym, ◌∙◌}
use Rattle.v_flat.specs.Scope.Scope.{means}
use Rattle.v_header.specs.Ports.{port_in, port_of}
use Rattle.v_elab.specs.PortsSteps.{first_joined, joined_at}
use Rattle.v_elab.proofs.Loop.{a_port, going_end, going_more, going_none, same_end}
use Rattle.v_elab.proofs.ports.with_ports.Goals as goal
use Rattle.v_elab.proofs.ports.with_ports.Goals.{in-Some+in_ok-add_port, in_default}

pub loop-at-init : goal.loop-at-init
loop-at-init c =
    going_none (first_joined c.args.joints.list.items) (joined_at c.in_ok-table.table) (means c.args.scope.now) c.args.ports.now c.args.parts.now c.in_ok-table.ensures
    c.requires.distinct

pub loop-at-preserved : goal.loop-at-preserved
loop-at-preserved c = elim c.match-get.branch [
  | in-Some+in_ok-add_port w ↦ same_end (first_joined c.args.joints.list.items) (means c.args.scope.now) c.args.ports.now (c.loop-at.at + 1) c.args.parts.now w.add_port.new.parts
      c.match-get.parts w.take-joined.new.self c.match-get.table w.table-is w.parts-is
      (going_more (first_joined c.args.joints.list.items) (joined_at c.loop-at.table) (joined_at w.take-joined.new.self) (means c.args.scope.now) c.args.ports.now c.loop-at.at
      c.args.parts.now c.loop-at.parts w.add_port.new.parts (port_in w.in-Some.port) w.take-joined.result (ap (option_map port_in) (sym w.in-Some.is) ∙ c.get.ensures)
      w.take-joined.ensures.found w.take-joined.ensures.others w.in_ok-add_port.ensures c.loop-at.invariant)
  | in_default w ↦ a_port c.args.ports.now c.loop-at.at (port_of [] None) (ap (option_map port_in) (sym w.in_default.is) ∙ c.get.ensures)
      (let l = c.loop-at-test.true in let e = c.len-at-end.ensures in omega (arith, l, e))
]

pub returns : goal.returns
returns c =
    going_end (joined_at c.loop-at.table) (means c.args.scope.now) c.args.ports.now c.args.joints.list.items c.loop-at.at c.args.parts.now c.loop-at.parts (let l = c.loop-at-test.false in let e = c.len-at-end.ensures in omega (arith, l, e))
    c.requires.distinct c.loop-at.invariant
