use Rattle.gpi.specs.Design.{widths}
use Rattle.v_exec.proofs.Processes.{process_here, processes_next}
use Rattle.v_exec.proofs.packing.backwards.Backwards.processes.Goals as goal

pub act-requires-clause-sound : goal.act-requires-clause-sound
act-requires-clause-sound c = process_here c.args.processes.now (widths c.args.signals.now) c.loop-at.at c.get.result.now c.get.ensures c.requires.sound

pub loop-at-preserved : goal.loop-at-preserved
loop-at-preserved c =
    processes_next c.args.processes.now c.loop-at.at c.get.result.now c.loop-at.self c.put.new.self c.act.new.self c.loop-at.places.items c.push.new.self.items c.len.result
    c.loop-at.needs c.in_ok-process.process c.or-needs.result
    c.get.ensures c.loop-at.invariant c.in_ok-put.ensures.is c.in_ok-process.ensures.packs c.len.ensures c.in_ok-push.ensures.items c.or-needs.ensures
