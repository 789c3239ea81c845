use Rattle.std.proofs.Common.{◌<◌, length, refl, false, ◌∙◌, arith}
use Rattle.v_exec.proofs.Touches.{held_there, flags_begin, flags_step, flags_end, length_there}
use Rattle.v_exec.proofs.workspace.take_back.Goals as goal

pub bounds-flags-signal : goal.bounds-flags-signal
bounds-flags-signal c =
    let h = held_there c.args.touched.now c.loop-at.at c.index-touched-at.result (omega arith) c.index-touched-at.is in
    let k = c.requires.inside c.index-touched-at.result.sig.0 h in
    let e = c.loop-at.invariant.count in
    omega arith

pub loop-at-init : goal.loop-at-init
loop-at-init c = record { count = refl; flags = flags_begin c.args.flags.now c.args.touched.now c.requires }

pub loop-at-preserved : goal.loop-at-preserved
loop-at-preserved c =
    let h = held_there c.args.touched.now c.loop-at.at c.index-touched-at.result (omega arith) c.index-touched-at.is in
    let k = c.requires.inside c.index-touched-at.result.sig.0 h in
    let e = c.loop-at.invariant.count in
    let inside : c.index-touched-at.result.sig.0 < length c.loop-at.flags = omega arith in
    let there : c.loop-at.at < length c.args.touched.now = omega arith in
    record {
      count = length_there c.loop-at.flags c.index-touched-at.result.sig.0 false ∙ e;
      flags = flags_step c.loop-at.flags c.args.touched.now c.loop-at.at c.index-touched-at.result c.loop-at.invariant.flags there c.index-touched-at.is inside;
    }

pub returns-clause-marks : goal.returns-clause-marks
returns-clause-marks c = flags_end c.loop-at.flags c.args.touched.now c.loop-at.at c.loop-at.invariant.flags (omega arith)
