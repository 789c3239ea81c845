use Rattle.std.proofs.Common.{◌<◌, length, vec_len, vec_capacity, arith}
use Rattle.gpi.specs.Terms.{widths_of}
use Rattle.gpi.proofs.Steps.{fitting_at}
use Rattle.v_exec.proofs.store.write_all.Goals as goal

pub write-requires : goal.write-requires
write-requires g c =
    let i = c.loop-at.invariant in
    let inside : c.loop-at.at < length c.args.updates.now = omega arith in
    let free : vec_len c.loop-at.touched < vec_capacity c.loop-at.touched = omega arith in (
      fitting_at c.args.updates.now c.loop-at.at c.index-updates-at.result (widths_of c.loop-at.shown) inside c.index-updates-at.is i.fits,
      (i.hidden, (i.count, (i.marks, (i.touched, free)))),
    )
