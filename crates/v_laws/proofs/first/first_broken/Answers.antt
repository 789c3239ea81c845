use Rattle.std.proofs.Common.{◌+◌, length, Some, refl, subst, sym, arith}
use Rattle.std.proofs.lemmas.Option.{slice_get_read}
use Rattle.v_laws.proofs.Least.{CountsTo, counts_all, counts_more}
use Rattle.v_laws.proofs.first.first_broken.Goals as goal

pub loop-fault-preserved : goal.loop-fault-preserved
loop-fault-preserved c =
    subst (λ b. CountsTo c.args.faults.now (c.loop-fault.fault-index + 1) (Some b)) (sym c.counted.ensures)
    (counts_more c.args.faults.now c.loop-fault.fault-index c.loop-fault.first c.fault-item.result c.loop-fault.invariant
    (slice_get_read c.args.faults.now (length c.args.faults.now) c.loop-fault.fault-index c.fault-item.result refl c.loop-fault-test.true c.fault-item.is))

pub returns : goal.returns
returns c =
    let a = c.loop-fault-test.false in let b = c.loop-fault.auto.fault-index-end in
    counts_all c.args.faults.now c.loop-fault.fault-index c.loop-fault.first (omega (arith, a, b)) c.loop-fault.invariant
