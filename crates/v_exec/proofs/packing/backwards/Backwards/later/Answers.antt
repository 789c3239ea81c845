use Rattle.std.proofs.Common.{refl}
use Rattle.gpi.specs.declared.acts.Act.{Nonblocking}
use Rattle.v_exec.proofs.Statements.{packs_later_act}
use Rattle.v_exec.proofs.packing.backwards.Backwards.later.Goals as goal

pub returns-clause-packs : goal.returns-clause-packs
returns-clause-packs c =
    packs_later_act (Nonblocking c.args.target.now c.args.value.now c.args.delay) c.args.target.now c.args.value.now c.args.delay c.args.self.now
    c.target.new.self c.term.new.self c.in_ok-value.value c.in_ok-target.target c.above.result
    refl c.in_ok-target.ensures.is c.in_ok-target.ensures.depth c.in_ok-target.ensures.stores
    c.in_ok-target.ensures.few_depth c.in_ok-target.ensures.few_stores
    c.in_ok-value.ensures.is c.in_ok-value.ensures.depth c.in_ok-value.ensures.some c.in_ok-value.ensures.few
    c.above.ensures
