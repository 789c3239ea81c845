use Rattle.std.proofs.Common.{refl}
use Rattle.gpi.specs.declared.acts.Act.{Blocking}
use Rattle.v_exec.proofs.Statements.{packs_blocking_act}
use Rattle.v_exec.proofs.packing.backwards.Backwards.at_once.Goals as goal

pub returns-clause-packs : goal.returns-clause-packs
returns-clause-packs c =
    packs_blocking_act (Blocking c.args.target.now c.args.value.now) c.args.target.now c.args.value.now c.args.self.now c.blocking.new.self c.term.new.self
    c.in_ok-value.value c.in_ok-target.target c.above.result
    refl c.in_ok-target.ensures.is c.in_ok-target.ensures.depth c.in_ok-target.ensures.stores
    c.in_ok-target.ensures.few_depth c.in_ok-target.ensures.few_stores
    c.in_ok-value.ensures.is c.in_ok-value.ensures.depth c.in_ok-value.ensures.some c.in_ok-value.ensures.few
    c.above.ensures
