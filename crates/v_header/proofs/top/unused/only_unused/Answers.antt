-- One more module, a second one, and all of them.
use Rattle.std.proofs.Common.{rules, Option, Bor, ap}
use Rattle.v_syntax.specs.declared.source.Module.{Module}
use Rattle.v_header.specs.Top.Found.{module_in}
use Rattle.v_header.proofs.TopLemmas.Instances.{leaves_none, used_here, found_here, two_here, all_here}
use Rattle.v_header.proofs.top.unused.only_unused.Goals.{then-is_none+else-is_some, else-is_none}
use Rattle.v_header.proofs.top.unused.only_unused.Goals as goal

pub loop-module-init : goal.loop-module-init
loop-module-init c = leaves_none c.args.modules.now c.args.names.now

pub returns-then-is_some : goal.returns-then-is_some
returns-then-is_some c =
    two_here c.args.modules.now c.args.names.now c.loop-module.module-index c.module-item.result c.loop-module.found c.loop-module-test.true c.module-item.is
    (search rules) (search rules) c.loop-module.invariant

pub loop-module-preserved : goal.loop-module-preserved
loop-module-preserved c =
    let x = c.module-item.result in
    elim c.if-is_none.branch [
      | then-is_none+else-is_some w ↦ found_here c.args.modules.now c.args.names.now c.loop-module.module-index x c.loop-module.found c.if-is_none.found
          c.loop-module-test.true c.module-item.is (search rules) (search rules) (ap (λ (o : Option (Bor Module)). module_in o) w.found-is) c.loop-module.invariant
      | else-is_none w ↦ used_here c.args.modules.now c.args.names.now c.loop-module.module-index x c.loop-module.found c.if-is_none.found c.loop-module-test.true
          c.module-item.is (search rules) w.found-is c.loop-module.invariant
    ]

pub returns : goal.returns
returns c = all_here c.args.modules.now c.args.names.now c.loop-module.module-index c.loop-module.found c.loop-module-test.false c.loop-module.invariant
