-- One more module, and all of them.
use Rattle.std.proofs.Common.{List, map, refl, subst}
use Rattle.v_syntax.specs.declared.item.Item.{Item}
use Rattle.v_syntax.specs.SourceTrees.{view_item}
use Rattle.v_flat.specs.Design.{instance_names}
use Rattle.v_header.specs.Top.Modules.{AddsNames}
use Rattle.v_header.proofs.TopLemmas.Instances.{adding_none, adding_all, modules_more, names_alone, names_of_modules}
use Rattle.v_header.proofs.top.unused.used_modules.Goals as goal

pub loop-module-init : goal.loop-module-init
loop-module-init c = adding_none names_of_modules c.args.modules.now c.new-names.result

pub loop-module-preserved : goal.loop-module-preserved
loop-module-preserved c =
    modules_more c.args.modules.now c.loop-module.module-index c.module-item.result c.new-names.result c.loop-module.names c.add_instances.new.names
    c.loop-module-test.true c.module-item.is
    (subst (λ (is : List Item). AddsNames c.loop-module.names c.add_instances.new.names (instance_names (map view_item is))) c.deref.ensures.value
    c.in_ok-add_instances.ensures) c.loop-module.invariant

pub returns : goal.returns
returns c =
    names_alone (names_of_modules c.args.modules.now) c.new-names.result c.loop-module.names (λ n i. c.new-names.ensures i n)
    (adding_all names_of_modules c.args.modules.now c.loop-module.module-index c.new-names.result c.loop-module.names refl c.loop-module-test.false c.loop-module.invariant)
