-- The header, and then the items.
use Rattle.std.proofs.Common.{List, ap, map}
use Rattle.v_syntax.specs.declared.item.Item.{Item}
use Rattle.v_syntax.specs.SourceTrees.{view_module, view_item}
use Rattle.v_layout.proofs.Ends.{declarations_ok, declarations_err}
use Rattle.v_layout.proofs.whole.declarations.Goals as goal

pub returns-in-Ok : goal.returns-in-Ok
returns-in-Ok c =
    declarations_ok c.args.place.now (view_module c.args.module.now) (map view_item c.deref.result.now) c.in-Ok.declared c.in_ok-declared.field-0 c.declare_lines.result
    c.requires.again c.in_ok-declared.ensures c.in-Ok.is (ap (λ (is : List Item). map view_item is) c.deref.ensures.value) c.declare_lines.ensures

pub returns-in-Err : goal.returns-in-Err
returns-in-Err c =
    declarations_err c.args.place.now (view_module c.args.module.now) c.in-Err.fault c.in_ok-declared.field-0 c.requires.again c.in_ok-declared.ensures c.in-Err.is
