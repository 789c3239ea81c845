-- What is declared, and then the first state.
use Rattle.std.proofs.Common.{length}
use Rattle.v_syntax.specs.SourceTrees.{view_module}
use Rattle.v_elab.proofs.Declared.{declared_ok, names_differ, names_fit}
use Rattle.v_elab.proofs.beginning.declared.Goals as goal

pub opened-requires-clause-distinct : goal.opened-requires-clause-distinct
opened-requires-clause-distinct c =
    names_differ (view_module c.args.module.now) c.args.constants.now c.args.ports.now c.len.result c.in_ok-names.field-0 c.in-Ok.names c.in_ok-names.ensures c.requires.scope c.requires.ports c.in-Ok.is

pub opened-requires-clause-fit : goal.opened-requires-clause-fit
opened-requires-clause-fit c =
    names_fit (view_module c.args.module.now) c.args.constants.now c.args.ports.now c.len.result (length c.args.parts.signals) c.in_ok-names.field-0 c.in-Ok.names c.in_ok-names.ensures c.requires.scope c.requires.ports
    c.len.ensures c.requires.few c.in-Ok.is

pub returns-in_ok-opened-in-Ok : goal.returns-in_ok-opened-in-Ok
returns-in_ok-opened-in-Ok c =
    declared_ok (view_module c.args.module.now) c.args.path.now c.args.constants.now c.args.ports.now c.len.result c.in_ok-names.field-0 c.in-Ok.names c.args.joints.list.items c.args.parts
    c.in_ok-opened-in-Ok.field-0 c.in_ok-names.ensures c.requires.scope c.requires.ports c.len.ensures c.in-Ok.is c.in_ok-opened-in-Ok.ensures
