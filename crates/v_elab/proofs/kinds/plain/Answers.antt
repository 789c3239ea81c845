-- What the item makes of the instance, or breaks.
use Rattle.v_syntax.specs.SourceTrees.{view_kind}
use Rattle.v_elab.proofs.Plain.{plain_broken, plain_passed}
use Rattle.v_elab.proofs.kinds.plain.Goals as goal

pub returns-in-Ok : goal.returns-in-Ok
returns-in-Ok c =
    plain_passed c.args.level.now c.args.item.now.at (view_kind c.args.item.now.kind) c.args.walked c.in_ok-state.field-0 c.in-Ok.state c.requires.plain c.requires.ready c.in_ok-state.ensures
    c.in-Ok.is

pub returns-in-Err : goal.returns-in-Err
returns-in-Err c =
    plain_broken c.args.level.now c.args.item.now.at (view_kind c.args.item.now.kind) c.args.walked c.in_ok-state.field-0 c.in-Err.fault c.requires.plain c.in_ok-state.ensures c.in-Err.is
