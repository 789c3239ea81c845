-- At first no name meant anything.
use Rattle.v_syntax.specs.SourceTrees.{view_module}
use Rattle.v_flat.specs.Scope.Scope.{means}
use Rattle.v_flat.specs.Headers.{all_names}
use Rattle.v_header.proofs.LaterNames.{only_later}
use Rattle.v_header.proofs.names.later_names.Goals as goal

pub returns : goal.returns
returns c =
    only_later (all_names (view_module c.args.module.now)) (means c.new-scope.result) (means c.declare_all.new.scope) c.new-scope.ensures c.in_ok-declare_all.ensures
