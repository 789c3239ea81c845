-- A name that is declared isn't new.
use Rattle.v_flat.specs.Declarations.{find_declared}
use Rattle.std.proofs.Common.{◌∙◌}
use Rattle.v_layout.proofs.Steps.{new_none, new_some}
use Rattle.v_layout.proofs.change.is_new.Goals as goal

pub returns-in-None : goal.returns-in-None
returns-in-None c = c.is_free.ensures ∙ new_none _ (find_declared c.args.name.now c.args.so_far.now) c.in-None.ensures

pub returns-in-Some : goal.returns-in-Some
returns-in-Some c = new_some _ (find_declared c.args.name.now c.args.so_far.now) _ c.in-Some.ensures
