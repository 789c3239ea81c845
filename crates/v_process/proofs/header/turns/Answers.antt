-- What is so of the turns that are found.
use Rattle.v_flat.specs.Scope.Scope.{width_of}
use Rattle.v_loop.specs.Turns.{HaveWidth}
use Rattle.v_process.proofs.Ended.{value_result}
use Rattle.v_process.proofs.header.turns.Goals as goal

pub returns-clause-widths : goal.returns-clause-widths
returns-clause-widths c =
    value_result (HaveWidth (width_of c.args.object.bounds)) c.in_ok-found.found c.ended.result c.ended.ensures c.in_ok-found.ensures.widths
