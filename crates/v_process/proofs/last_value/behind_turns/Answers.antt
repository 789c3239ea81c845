-- The assignment of the last value, before nothing.
use Rattle.v_process.proofs.Looping.{ends_result}
use Rattle.v_process.proofs.last_value.behind_turns.Goals as goal

pub returns : goal.returns
returns c =
    ends_result c.args.object c.args.value c.last_assignment-last.result c.none.result c.before-2.result c.requires.plain c.last_assignment-last.ensures c.none.ensures
    c.before-2.ensures.made
