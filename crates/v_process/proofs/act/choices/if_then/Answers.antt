-- A conditional statement with one branch.
use Rattle.v_process.proofs.ActLemmas.Chosen.{then_result}
use Rattle.v_process.proofs.act.choices.if_then.Goals as goal

pub returns : goal.returns
returns c =
    then_result c.args.condition c.args.yes c.without_effect.result c.if_else.result c.without_effect.ensures c.if_else.ensures
