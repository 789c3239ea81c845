-- A statement before others.
use Rattle.std.proofs.Common.{IfOk, subst}
use Rattle.gpi.specs.declared.acts.Act.{Act}
use Rattle.v_flat.specs.declared.scope.found.Found.{Found}
use Rattle.v_process.specs.declared.act.sequences.BlockParts.{BlockParts}
use Rattle.v_process.specs.Act.Sequences.{AreMoreStatements}
use Rattle.v_process.proofs.ActLemmas.Blocks.{more_result}
use Rattle.v_process.proofs.act.sequences.BlockParts.before.Goals as goal

pub returns-clause-checks : goal.returns-clause-checks
returns-clause-checks c =
    more_result c.args.first c.args.rest c.of_both.result
    (subst (λ (x : Found (Act × BlockParts)). IfOk c.of_both.result (AreMoreStatements x)) c.both.ensures c.of_both.ensures)

pub returns-clause-made : goal.returns-clause-made
returns-clause-made c = subst (λ (x : Found (Act × BlockParts)). IfOk c.of_both.result (AreMoreStatements x)) c.both.ensures c.of_both.ensures
