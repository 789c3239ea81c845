use Rattle.std.proofs.Common.{[], length, arith}
use Rattle.v_expression.proofs.Laws.{target_laws, one_tree}
use Rattle.v_expression.proofs.reader.one_target.Goals as goal

pub returns : goal.returns
returns c = λ s t text a b. one_tree _ _ _ _ _ (target_laws (length text)) s t text [] a b (omega arith)
