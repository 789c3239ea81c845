use Rattle.std.proofs.Common.{[], length, refl}
use Rattle.v_expression.proofs.Laws.{expression_laws, one_tree}
use Rattle.v_expression.proofs.reader.one_expression.Goals as goal

pub returns : goal.returns
returns c = λ d e text a b. one_tree _ _ _ _ _ (expression_laws (length text)) d e text [] a b refl
