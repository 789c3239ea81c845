-- A name behind the text of a path.
use Rattle.std.proofs.lemmas.Result.{IfOk-weaker}
use Rattle.v_layout.proofs.PathTexts.{text_below}
use Rattle.v_layout.proofs.paths.path_below.Goals as goal

pub returns : goal.returns
returns c = IfOk-weaker c.dotted.result _ _ (λ t e. text_below c.args.path.now c.args.name.now t.items e) c.dotted.ensures
