use Rattle.std.proofs.Common.{◌≡◌}
use Rattle.std.proofs.lemmas.Result.{IfOk-weaker}
use Rattle.std.specs.List.{each_same, flat_map}
use Rattle.python_tests.proofs.trees.piece.joined.Goals as goal

pub returns : goal.returns
returns c =
    IfOk-weaker c.concat.result _ (λ text. text.items ≡ flat_map (λ piece. piece.now) c.args.pieces.now)
    (λ text h. each_same _ _ h)
    c.concat.ensures.ok
