use Rattle.std.proofs.Common.{◌≡◌, ◌-◌, [], ◌∷◌}
use Rattle.py_expression.specs.Phrase.Readers.{others_of}
use Rattle.py_expression.proofs.phrase.list.others.Given as goal

abbrev pub invariant-loop : goal.invariant-loop
invariant-loop g l =
    others_of g.T.Element.reading l.between l.close (l.fn.most - l.counter) l.all.items l.rest
    ≡ others_of g.T.Element.reading l.between l.close l.fn.most (l.fn.first ∷ []) l.fn.tokens
