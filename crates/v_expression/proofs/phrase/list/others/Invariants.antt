use Rattle.std.proofs.Common.{◌≡◌, ◌-◌, ◌∷◌, [], map}
use Rattle.v_syntax.specs.declared.mark.Mark.TheVariants as mark
use Rattle.v_expression.specs.Phrase.Readers.{many, many_by, with_front, starts_mark, sign, ◌▹◌}
use Rattle.v_expression.proofs.phrase.list.others.Given as goal

abbrev pub invariant-loop : goal.invariant-loop
invariant-loop g l =
    let p = sign mark.Comma ▹ g.T.Element.reading l.total l.room in
    with_front (map g.T.Element.tree l.all.items) (many_by (starts_mark mark.Comma) p (l.end - l.counter) l.rest) ≡ with_front (g.T.Element.tree l.fn.first ∷ []) (many (starts_mark mark.Comma) p l.fn.tokens)
