-- A name that has a place, and one that has none.
use Rattle.test_names.proofs.LocalsLemmas.Numbers.{known, new}
use Rattle.test_names.proofs.locals.numbered.add.Goals as goal

pub returns-then-is_some : goal.returns-then-is_some
returns-then-is_some c = λ ns a.
    known ns c.args.name.now c.args.before c.is_some.result c.find.result c.is_some.ensures c.find.ensures c.if-is_some.true a

pub returns : goal.returns
returns c = λ ns a.
    new ns c.args.name.now c.args.before _ c.is_some.result c.find.result c.len.result _ c.is_some.ensures c.find.ensures c.if-is_some.false
    c.len.ensures c.in_ok-of.ensures c.in_ok-push.ensures.ok c.in_ok-note.ensures.ok a
