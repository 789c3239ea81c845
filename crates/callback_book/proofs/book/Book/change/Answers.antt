use Rattle.std.proofs.Common.{subst, List, [], ap, ◌∙◌}
use Rattle.gpi.specs.declared.types.Key.{Key}
use Rattle.gpi.specs.Keys.{fired_of}
use Rattle.callback_book.specs.Books.{Fires}
use Rattle.callback_book.proofs.Keys.{change_fires}
use Rattle.callback_book.proofs.book.Book.change.Goals as goal

pub taken-second-requires-clause-placed : goal.taken-second-requires-clause-placed
taken-second-requires-clause-placed c = let f = c.take_level-first.ensures.is [] in rw f.signals c.requires

pub returns-clause-fired : goal.returns-clause-fired
returns-clause-fired c = λ ts.
    let h = change_fires c.args.report.now ts c.args.self.now c.take_level-first.new.self c.taken-second.new.self _ _
    c.take_level-first.ensures.fired (c.take_level-first.ensures.is ts) c.take_level-first.ensures.other c.taken-second.ensures.fired (c.taken-second.ensures.is ts) in
    c.in_order.ensures ∙ ap fired_of h.0

pub returns-clause-is : goal.returns-clause-is
returns-clause-is c = λ ts.
    let h = change_fires c.args.report.now ts c.args.self.now c.take_level-first.new.self c.taken-second.new.self _ _
    c.take_level-first.ensures.fired (c.take_level-first.ensures.is ts) c.take_level-first.ensures.other c.taken-second.ensures.fired (c.taken-second.ensures.is ts) in
    subst (λ (ks : List Key). Fires ks ts c.args.self.now ts c.taken-second.new.self) h.0 h.1
