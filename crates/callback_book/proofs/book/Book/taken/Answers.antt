use Rattle.std.proofs.Common.{subst, List, sym, ◌∙◌}
use Rattle.gpi.specs.declared.types.Key.{Key}
use Rattle.callback_book.specs.Books.{Fires}
use Rattle.callback_book.proofs.Keys.{flagged}
use Rattle.callback_book.proofs.book.Book.taken.Goals as goal

pub returns-then-take-clause-is : goal.returns-then-take-clause-is
returns-then-take-clause-is c = λ ts.
    subst (λ (ks : List Key). Fires ks ts c.args.self.now ts c.take.new.self) (flagged c.args.key c.args.self.now (sym c.take.ensures.there ∙ c.if-take.true)) (c.take.ensures.fires ts)
