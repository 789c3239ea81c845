use Rattle.callback_book.proofs.Keys.{with_key}
use Rattle.callback_book.proofs.book.Book.add.Goals as goal

pub returns-clause-is : goal.returns-clause-is
returns-clause-is c = λ ts us h. with_key c.args.key c.args.self.now c.note.new.self ts us c.note.ensures.is h
