use Rattle.callback_book.proofs.Keys.{without_key}
use Rattle.callback_book.proofs.book.Book.remove.Goals as goal

pub returns-clause-is : goal.returns-clause-is
returns-clause-is c = λ ts us h. without_key c.args.key c.args.self.now c.note.new.self ts us c.note.ensures.is h
