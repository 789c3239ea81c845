use Rattle.callback_book.proofs.Keys.{time_set}
use Rattle.callback_book.proofs.book.Book.note.Goals as goal

pub returns-in-At-clause-is : goal.returns-in-At-clause-is
returns-in-At-clause-is c = λ k n. rw c.in-At.is (time_set _ c.args.on c.args.self.now k n)
