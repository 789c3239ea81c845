use Rattle.edge_tests.proofs.KernelLemmas.BookLaws.{no_book, opening_book}
use Rattle.edge_tests.proofs.kernel.booked.take_design.Goals as goal

pub returns-in_err-load-clause-book : goal.returns-in_err-load-clause-book
returns-in_err-load-clause-book g c =
    no_book (g.K.Gpi.content c.load.new.self) c.new.result c.in_err-load.ensures.none c.new.ensures.signals c.new.ensures.keys

pub returns-clause-book : goal.returns-clause-book
returns-clause-book g c =
    opening_book c.args.flat.now (g.K.Gpi.content c.load.new.self) (record { signals = c.len-book.result; keys = c.new.result.keys })
    c.in_ok-load.ensures.opening c.len-book.ensures c.new.ensures.keys
