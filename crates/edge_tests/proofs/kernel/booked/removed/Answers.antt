use Rattle.edge_tests.proofs.KernelLemmas.BookLaws.{struck}
use Rattle.edge_tests.proofs.kernel.booked.removed.Goals as goal

pub returns-clause-book : goal.returns-clause-book
returns-clause-book g c =
    struck c.args.key (g.K.Gpi.content c.args.kernel.now) (g.K.Gpi.content c.remove.new.self) c.args.book.now c.take_out.new.self
    c.requires.book c.remove.ensures.is c.take_out.ensures.signals c.take_out.ensures.keys
