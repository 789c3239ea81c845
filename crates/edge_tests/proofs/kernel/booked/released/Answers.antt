use Rattle.edge_tests.proofs.KernelLemmas.BookLaws.{release_out}
use Rattle.edge_tests.proofs.kernel.booked.released.Goals as goal

pub returns-clause-book : goal.returns-clause-book
returns-clause-book g c =
    release_out (g.K.Gpi.content c.args.kernel.now) (g.K.Gpi.content c.release-fired.new.self) c.args.sig c.release-fired.result
    c.args.book.now c.take_fired.new.self c.requires.book c.release-fired.ensures.is.0 c.release-fired.ensures.is.1 c.release-fired.ensures.widths
    c.take_fired.ensures.signals c.take_fired.ensures.keys
