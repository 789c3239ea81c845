use Rattle.std.proofs.Common.{ap, ◌∙◌, length}
use Rattle.four_value.proofs.Numbers.{length_vector}
use Rattle.edge_tests.proofs.KernelLemmas.BookLaws.{force_out}
use Rattle.edge_tests.proofs.kernel.booked.forced.Goals as goal

pub force-fired-requires-clause-width : goal.force-fired-requires-clause-width
force-fired-requires-clause-width g c =
    ap length c.from_number.ensures ∙ length_vector c.width-width.result c.from.result ∙ c.width-width.ensures.is ∙ ap length c.read.ensures

pub returns-clause-book : goal.returns-clause-book
returns-clause-book g c =
    force_out (g.K.Gpi.content c.args.kernel.now) (g.K.Gpi.content c.force-fired.new.self) c.args.sig c.from_number.result c.force-fired.result
    c.args.book.now c.take_fired.new.self c.requires.book c.force-fired.ensures.is.0 c.force-fired.ensures.is.1 c.force-fired.ensures.widths
    c.take_fired.ensures.signals c.take_fired.ensures.keys
